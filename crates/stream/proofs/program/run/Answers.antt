-- run: a fault of the run or of saving its state is a stop of the files that the options name.
use Rattle.std.proofs.{Common.{is_some, sym, ◌∙◌, ap}, lemmas.Result.{IfErr-at_err, err_from_is_err_and}}
use Rattle.napt_program.specs.{CommandLine.files_with_log, Command.IsRunStop}
use Rattle.napt_program.proofs.StateLemmas.{save_stop}
use Rattle.stream.proofs.program.run.Goals as goal

pub returns-in_err-state : goal.returns-in_err-state
returns-in_err-state g c =
    let p = err_from_is_err_and c.from_residual-in_err-state.result c.from_residual-in_err-state.ensures.1 in
    rw (p.1, p.2) (IfErr-at_err (IsRunStop c.args.streams (files_with_log c.args.options.now)) c.in_err-state.was
    (c.over-captures.ensures.stop c.args.streams))

pub returns-in_err-finish : goal.returns-in_err-finish
returns-in_err-finish g c =
    let p = err_from_is_err_and c.from_residual-in_err-finish.result c.from_residual-in_err-finish.ensures.1 in
    rw (p.1, p.2) (save_stop c.args.streams c.args.options.now c.in_err-finish.field-0.0
    (sym c.in_ok-config.ensures.save ∙ ap is_some c.in-Some-Some.is-0) c.in_err-finish.ensures.refused)

pub returns-in_err-sync : goal.returns-in_err-sync
returns-in_err-sync g c =
    let p = err_from_is_err_and c.from_residual-in_err-sync.result c.from_residual-in_err-sync.ensures.1 in
    rw (p.1, p.2) (c.in_err-sync.ensures c.args.streams (files_with_log c.args.options.now))

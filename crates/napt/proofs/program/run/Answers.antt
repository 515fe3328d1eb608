-- run: a fault of the run or of saving its state is a stop of the files that the options name.
use Rattle.std.proofs.{Common.{◌≡◌, true, is_some, ap}, lemmas.Result.err_from_is_err_and}
use Rattle.napt_program.specs.CommandLine.{files_with_log}
use Rattle.napt_program.proofs.StateLemmas.{save_stop}
use Rattle.napt.proofs.program.run.Goals as goal

pub returns-in_err-end : goal.returns-in_err-end
returns-in_err-end g c =
    let p = err_from_is_err_and c.from_residual-in_err-end.result c.from_residual-in_err-end.ensures.1 in
    rw (p.1, p.2) (c.in_err-end.ensures c.args.streams)

pub returns-in_err-finish : goal.returns-in_err-finish
returns-in_err-finish g c =
    let p = err_from_is_err_and c.from_residual-in_err-finish.result c.from_residual-in_err-finish.ensures.1 in
    let named : is_some c.args.options.now.files.save ≡ true =
    cc (c.in_ok-config.ensures.save, ap is_some c.in-Some-Some.is-0) in
    rw (p.1, p.2) (save_stop c.args.streams c.args.options.now c.in_err-finish.field-0.0 named
    c.in_err-finish.ensures.refused)

pub returns-in_err-sync : goal.returns-in_err-sync
returns-in_err-sync g c =
    let p = err_from_is_err_and c.from_residual-in_err-sync.result c.from_residual-in_err-sync.ensures.1 in
    rw (p.1, p.2) (c.in_err-sync.ensures c.args.streams (files_with_log c.args.options.now))

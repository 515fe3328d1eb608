-- open: a stop of the state's new file is a stop of the run, and the log's counts and presence do not change.
use Rattle.std.proofs.{Common.{◌∙◌}, lemmas.Result.err_from_is_err_and}
use Rattle.napt_program.proofs.{LogLemmas.log_is_there, StateLemmas.new_stop}
use Rattle.napt_program.proofs.command.open.Goals as goal

pub returns-in_err-state_file-clause-stop : goal.returns-in_err-state_file-clause-stop
returns-in_err-state_file-clause-stop g c =
    let p = err_from_is_err_and c.from_residual-in_err-state_file.result c.from_residual-in_err-state_file.ensures.1 in
    rw (p.1, p.2) (new_stop c.args.streams c.args.options.now.files _ c.in_err-state_file.field-0.0
    c.in_err-state_file.ensures.refused)

pub returns-clause-log : goal.returns-clause-log
returns-clause-log g c = c.in_ok-buffered_log.ensures.given ∙ log_is_there _ _ _ _ _ c.in_ok-files.ensures.open.1

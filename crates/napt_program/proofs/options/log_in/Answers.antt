-- log_in: the log is the value of its option.
use Rattle.napt_program.proofs.LineLemmas.{if_ok_is, log_named}
use Rattle.napt_program.proofs.options.log_in.Goals as goal

pub returns-then-takes_log-clause-value : goal.returns-then-takes_log-clause-value
returns-then-takes_log-clause-value c =
    if_ok_is c.value_of.result _ _ _ (log_named c.args.takes_log c.args.matches.now c.if-takes_log.true)
    c.value_of.ensures

-- effects_have_the_rows: the law follows, since the log by the effects of a run's inputs is the log of the run.
use Rattle.napt_log_text.proofs.Logs.{effects_have_the_rows}
use Rattle.napt_log_text.proofs.log_rows.effects_have_the_rows.Goals as goal

pub returns : goal.returns
returns c = effects_have_the_rows c.effects_are_the_log.ensures.log

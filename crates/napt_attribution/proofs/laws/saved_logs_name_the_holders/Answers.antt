-- saved_logs_name_the_holders: a request finds the same holders in the rows of a whole log as in the log.
use Rattle.napt_attribution.proofs.LogLaws.{rows_name, rows_tell}
use Rattle.napt_attribution.proofs.laws.saved_logs_name_the_holders.Goals as goal

pub returns-clause-tell : goal.returns-clause-tell
returns-clause-tell c = rows_tell c.parts_are_the_log.ensures

pub returns-clause-name : goal.returns-clause-name
returns-clause-name c = rows_name (rows_tell c.parts_are_the_log.ensures)

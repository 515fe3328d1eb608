-- logs_join: the three laws of texts follow from the laws of logs that continue from a state.
use Rattle.napt_log_text.proofs.Logs.{logs_join, pieces_stand_alone, saved_logs_join}
use Rattle.napt_log_text.proofs.log_rows.logs_join.Goals as goal

pub returns-clause-join : goal.returns-clause-join
returns-clause-join c = logs_join c.logs_go_on.ensures.go_on

pub returns-clause-saved : goal.returns-clause-saved
returns-clause-saved c = saved_logs_join c.logs_go_on.ensures.saved

pub returns-clause-pieces : goal.returns-clause-pieces
returns-clause-pieces c = pieces_stand_alone c.logs_go_on.ensures.go_on

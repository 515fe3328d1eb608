-- started_logs_go_on: the three laws of the log with which a run starts.
use Rattle.napt_account.proofs.{LogStarts.{logs_begin_anew, states_have_logs}, SavedLogs.saved_logs_are_taken_up}
use Rattle.napt_account.proofs.log_start.started_logs_go_on.Goals as goal

pub returns-clause-states : goal.returns-clause-states
returns-clause-states c = states_have_logs

pub returns-clause-anew : goal.returns-clause-anew
returns-clause-anew c = logs_begin_anew

pub returns-clause-saved : goal.returns-clause-saved
returns-clause-saved c = saved_logs_are_taken_up c.taken_states_are_kept.ensures.sound c.runs_go_on.ensures.alike
    c.saved_runs_go_on.ensures.go_on c.saved_runs_go_on.ensures.alike

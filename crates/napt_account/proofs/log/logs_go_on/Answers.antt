-- logs_go_on: the three laws, from the laws of runs that start from a state.
use Rattle.napt_account.proofs.ContinuedLogs as lemmas
use Rattle.napt_account.proofs.InputEffects.{logs_are_of_their_states}
use Rattle.napt_account.proofs.log.logs_go_on.Goals as goal

pub returns-clause-go_on : goal.returns-clause-go_on
returns-clause-go_on c = lemmas.logs_go_on c.runs_go_on.ensures.go_on

pub returns-clause-saved : goal.returns-clause-saved
returns-clause-saved c = lemmas.saved_logs_go_on c.saved_runs_go_on.ensures.go_on

pub returns-clause-keep : goal.returns-clause-keep
returns-clause-keep c = logs_are_of_their_states c.taken_states_are_kept.ensures.sound c.runs_go_on.ensures.alike
    c.saved_runs_go_on.ensures.go_on

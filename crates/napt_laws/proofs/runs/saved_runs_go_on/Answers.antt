-- `saved_runs_go_on`: a state that is saved by address is alike, is accepted, and continues as the run.
use Rattle.napt_laws.proofs.SavedStates.{ordered_are_alike, ordered_are_taken, saved_runs_go_on}
use Rattle.napt_laws.proofs.runs.saved_runs_go_on.Goals as goal

pub returns-clause-alike : goal.returns-clause-alike
returns-clause-alike c = ordered_are_alike

pub returns-clause-taken : goal.returns-clause-taken
returns-clause-taken c = ordered_are_taken

pub returns-clause-go_on : goal.returns-clause-go_on
returns-clause-go_on c = saved_runs_go_on c.packets_carry_numbers.ensures

-- `runs_go_on`: a run over two lists is one over the first, followed by one over the second from a state that is alike.
use Rattle.napt_laws.proofs.ContinuedRuns.{runs_go_on, gone_change_nothing, earlier_clocks}
use Rattle.napt_laws.proofs.RunsAlike.{alike_go_on}
use Rattle.napt_laws.proofs.runs.runs_go_on.Goals as goal

pub returns-clause-go_on : goal.returns-clause-go_on
returns-clause-go_on c = runs_go_on

pub returns-clause-gone : goal.returns-clause-gone
returns-clause-gone c = gone_change_nothing

pub returns-clause-clocks : goal.returns-clause-clocks
returns-clause-clocks c = earlier_clocks

pub returns-clause-alike : goal.returns-clause-alike
returns-clause-alike c = alike_go_on c.packets_carry_numbers.ensures

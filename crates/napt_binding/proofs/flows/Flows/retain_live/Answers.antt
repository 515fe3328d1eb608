-- retain_live: the flows that stay in a list are distinct and few.
use Rattle.std.proofs.{lemmas.{Grind.common_steps, Bool.Decides.nat_tests}, Common.arith}
use Rattle.napt_binding.proofs.DistinctFlows.{distinct_kept}
use Rattle.napt_binding.proofs.flows.Flows.retain_live.Goals as goal

pub invariant_of-self-in-Listed : goal.invariant_of-self-in-Listed
invariant_of-self-in-Listed c = grind (arith, common_steps, nat_tests, distinct_kept)

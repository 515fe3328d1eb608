-- new: the invariant holds of an empty list of slots.
use Rattle.std.proofs.{Common.arith, lemmas.{Grind.common_steps, Bool.Decides.nat_tests}}
use Rattle.napt_binding.proofs.TimedRows.{no_flows}
use Rattle.napt_binding.proofs.flows.slots.FlowSlots.new.Goals as goal

pub invariant_of-result : goal.invariant_of-result
invariant_of-result c = grind (arith, common_steps, nat_tests, no_flows)

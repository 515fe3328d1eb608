-- flows: the invariant of the loop holds with each further slot.
use Rattle.std.proofs.{lemmas.{Grind.common_steps, Bool.Decides.nat_tests}, Common.arith}
use Rattle.napt_binding.proofs.DistinctFlows.{not_in_slots_before, distinct_pushed, next_slot, empty_slot}
use Rattle.napt_binding.proofs.flows.flow_maps.FlowMaps.flows.Goals.{in-Some+in_ok-push, in_default}
use Rattle.napt_binding.proofs.flows.flow_maps.FlowMaps.flows.Goals as goal

pub loop-place-preserved : goal.loop-place-preserved
loop-place-preserved c =
    grind (
      arith,
      common_steps,
      nat_tests,
      in-Some+in_ok-push,
      distinct_pushed,
      not_in_slots_before,
      next_slot,
      in_default,
      empty_slot,
    )

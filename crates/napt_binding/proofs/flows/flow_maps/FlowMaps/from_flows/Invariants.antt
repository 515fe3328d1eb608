-- from_flows: the flows so far are inserted as if never used; then the entries so far have their last uses back.
use Rattle.std.proofs.Common.{◌≡◌, map, take}
use Rattle.napt_binding.{specs.FlowMapInvariants.FlowMapsInvariant, proofs.RestoredFlows.{as_unused, AreBack}}
use Rattle.napt_binding.proofs.flows.flow_maps.FlowMaps.from_flows.Given as goal

abbrev pub invariant-loop-flow : goal.invariant-loop-flow
invariant-loop-flow l = FlowMapsInvariant l.many × (l.many.slots.slots ≡ map as_unused (take l.flow-index l.flows))

abbrev pub invariant-loop-entry : goal.invariant-loop-entry
invariant-loop-entry l = FlowMapsInvariant l.many × AreBack l.flows l.entry-items l.entry-index l.many.slots.slots

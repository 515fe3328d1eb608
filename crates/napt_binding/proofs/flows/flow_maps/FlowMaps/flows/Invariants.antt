-- flows: the copy has the flows of the slots so far, which are distinct.
use Rattle.std.proofs.Common.{◌≡◌, ◌≤◌, length, take}
use Rattle.napt_binding.specs.Slots.{standing_flows, AreDistinct}
use Rattle.napt_binding.proofs.flows.flow_maps.FlowMaps.flows.Given as goal

abbrev pub invariant-loop-place : goal.invariant-loop-place
invariant-loop-place l =
    AreDistinct l.flows.items × (l.flows.items ≡ standing_flows (take l.place l.self.slots.slots))
    × (l.place ≤ length l.self.slots.slots)

-- retain_live: the live flows and the slots are those at the start, and each step removes a flow.
use Rattle.std.proofs.Common.{◌≡◌, length, filter}
use Rattle.napt_rules.specs.Life as life
use Rattle.napt_binding.specs.{Slots.standing_flows, FlowMapInvariants.{FlowMapsInvariant, FlowMapsHaveRoom}}
use Rattle.napt_binding.proofs.flows.flow_maps.FlowMaps.retain_live.Given as goal

abbrev pub invariant-loop-timers : goal.invariant-loop-timers
invariant-loop-timers l =
    FlowMapsInvariant l.self × (filter (life.is_live_flow l.timers l.now) (standing_flows l.self.slots.slots)
    ≡ filter (life.is_live_flow l.timers l.now) (standing_flows l.fn.self.slots.slots))
    × (FlowMapsHaveRoom l.fn.self → FlowMapsHaveRoom l.self)
    × (length l.self.slots.slots ≡ length l.fn.self.slots.slots)

abbrev pub decreases-loop-timers : goal.decreases-loop-timers
decreases-loop-timers l = length (standing_flows l.self.slots.slots)

-- The store of the flows of a binding: one flow by itself, a few in a list, and many with maps.
use Rattle.std.specs.{Prelude.{ℕ, ◌≤◌, nat_le, Bool, true, false, not, ◌&&◌, List, [], ◌∷◌, length}, List.list_any}
use Rattle.napt_config.specs.declared.settings.Timers.{Timers}
use Rattle.napt_rules.specs.declared.{Flow.Flow, OutboundPacket.OutboundPacket}
use Rattle.napt_binding.specs.{declared.flows.FlowStore.{FlowStore, TheVariants.{Empty, One, Listed, Mapped}}, Slots.{standing_flows, AreDistinct}, FlowMapInvariants.FlowMapsInvariant}
use Rattle.napt_binding.specs.{StandingFlows.standing_flow_of, OutboundFlows.standing_at}

-- The maximum number of flows in a list.
abbrev pub most_listed : ℕ
most_listed = 8

-- Returns whether no standing flow of the list is the packet's, and a new one would make the list too long.
abbrev pub is_full : Timers → OutboundPacket → List Flow → Bool
is_full timers sent flows = nat_le most_listed (length (standing_at timers sent flows))
    && not (list_any (standing_flow_of timers sent.now sent.protocol sent.remote) flows)

-- Returns the flows in the order in which they began.
abbrev pub flows_of : FlowStore → List Flow
flows_of Empty = []
flows_of (One flow) = flow ∷ []
flows_of (Listed flows) = flows.items
flows_of (Mapped many) = standing_flows many.value.slots.slots

-- Returns whether the flows are stored with maps.
abbrev pub has_maps : FlowStore → Bool
has_maps (Mapped many) = true
has_maps _ = false

-- Returns whether the flows are in a list that is full.
abbrev pub are_full : Timers → OutboundPacket → FlowStore → Bool
are_full timers sent (Listed flows) = is_full timers sent flows.items
are_full timers sent _ = false

abbrev pub FlowStoreInvariant : FlowStore → Type 0
FlowStoreInvariant (Listed flows) = AreDistinct flows.items × (length flows.items ≤ most_listed)
FlowStoreInvariant (Mapped many) = FlowMapsInvariant many.value
FlowStoreInvariant _ = Unit {0}

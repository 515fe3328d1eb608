-- The flows of a binding when a packet goes out through it.
use Rattle.std.specs.Prelude.{List}
use Rattle.napt_rules.specs.{declared.{Flow.Flow, OutboundPacket.OutboundPacket}, Prelude.{change_first, no_marks, live_flows, is_flow_of, flow_after, with_flow, Outgoing, Timers}}

-- Returns the flow that begins with the packet.
abbrev pub new_flow : OutboundPacket → Flow
new_flow sent =
    flow_after sent.protocol Outgoing sent.flags sent.now
    (record { remote = sent.remote; marks = no_marks; last = sent.now })

-- Returns the flows that stand when the packet goes out.
abbrev pub standing_at : Timers → OutboundPacket → List Flow → List Flow
standing_at timers sent flows = live_flows timers sent.now sent.protocol flows

-- Returns the flows after the packet, which uses the flow of its remote or, if there is none, begins one.
abbrev pub flows_after_outbound : OutboundPacket → List Flow → List Flow
flows_after_outbound sent flows =
    change_first (is_flow_of sent.remote) (flow_after sent.protocol Outgoing sent.flags sent.now)
    (with_flow sent.remote sent.now flows)

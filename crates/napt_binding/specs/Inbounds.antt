-- The effect of an incoming packet at a binding.
use Rattle.std.specs.Prelude.{cond, Result, Ok, Err}
use Rattle.napt_rules.specs.{declared.{InboundRules.InboundRules, InboundPacket.InboundPacket}, Prelude.{Binding, permits, binding_after_in, Cause, Filtered, Endpoint}}

-- Returns the answer to an incoming packet by the binding with its number: the inside endpoint, or `Filtered`.
abbrev pub inbound_answer : InboundRules → InboundPacket → Binding → Result Endpoint Cause
inbound_answer inbound packet binding = cond (permits inbound binding packet.remote) (Ok binding.row.inside)
    (Err Filtered)

-- Returns the binding after the packet, which changes it only if the filter permits the packet.
abbrev pub binding_after_inbound : InboundRules → InboundPacket → Binding → Binding
binding_after_inbound inbound packet binding = cond (permits inbound binding packet.remote)
    (binding_after_in inbound packet binding)
    binding

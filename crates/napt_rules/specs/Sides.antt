-- Which packets may cross the translator, and the external address at which a packet is served.
--
-- RFC 2827: a packet whose source address belongs to the other side is spoofed. RFC 4787, REQ-9, and RFC 5508, REQ-7: a
-- packet from inside to an external address comes in again. This translator does not do so with echoes.
use Rattle.std.specs.Prelude.{ℕ, Bool, true, false, not, ◌&&◌, ◌||◌, cond, List, Option, Some, None, is_some, ok_or, Result, Err}
use Rattle.napt_wire.specs.declared.{Protocol.TheVariants.Icmp, Side.{Side, TheVariants.{Inside, Outside}}, Way.{Way, TheVariants.{Outgoing, Incoming}}}
use Rattle.napt_wire.specs.declared.{Cause.{Cause, TheVariants.{Spoofed, NotOurs, Unsupported}}, Kind.{Kind, TheVariants.{Echo, ErrorOf}}}
use Rattle.napt_wire.specs.Fields.{source, destination, kind, local_end}
use Rattle.napt_config.specs.Rules.{Rules, pair_of, is_inside, pool_place}
use Rattle.napt_rules.specs.Bindings.{same_protocol}

abbrev pub is_in_pool : Rules → ℕ → Bool
is_in_pool rules address = is_some (pool_place rules address)

-- Returns whether a packet is an ICMP echo, or an ICMP error about one.
abbrev pub is_about_echo : Kind → Bool
is_about_echo Echo = true
is_about_echo (ErrorOf inner) = same_protocol inner.protocol Icmp
is_about_echo _ = false

-- Returns whether the source belongs to the other side. From outside, inside addresses and those of the pool do.
abbrev pub is_spoofed : Rules → Side → List ℕ → Bool
is_spoofed rules Inside packet = not (is_inside rules (source packet).address)
is_spoofed rules Outside packet = is_inside rules (source packet).address || is_in_pool rules (source packet).address

-- Returns whether the destination is not on the other side: from inside, it is inside; from outside, not in the pool.
abbrev pub is_not_ours : Rules → Side → List ℕ → Bool
is_not_ours rules Inside packet = is_inside rules (destination packet).address
is_not_ours rules Outside packet = not (is_in_pool rules (destination packet).address)

-- Returns whether a packet from inside is an echo, or an error about one, to an external address of the pool.
abbrev pub is_unsupported : Rules → Side → List ℕ → Bool
is_unsupported rules Inside packet = is_about_echo (kind packet) && is_in_pool rules (destination packet).address
is_unsupported rules Outside packet = false

-- Returns the cause of the first check that a packet from this side fails, or none.
abbrev pub side_refusal : Rules → Side → List ℕ → Option Cause
side_refusal rules side packet =
    cond (is_spoofed rules side packet) (Some Spoofed)
    (cond (is_not_ours rules side packet) (Some NotOurs)
    (cond (is_unsupported rules side packet) (Some Unsupported) None))

abbrev pub way_from : Side → Way
way_from Inside = Outgoing
way_from Outside = Incoming

-- The external address that serves a packet: outgoing, the one paired with its inside host; incoming, its destination.
abbrev pub served_at : Rules → Way → List ℕ → ℕ
served_at rules Outgoing packet = pair_of rules (local_end Outgoing packet).address
served_at rules Incoming packet = (destination packet).address

-- Returns the refusal, or the place in the pool of the address that serves the packet.
abbrev pub routed_by_refusal : Rules → ℕ → Option Cause → Result ℕ Cause
routed_by_refusal rules address (Some cause) = Err cause
routed_by_refusal rules address None = ok_or (pool_place rules address) NotOurs

unfoldable pub route : Rules → Side → List ℕ → Result ℕ Cause
route rules side packet = routed_by_refusal rules (served_at rules (way_from side) packet)
    (side_refusal rules side packet)

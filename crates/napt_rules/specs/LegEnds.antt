-- LAWS of every leg, whatever the bindings are.
use Rattle.std.specs.Prelude.{◌≡◌, ℕ, Bool, true, false, List, Option, Some, None}
use Rattle.napt_wire.specs.{declared.Way.TheVariants.{Incoming, Outgoing}, Fields.{destination, kind, is_error}}
use Rattle.napt_config.specs.Rules.{Rules, pool_place}
use Rattle.napt_rules.specs.{LocalTime.{LocalState, local_answer, local_after}, declared.{Leg.Leg, End.{End, TheVariants.{ToOutside, ToInside, Onward, Dropped}}}}

-- Law: an ICMP error changes neither the bindings nor the time (RFC 4787, REQ-12; RFC 5508, REQ-6).
abbrev pub ErrorsChangeNothing : Type 0
ErrorsChangeNothing = (rules : Rules) (address : ℕ) (leg : Leg) (kept : LocalState) →
    is_error (kind leg.packet) ≡ true →
    local_after rules address leg kept ≡ kept

-- A packet to the outside is for no address of the pool. A packet that ends with `Onward` is for the pool address at
-- `place`, where it comes in again (RFC 4787, REQ-9).
abbrev pub IsToItsSide : Rules → End → Type 0
IsToItsSide rules (ToOutside packet) = pool_place rules (destination packet).address ≡ None
IsToItsSide rules (Onward place packet) = pool_place rules (destination packet).address ≡ Some place
IsToItsSide rules _ = Unit {0}

abbrev pub LegsEndAtTheirSide : Type 0
LegsEndAtTheirSide = (rules : Rules) (address : ℕ) (leg : Leg) (kept : LocalState) →
    IsToItsSide rules (local_answer rules address leg kept).end

-- Returns whether the packet goes to the inside or is dropped.
abbrev pub is_in_or_dropped : End → Bool
is_in_or_dropped (ToInside packet) = true
is_in_or_dropped (Dropped cause) = true
is_in_or_dropped _ = false

abbrev pub InboundStaysInside : Type 0
InboundStaysInside = (rules : Rules) (address : ℕ) (leg : Leg) (kept : LocalState) → leg.way ≡ Incoming →
    is_in_or_dropped (local_answer rules address leg kept).end ≡ true

-- HAIRPINS (RFC 4787, REQ-9)

-- How an outgoing packet may end, given the place of its destination in the pool: it ends with `Onward` and that place,
-- or is dropped. If the destination is not in the pool, it never ends with `Onward`.
abbrev pub IsForeseen : Option ℕ → End → Type 0
IsForeseen (Some place) (Onward to packet) = to ≡ place
IsForeseen (Some place) (Dropped cause) = Unit {0}
IsForeseen (Some place) _ = ⊥
IsForeseen None (Onward to packet) = ⊥
IsForeseen None _ = Unit {0}

-- Every outgoing leg with this packet ends as foreseen, at any external address and with any bindings.
abbrev pub RulesForeseeEnd : Rules → List ℕ → Option ℕ → Type 0
RulesForeseeEnd rules packet found =
    (address : ℕ) (leg : Leg) (kept : LocalState) → leg.way ≡ Outgoing → leg.packet ≡ packet →
    IsForeseen found (local_answer rules address leg kept).end

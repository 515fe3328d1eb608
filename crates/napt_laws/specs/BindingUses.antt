-- The record of the binding that a leg's packet used.
--
-- An outgoing packet uses the binding of its source, which is made if there is none, and an incoming packet that of its
-- destination (RFC 3022, section 4). An ICMP error uses none (RFC 5508, REQ-3 to REQ-6).
use Rattle.std.specs.Prelude.{◌≡◌, ◌↔◌, ℕ, true, List, Option, Some, None, Result, Ok, Err}
use Rattle.napt_rules.specs.declared.{AssignmentRules.AssignmentRules, InboundRules.InboundRules, OutboundPacket.OutboundPacket, InboundPacket.InboundPacket, Leg.Leg, End.TheVariants.Dropped}
use Rattle.napt_rules.specs.Prelude.{BindingUse, Binding, OutboundEffect, step_out, InboundEffect, step_in, by_inside, by_number, act, Cause, kind, is_error, Rules, AreTimers, Timers}

-- The recorded binding is the one that is found after the leg, which made it if and only if none was found before.
pub record IsThrough (before after : Option Binding) (through : Option BindingUse) : Type 0 where
  pub went : BindingUse
  pub is : through ≡ Some went
  pub binding : after ≡ Some went.binding
  pub made : (went.made ≡ true) ↔ (before ≡ None)

-- A packet that was translated used the recorded binding, and a packet that was refused used none.
abbrev pub BindingUseIsSaid : {X : Type 0} → Result X Cause → Option Binding → Option Binding → Option BindingUse →
    Type 0
BindingUseIsSaid (Ok translated) before after through = IsThrough before after through
BindingUseIsSaid (Err cause) before after through = through ≡ None

abbrev pub OutboundNamesItsBinding : Type 0
OutboundNamesItsBinding = (timers : Timers) → AreTimers timers →
    (assignment : AssignmentRules) (address : ℕ) (packet : OutboundPacket)
    (list : List Binding) →
    let out : OutboundEffect = step_out timers assignment address packet list in
    BindingUseIsSaid out.number (by_inside timers address packet.now packet.protocol packet.inside list)
    (by_inside timers address packet.now packet.protocol packet.inside out.list) out.through

abbrev pub InboundNamesItsBinding : Type 0
InboundNamesItsBinding = (timers : Timers) → AreTimers timers →
    (inbound : InboundRules) (address : ℕ) (packet : InboundPacket)
    (list : List Binding) →
    let came : InboundEffect = step_in timers inbound address packet list in
    BindingUseIsSaid came.inside (by_number timers address packet.now packet.protocol packet.number list)
    (by_number timers address packet.now packet.protocol packet.number came.list) came.through

abbrev pub ErrorsGoThroughNone : Type 0
ErrorsGoThroughNone = (rules : Rules) (address : ℕ) (leg : Leg) (list : List Binding) →
    is_error (kind leg.packet) ≡ true → (act rules address leg list).through ≡ None

abbrev pub DroppedGoThroughNone : Type 0
DroppedGoThroughNone = (rules : Rules) (address : ℕ) (leg : Leg) (list : List Binding) (cause : Cause) →
    (act rules address leg list).end ≡ Dropped cause → (act rules address leg list).through ≡ None

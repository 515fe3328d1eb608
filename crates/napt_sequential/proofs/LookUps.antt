-- Look-ups after a leg find the binding that its packet used.
use Rattle.std.{proofs.Common.{◌≡◌, ℕ, max, Bool, List, Option, Some, None, Result, Ok, Err, refl, sym, ◌∙◌, ap, arith}, specs.Option.option_map}
use Rattle.napt_wire.specs.declared.{Protocol.Protocol, Way.{Way, TheVariants.{Outgoing, Incoming}}, Cause.Cause, Endpoint.Endpoint, Flags.Flags, Kind.Kind}
use Rattle.napt_wire.specs.{declared.Kind.TheVariants.{Udp, Tcp, Echo, ErrorOf}, Fields.{source, destination, kind}}
use Rattle.napt_wire.specs.declared.Protocol.TheVariants as protocols
use Rattle.napt_config.specs.Rules.{Rules, AreTimers}
use Rattle.napt_rules.specs.declared.{OutboundPacket.OutboundPacket, InboundPacket.InboundPacket, Leg.Leg, Answer.Answer, End.{End, TheVariants.{ToOutside, Onward, Dropped}}}
use Rattle.napt_rules.specs.Prelude.{BindingUse, Binding, OutboundEffect, step_out, InboundEffect, step_in, by_inside, by_number, assignment_rules, inbound_rules, no_flags, onward_end, end_out, end_in, outbound_packet, inbound_packet, LegEffect, act_out, act_in, act_by, LocalState, time_after, local_act, local_answer}
use Rattle.napt_table.specs.TimedRows.{timed_row}
use Rattle.napt_translate.specs.{CarriedPackets.packet_carried, Translators.{TranslatorModel, is_made, local_state, translator_after}}
use Rattle.napt_laws.{specs.BindingUses.{IsThrough, BindingUseIsSaid}, proofs.BindingUseLaws.{out_says_its_binding, in_says_its_binding}}
use Rattle.napt_sequential.specs.declared.{passage.{Passage.Passage, PacketTuple.PacketTuple}, leg_trace.TracedAnswer.TracedAnswer}
use Rattle.napt_sequential.specs.{CountedTranslators.{seen_of, passage_through, found_by, passage_seen, traced_answer}, Traces.passage_by}

module _ (rules : Rules) (t : AreTimers rules.timers) (address : ℕ) (leg : Leg) (list : List Binding) where
  abbrev found : Bool → Option Protocol → List Binding → End → Passage
  found made carried left end = found_by rules.timers leg.now left address (seen_of leg.packet) made carried end

  abbrev said : Way → Option Protocol → End → Option BindingUse → Passage
  said way carried end through = passage_by rules.timers way carried (source leg.packet).address end through

  module _ (protocol : Protocol) (before : Option Binding) (left : List Binding) (through : Option BindingUse) where
    abbrev after_out : Option Binding
    after_out = by_inside rules.timers address leg.now protocol (source leg.packet) left

    -- what is found of a packet that went through a binding
    through_found : (way : Way) (after : Option Binding) → IsThrough before after through → (end : End) →
        passage_through way (is_made through) (option_map (timed_row rules.timers) after)
        ≡ said way (Some protocol) end through
    through_found way after says end =
        ap (λ (o : Option Binding). passage_through way (is_made through) (option_map (timed_row rules.timers) o))
        says.binding
        ∙ (ap (λ (t : Option BindingUse). passage_through way (is_made t)
        (Some (timed_row rules.timers says.went.binding))) says.is
        ∙ sym (ap (said way (Some protocol) end) says.is))

    gone : (place : Option ℕ) (packet : List ℕ) → (number : ℕ) →
        BindingUseIsSaid (let r : Result ℕ Cause = Ok number in r) before after_out through →
        found (is_made through) (Some protocol) left (onward_end place packet)
        ≡ said Outgoing (Some protocol) (onward_end place packet) through
    gone None packet number says = through_found Outgoing after_out says (ToOutside packet)
    gone (Some place) packet number says =
        through_found Outgoing after_out says (Onward place packet)

    found_out : (number : Result ℕ Cause) → BindingUseIsSaid number before after_out through →
        found (is_made through) (Some protocol) left (end_out rules address leg.packet number)
        ≡ said Outgoing (Some protocol) (end_out rules address leg.packet number) through
    found_out (Ok number) says = gone _ _ number says
    found_out (Err cause) says = sym (ap (said Outgoing (Some protocol) (Dropped cause)) says)

    abbrev after_in : Option Binding
    after_in = by_number rules.timers address leg.now protocol (destination leg.packet).number left

    found_in : (inside : Result Endpoint Cause) → BindingUseIsSaid inside before after_in through →
        found (is_made through) (Some protocol) left (end_in leg.packet inside)
        ≡ said Incoming (Some protocol) (end_in leg.packet inside) through
    found_in (Ok inside) says = through_found Incoming after_in says (end_in leg.packet (Ok inside))
    found_in (Err cause) says = sym (ap (said Incoming (Some protocol) (Dropped cause)) says)

  abbrev IsFound : Way → Kind → Type 0
  IsFound way k =
      let acted : LegEffect = act_by rules address leg list way k in
      found (is_made acted.through) (packet_carried k) acted.list acted.end ≡ said way (packet_carried k) acted.end acted.through

  goes : (protocol : Protocol) (flags : Flags) → (let acted : LegEffect =
      act_out rules address leg list protocol flags in
      found (is_made acted.through) (Some protocol) acted.list acted.end
      ≡ said Outgoing (Some protocol) acted.end acted.through)
  goes protocol flags =
      let packet : OutboundPacket = outbound_packet rules protocol flags leg.now leg.packet in
      let out : OutboundEffect = step_out rules.timers (assignment_rules rules) address packet list in
      found_out protocol (by_inside rules.timers address leg.now protocol packet.inside list) out.list out.through
      out.number (out_says_its_binding rules.timers t (assignment_rules rules) address packet list)

  comes : (protocol : Protocol) (flags : Flags) → (let acted : LegEffect =
      act_in rules address leg list protocol flags in
      found (is_made acted.through) (Some protocol) acted.list acted.end
      ≡ said Incoming (Some protocol) acted.end acted.through)
  comes protocol flags =
      let packet : InboundPacket = inbound_packet protocol flags leg.now leg.packet in
      let came : InboundEffect = step_in rules.timers (inbound_rules rules) address packet list in
      found_in protocol (by_number rules.timers address leg.now protocol packet.number list) came.list came.through
      came.inside (in_says_its_binding rules.timers t (inbound_rules rules) address packet list)

  pub found_act : (way : Way) (k : Kind) → IsFound way k
  found_act Outgoing Udp = goes protocols.Udp no_flags
  found_act Outgoing (Tcp flags) = goes protocols.Tcp flags
  found_act Outgoing Echo = goes protocols.Icmp no_flags
  found_act Outgoing (ErrorOf inner) = refl
  found_act Incoming Udp = comes protocols.Udp no_flags
  found_act Incoming (Tcp flags) = comes protocols.Tcp flags
  found_act Incoming Echo = comes protocols.Icmp no_flags
  found_act Incoming (ErrorOf inner) = refl

-- AT A TRANSLATOR, whose time is that of the leg then, except after an ICMP error, which uses no binding

module _ (rules : Rules) (address : ℕ) (leg : Leg) (at : ℕ) (left : List Binding) (made : Bool) (end : End) where
  abbrev found_at : Kind → ℕ → Passage
  found_at k now = found_by rules.timers now left address (seen_of leg.packet) made (packet_carried k) end

  in_time : (k : Kind) → (let now : ℕ = max leg.now at in
      found_at k (max leg.now (time_after k at now)) ≡ found_at k now)
  in_time Udp = ap (found_at Udp) (omega arith)
  in_time (Tcp flags) = ap (found_at (Tcp flags)) (omega arith)
  in_time Echo = ap (found_at Echo) (omega arith)
  in_time (ErrorOf inner) = refl

pub told_there : (leg : Leg) (state : TranslatorModel) → AreTimers state.rules.timers → (answer : Answer) →
    answer ≡ local_answer state.rules state.table.address leg (local_state state.table) → (seen : PacketTuple) →
    seen ≡ seen_of leg.packet → (made : Bool) →
    made ≡ is_made (local_act state.rules state.table.address leg (local_state state.table)).through →
    (left : TranslatorModel) → left ≡ translator_after leg state → (passage : Passage) →
    passage ≡ passage_seen leg.now seen made answer.end left →
    (let told : TracedAnswer Passage = record { answer = answer; passage = passage } in
    told ≡ traced_answer (λ passage. passage) leg state)
told_there leg state t answer answer_is seen seen_is made made_is left left_is passage passage_is =
    let own : LocalState = local_state state.table in
    let acted : LegEffect = local_act state.rules state.table.address leg own in
    rw (passage_is, answer_is, seen_is, made_is, left_is) (ap (λ (x : Passage). let told : TracedAnswer Passage =
    record { answer = local_answer state.rules state.table.address leg own; passage = x } in told)
    (in_time state.rules state.table.address leg own.at acted.list (is_made acted.through) acted.end (kind leg.packet)
    ∙ found_act state.rules t state.table.address (record leg { now = max leg.now own.at }) own.list leg.way
    (kind leg.packet)))

-- The record of the binding that a leg's packet used.
use Rattle.std.proofs.Common.{◌≡◌, ℕ, Bool, true, false, cond, List, Option, Some, None, Result, Ok, Err, refl, ◌∙◌, ap, subst, find}
use Rattle.std.specs.Option.{option_map}
use Rattle.napt_wire.specs.declared.Kind.TheVariants.{Udp, Tcp, Echo, ErrorOf}
use Rattle.napt_rules.specs.declared.{AssignmentRules.AssignmentRules, InboundRules.InboundRules, OutboundPacket.OutboundPacket, InboundPacket.InboundPacket, Leg.Leg, End.TheVariants.Dropped}
use Rattle.napt_rules.specs.Prelude.{Binding, purge, live_and_held, permits, inbound_rules, is_of_source, binding_after_out, new_binding, OutboundEffect, out_made, held_or_new_number, out_found, step_out, is_of_destination, binding_after_in, InboundEffect, in_found, step_in, AreTimers, Timers, onward_end, end_out, end_in, outbound_packet, inbound_packet, LegEffect, act_by, Cause, Way, Outgoing, Incoming, Kind, kind, is_error, Rules, assignment_rules}
use Rattle.napt_laws.{specs.BindingUses.{BindingUseIsSaid, OutboundNamesItsBinding, InboundNamesItsBinding, ErrorsGoThroughNone, DroppedGoThroughNone}, proofs.LegCases.of_act}
use Rattle.napt_laws.proofs.{Endpoints.inside_it, UniqueSearches.{find_changed, find_pushed}, StepCases.in_passed, StepsLive.{sent_seen, made_is_seen, received_seen}, SeenElements.purge_taken}

-- OUTGOING PACKETS

module _ (timers : Timers) (t : AreTimers timers) (assignment : AssignmentRules) (address : ℕ) (packet : OutboundPacket)
    (list : List Binding) where
  abbrev at_source : List Binding → Option Binding
  at_source list = find (is_of_source address packet) (purge timers packet.now list)

  abbrev OutSays : OutboundEffect → Type 0
  OutSays out = BindingUseIsSaid out.number (at_source list) (at_source out.list) out.through

  made_says : at_source list ≡ None → (number : Result ℕ Cause) → OutSays (out_made list address packet number)
  made_says none (Err cause) = refl
  made_says none (Ok number) =
      let new : Binding = binding_after_out packet (new_binding address packet number) in
      let its : is_of_source address packet new ≡ true =
      inside_it address packet.protocol packet.inside new.row refl refl refl in
      record {
        went = record { binding = new; made = true };
        is = refl;
        binding = ap (find (is_of_source address packet)) (made_is_seen timers t address packet number list none)
            ∙ (find_pushed (is_of_source address packet) (purge timers packet.now list) new none
            ∙ ap (λ v. cond v (Some new) None) its);
        made = (λ made. none, λ none. refl);
      }

  out_says : (found : Option Binding) → at_source list ≡ found →
      OutSays (out_found timers assignment list address packet found)
  out_says None none = made_says none
      (held_or_new_number assignment list address packet (find (is_of_source address packet) list))
  out_says (Some b) is = record {
    went = record { binding = binding_after_out packet b; made = false };
    is = refl;
    binding = ap (find (is_of_source address packet)) (sent_seen timers t address packet list)
        ∙ (find_changed (is_of_source address packet) (binding_after_out packet) (λ x. refl)
        (purge timers packet.now list)
        ∙ ap (option_map (binding_after_out packet)) is);
    made = (λ made. cc, λ none. cc);
  }

pub out_says_its_binding : OutboundNamesItsBinding
out_says_its_binding timers t assignment address packet list =
    let all : List Binding = live_and_held timers packet.now list in
    let out : OutboundEffect = step_out timers assignment address packet list in
    subst (λ (live : List Binding). BindingUseIsSaid out.number (find (is_of_source address packet) live)
    (find (is_of_source address packet) (purge timers packet.now out.list)) out.through)
    (purge_taken timers packet.now list)
    (out_says timers t assignment address packet all (find (is_of_source address packet) (purge timers packet.now all))
    refl)

-- INCOMING PACKETS

module _ (timers : Timers) (t : AreTimers timers) (inbound : InboundRules) (address : ℕ) (packet : InboundPacket)
    (list : List Binding) where
  abbrev at_destination : List Binding → Option Binding
  at_destination list = find (is_of_destination address packet) (purge timers packet.now list)

  abbrev InSays : InboundEffect → Type 0
  InSays came = BindingUseIsSaid came.inside (at_destination list) (at_destination came.list) came.through

  passed_says : (b : Binding) → at_destination list ≡ Some b → (passes : Bool) →
      InSays (in_passed timers inbound list address packet b passes)
  passed_says b is false = refl
  passed_says b is true = record {
    went = record { binding = binding_after_in inbound packet b; made = false };
    is = refl;
    binding = ap (find (is_of_destination address packet)) (received_seen timers t inbound address packet list)
        ∙ (find_changed (is_of_destination address packet) (binding_after_in inbound packet) (λ x. refl)
        (purge timers packet.now list)
        ∙ ap (option_map (binding_after_in inbound packet)) is);
    made = (λ made. cc, λ none. cc);
  }

  in_says : (found : Option Binding) → at_destination list ≡ found →
      InSays (in_found timers inbound list address packet found)
  in_says None none = refl
  in_says (Some b) is = passed_says b is (permits inbound b packet.remote)

pub in_says_its_binding : InboundNamesItsBinding
in_says_its_binding timers t inbound address packet list =
    let all : List Binding = live_and_held timers packet.now list in
    let came : InboundEffect = step_in timers inbound address packet list in
    subst (λ (live : List Binding). BindingUseIsSaid came.inside (find (is_of_destination address packet) live)
    (find (is_of_destination address packet) (purge timers packet.now came.list)) came.through)
    (purge_taken timers packet.now list)
    (in_says timers t inbound address packet all (find (is_of_destination address packet) (purge timers packet.now all))
    refl)

-- PACKETS THROUGH NO BINDING

module _ (rules : Rules) (address : ℕ) (leg : Leg) (list : List Binding) where
  error_none : (way : Way) (k : Kind) → is_error k ≡ true → (act_by rules address leg list way k).through ≡ None
  error_none Outgoing (ErrorOf inner) h = refl
  error_none Incoming (ErrorOf inner) h = refl
  error_none way Udp h = cc
  error_none way (Tcp flags) h = cc
  error_none way Echo h = cc

  module _ (cause : Cause) where
    abbrev IsNone : LegEffect → Type 0
    IsNone acted = acted.end ≡ Dropped cause → acted.through ≡ None

    onward_goes : (place : Option ℕ) (packet : List ℕ) → onward_end place packet ≡ Dropped cause → ⊥
    onward_goes None packet h = cc
    onward_goes (Some place) packet h = cc

    module _ (packet : OutboundPacket) (live : List Binding) where
      made_none : (number : Result ℕ Cause) → (let out : OutboundEffect = out_made live address packet number in
          end_out rules address leg.packet out.number ≡ Dropped cause → out.through ≡ None)
      made_none (Err other) h = refl
      made_none (Ok number) h = absurd (onward_goes _ _ h)

      sent_none : (found : Option Binding) →
          (let out : OutboundEffect = out_found rules.timers (assignment_rules rules) live address packet found in
          end_out rules address leg.packet out.number ≡ Dropped cause → out.through ≡ None)
      sent_none None h = made_none
          (held_or_new_number (assignment_rules rules) live address packet (find (is_of_source address packet) live)) h
      sent_none (Some b) h = absurd (onward_goes _ _ h)

    module _ (packet : InboundPacket) (live : List Binding) where
      passed_none : (b : Binding) (passes : Bool) →
          (let came : InboundEffect = in_passed rules.timers (inbound_rules rules) live address packet b passes in
          end_in leg.packet came.inside ≡ Dropped cause → came.through ≡ None)
      passed_none b false h = refl
      passed_none b true h = cc

      came_none : (found : Option Binding) →
          (let came : InboundEffect = in_found rules.timers (inbound_rules rules) live address packet found in
          end_in leg.packet came.inside ≡ Dropped cause → came.through ≡ None)
      came_none None h = refl
      came_none (Some b) h = passed_none b (permits (inbound_rules rules) b packet.remote) h

    dropped_none : (way : Way) (k : Kind) → IsNone (act_by rules address leg list way k)
    dropped_none = of_act rules address leg list IsNone
        (λ protocol flags. let packet : OutboundPacket = outbound_packet rules protocol flags leg.now leg.packet in
        let all : List Binding = live_and_held rules.timers leg.now list in
        sent_none packet all (find (is_of_source address packet) (purge rules.timers leg.now all)))
        (λ protocol flags. let packet : InboundPacket = inbound_packet protocol flags leg.now leg.packet in
        let all : List Binding = live_and_held rules.timers leg.now list in
        came_none packet all (find (is_of_destination address packet) (purge rules.timers leg.now all)))
        (λ end h. refl)

pub errors_go_through_none : ErrorsGoThroughNone
errors_go_through_none rules address leg list h = error_none rules address leg list leg.way (kind leg.packet) h

pub dropped_go_through_none : DroppedGoThroughNone
dropped_go_through_none rules address leg list cause h =
    dropped_none rules address leg list cause leg.way (kind leg.packet) h

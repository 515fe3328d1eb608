-- A step changes no binding of another protocol; and a list of events with one more event.
use Rattle.std.proofs.Common.{◌≡◌, ◌≢◌, ℕ, Bool, true, false, cond, List, [], ◌∷◌, ◌++◌, Option, Some, None, Result, Ok, Err, refl, sym, ◌∙◌, ap, subst, eqb, eqb-true}
use Rattle.std.{specs.Prelude.{find, OnErr}, proofs.lemmas.Bool.{eq-eqb, true≢false}}
use Rattle.napt_wire.specs.declared.{Protocol.Protocol, Cause.TheVariants.{NoBinding, Filtered}}
use Rattle.napt_config.specs.declared.settings.Timers.{Timers}
use Rattle.napt_rules.specs.declared.{AssignmentRules.AssignmentRules, InboundRules.InboundRules, OutboundPacket.OutboundPacket, InboundPacket.InboundPacket}
use Rattle.napt_rules.specs.Prelude.{Binding, change_first, same_protocol, has_number, purge, permits, is_of_source, binding_after_out, is_of_destination, binding_after_in, InboundEffect, in_found, in_taken, AreTimers}
use Rattle.napt_laws.proofs.{UniqueSearches.find_other, StepCases.in_passed, StepsLive.received_seen}
use Rattle.napt_laws.proofs.Endpoints.{protocol_is, same_itself, changed_other, inside_protocol, not_has}
use Rattle.napt_table.specs.{declared.table_event.TableEvent.TableEvent, Events.{list_after_event, list_after_events}}

-- The effect of an incoming packet on the visible list.
abbrev pub shown_passed : InboundRules → List Binding → ℕ → InboundPacket → Binding → Bool → InboundEffect
shown_passed inbound list address packet b passes =
    cond passes
    (record {
      inside = Ok b.row.inside;
      through = None;
      list = change_first (is_of_destination address packet) (binding_after_in inbound packet) list;
    })
    (record { inside = Err Filtered; through = None; list = list })

abbrev pub shown_found : InboundRules → List Binding → ℕ → InboundPacket → Option Binding → InboundEffect
shown_found inbound list address packet None = record { inside = Err NoBinding; through = None; list = list }
shown_found inbound list address packet (Some b) =
    shown_passed inbound list address packet b (permits inbound b packet.remote)

abbrev pub shown_in : InboundRules → ℕ → InboundPacket → List Binding → InboundEffect
shown_in inbound address packet list =
    shown_found inbound list address packet (find (is_of_destination address packet) list)

-- The visible list after the packet is the result of the packet on the visible list before it.
pub in_is_shown : (timers : Timers) → AreTimers timers → (inbound : InboundRules) (address : ℕ) (packet : InboundPacket)
    (all : List Binding) → (let came : InboundEffect = in_taken timers inbound address packet all in
    let shown : InboundEffect = shown_in inbound address packet (purge timers packet.now all) in
    (came.inside ≡ shown.inside) × (purge timers packet.now came.list ≡ shown.list))
in_is_shown timers t inbound address packet all =
    let live : List Binding = purge timers packet.now all in
    elim (find (is_of_destination address packet) live) as (λ o.
    ((in_found timers inbound all address packet o).inside ≡ (shown_found inbound live address packet o).inside)
    × (purge timers packet.now (in_found timers inbound all address packet o).list
    ≡ (shown_found inbound live address packet o).list)) [
      | None ↦ (refl, refl)
      | Some b ↦ elim (permits inbound b packet.remote) as (λ v.
          ((in_passed timers inbound all address packet b v).inside ≡
          (shown_passed inbound live address packet b v).inside)
          × (purge timers packet.now (in_passed timers inbound all address packet b v).list
          ≡ (shown_passed inbound live address packet b v).list))
          [ true ↦ (refl, received_seen timers t inbound address packet all) | false ↦ (refl, refl) ]
    ]

-- The other protocols are unchanged.
pub in_others : (inbound : InboundRules) (timers : Timers) (address : ℕ) (packet : InboundPacket) (list : List Binding)
    (q : Protocol) → q ≢ packet.protocol → (n : ℕ) →
    find (λ b. has_number address q n b.row) (shown_in inbound address packet list).list
    ≡ find (λ b. has_number address q n b.row) list
in_others inbound timers address packet list q differs n =
    elim (find (is_of_destination address packet) list) as (λ o.
    find (λ b. has_number address q n b.row) (shown_found inbound list address packet o).list
    ≡ find (λ b. has_number address q n b.row) list) [
      | None ↦ refl
      | Some b ↦ elim (permits inbound b packet.remote) as (λ v.
          find (λ b. has_number address q n b.row) (shown_passed inbound list address packet b v).list
          ≡ find (λ b. has_number address q n b.row) list) [
            | true ↦ changed_other address packet.protocol packet.number (binding_after_in inbound packet)
                (λ b. refl) list q n (λ p. absurd (differs p))
            | false ↦ refl
          ]
    ]

pub sent_others : (address : ℕ) (packet : OutboundPacket) (list : List Binding) (q : Protocol) → q ≢ packet.protocol →
    (n : ℕ) →
    find (λ b. has_number address q n b.row) (change_first (is_of_source address packet) (binding_after_out packet)
    list)
    ≡ find (λ b. has_number address q n b.row) list
sent_others address packet list q differs n =
    find_other (is_of_source address packet) (binding_after_out packet) (λ b. has_number address q n b.row)
    (λ x. refl) (λ x h. not_has address q n x.row (λ p. differs (p ∙ sym
    (inside_protocol address packet.protocol packet.inside x.row h)))) list

-- A property of all protocols is shown for one and for each other one.
pub by_protocol : (protocol q : Protocol) (P : Protocol → Type 0) → P protocol → (q ≢ protocol → P q) → P q
by_protocol protocol q P here rest = elim (same_protocol q protocol) as (λ v. same_protocol q protocol ≡ v → P q) [
  | true ↦ λ e. subst P (sym (protocol_is q protocol e)) here
  | false ↦ λ e. rest (λ p. true≢false (sym (ap (same_protocol q) (sym p) ∙ same_itself q) ∙ e))
] refl

pub on_err : {X E : Type 0} (r : Result X E) (P : Type 0) → P → OnErr r P
on_err (Ok x) P h = tt
on_err (Err e) P h = h

pub same_everywhere : {X : Type 0} (old new : ℕ → X) (number : ℕ) → ((n : ℕ) → n ≢ number → new n ≡ old n) →
    new number ≡ old number → (n : ℕ) → new n ≡ old n
same_everywhere old new number others here n = elim (eqb n number) as (λ v. eqb n number ≡ v → new n ≡ old n) [
  | true ↦ λ t. let q : n ≡ number = eqb-true n number t in ap new q ∙ (here ∙ ap old (sym q))
  | false ↦ λ t. others n (λ q. true≢false (sym (eq-eqb n number q) ∙ t))
] refl

-- The list after one more event.
pub played_more : (timers : Timers) (assignment : AssignmentRules) (inbound : InboundRules) (address : ℕ)
    (events : List (ℕ × TableEvent))
    (event : ℕ × TableEvent) (list : List Binding) →
    list_after_events timers assignment inbound address (events ++ event ∷ []) list
    ≡ list_after_event timers assignment inbound address event.1
    (list_after_events timers assignment inbound address events list)
played_more timers assignment inbound address [] event list = refl
played_more timers assignment inbound address (e ∷ events) event list = played_more timers assignment inbound address
    events event
    (list_after_event timers assignment inbound address e.1 list)

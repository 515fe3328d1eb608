-- The standing flows of a binding, when a packet goes out and when one comes in.
use Rattle.std.proofs.lemmas.{Grind.common_steps, Bool.Decides.nat_tests}
use Rattle.std.proofs.Common.{◌≡◌, ℕ, Bool, true, false, cond, List, [], ◌∷◌, ◌++◌, get_or, set, Option, Some, refl, sym, ◌∙◌, ap, arith, eqb, filter, position}
use Rattle.std.{specs.List.list_any, proofs.lemmas.{Bool.{and_from, or_parts, eq-eqb}, Option.same_Some, List.Quantifiers.position-Some}}
use Rattle.napt_rules.specs.declared.Flow.{Flow}
use Rattle.napt_rules.specs.Prelude.{change_first, no_marks, is_live_flow, live_flows, is_flow_of, flow_after, with_flow, Protocol, Icmp, Tcp, Udp, Outgoing, Incoming, Endpoint, Flags, AreTimers, Timers}
use Rattle.napt_rules.proofs.Life.{used_live, flows_all, flows_kept}
use Rattle.napt_binding.specs.StandingFlows.{is_standing, standing_flow_of}
use Rattle.napt_binding.{proofs.Lists.{any_at, any_seen, set_seen, change_pushed, filter_pushed, map_same, any_set, any_pushed}, specs.Slots.{standing_flows, IsInSlot}}
use Rattle.napt_binding.proofs.Slots.{any_stands, any_none, kept_set, stands_there}

filter_true : {X : Type 0} (p : X → Bool) → ((x : X) → p x ≡ true) → (xs : List X) → filter p xs ≡ xs
filter_true p all [] = refl
filter_true p all (x ∷ xs) = ap (λ v. cond v (x ∷ filter p xs) (filter p xs)) (all x) ∙ ap (λ (l : List _). x ∷ l)
    (filter_true p all xs)

pub standing : (timers : Timers) (now : ℕ) (protocol : Protocol) (flows : List Flow) →
    live_flows timers now protocol flows ≡ filter (is_standing timers now protocol) flows
standing timers now Icmp flows = sym (filter_true (is_standing timers now Icmp) (λ f. refl) flows)
standing timers now Udp flows = sym (filter_true (is_standing timers now Udp) (λ f. refl) flows)
standing timers now Tcp flows = refl

used_standing : (timers : Timers) → AreTimers timers → (now : ℕ) (protocol : Protocol) (flags : Flags) (flow : Flow) →
    is_standing timers now protocol (flow_after protocol Outgoing flags now flow) ≡ true
used_standing timers good now Icmp flags flow = refl
used_standing timers good now Udp flags flow = refl
used_standing timers good now Tcp flags flow = used_live timers good Tcp Outgoing flags now flow

module _ (timers : Timers) (good : AreTimers timers) (now : ℕ) (protocol : Protocol) (remote : Endpoint)
    (flags : Flags) where
  any_standing : (flows : List Flow) → list_any (is_flow_of remote) (live_flows timers now protocol flows)
      ≡ list_any (standing_flow_of timers now protocol remote) flows
  any_standing flows =
      ap (list_any (is_flow_of remote)) (standing timers now protocol flows
      ∙ sym (map_same (filter (is_standing timers now protocol) flows)))
      ∙ any_seen (is_standing timers now protocol) (is_flow_of remote) (λ x. x) (λ x. refl) flows

  -- In a list, the standing flow of the remote is used where it is.
  pub flow_set : (flows : List Flow) (i : ℕ) (d : Flow) → position (standing_flow_of timers now protocol remote) flows
      ≡ Some i →
      live_flows timers now protocol (set flows i (flow_after protocol Outgoing flags now (get_or flows i d)))
      ≡ change_first (is_flow_of remote) (flow_after protocol Outgoing flags now)
      (with_flow remote now (live_flows timers now protocol flows))
  flow_set flows i d e =
      let kept : List Flow = filter (is_standing timers now protocol) flows in
      let there : list_any (is_flow_of remote) (live_flows timers now protocol flows) ≡ true = any_standing flows
      ∙ any_at (standing_flow_of timers now protocol remote) flows i e in
      standing timers now protocol (set flows i (flow_after protocol Outgoing flags now (get_or flows i d)))
      ∙ (sym (map_same (filter (is_standing timers now protocol)
      (set flows i (flow_after protocol Outgoing flags now (get_or flows i d)))))
      ∙ (set_seen (is_standing timers now protocol) (is_flow_of remote) (λ x. x) (λ x. refl)
      (flow_after protocol Outgoing flags now) flows i d (flow_after protocol Outgoing flags now (get_or flows i d)) e
      (used_standing timers good now protocol flags (get_or flows i d)) refl
      ∙ (ap (change_first (is_flow_of remote) (flow_after protocol Outgoing flags now)) (map_same kept
      ∙ sym (standing timers now protocol flows))
      ∙ sym (ap (λ v. change_first (is_flow_of remote) (flow_after protocol Outgoing flags now)
      (cond v (live_flows timers now protocol flows) (live_flows timers now protocol flows
      ++ record { remote = remote; marks = no_marks; last = now } ∷ []))) there))))

  -- If no flow of the remote stands, the expired flows are removed and one begins.
  pub flow_begun : (flows : List Flow) → list_any (standing_flow_of timers now protocol remote) flows ≡ false →
      live_flows timers now protocol (live_flows timers now protocol flows ++ flow_after protocol Outgoing flags now
      (record { remote = remote; marks = no_marks; last = now }) ∷ []) ≡ change_first (is_flow_of remote)
      (flow_after protocol Outgoing flags now) (with_flow remote now (live_flows timers now protocol flows))
  flow_begun flows e =
      let fresh : Flow = record { remote = remote; marks = no_marks; last = now } in
      let live : List Flow = live_flows timers now protocol flows in
      let none : list_any (is_flow_of remote) live ≡ false = any_standing flows ∙ e in
      let kept : filter (is_standing timers now protocol) live ≡ live = sym (standing timers now protocol live)
      ∙ flows_all protocol timers now live (flows_kept protocol timers now flows) in
      standing timers now protocol (live ++ flow_after protocol Outgoing flags now fresh ∷ [])
      ∙ (filter_pushed (is_standing timers now protocol) live (flow_after protocol Outgoing flags now fresh)
      (used_standing timers good now protocol flags fresh)
      ∙ (ap (λ (l : List Flow). l ++ flow_after protocol Outgoing flags now fresh ∷ []) kept
      ∙ sym (ap (λ v. change_first (is_flow_of remote) (flow_after protocol Outgoing flags now)
      (cond v live (live ++ fresh ∷ []))) none
      ∙ change_pushed (is_flow_of remote) (flow_after protocol Outgoing flags now) live fresh none
      (and_from (eqb remote.address remote.address) (eqb remote.number remote.number)
      (eq-eqb remote.address remote.address refl) (eq-eqb remote.number remote.number refl)))))

  pub none_left : (flows : List Flow) → list_any (standing_flow_of timers now protocol remote) flows ≡ false →
      list_any (is_flow_of remote) (live_flows timers now protocol flows) ≡ false
  none_left flows e = any_standing flows ∙ e

  -- In slots, the standing flow of the remote is used in its slot.
  pub flow_stood : (slots : List (Option Flow)) (i : ℕ) (flow : Flow) → IsInSlot slots i flow →
      is_standing timers now protocol flow ≡ true → is_flow_of remote flow ≡ true →
      ((k : ℕ) (y : Flow) → IsInSlot slots k y → is_flow_of remote y ≡ true → k ≡ i) →
      live_flows timers now protocol (standing_flows (set slots i (Some (flow_after protocol Outgoing flags now flow))))
      ≡ change_first (is_flow_of remote) (flow_after protocol Outgoing flags now)
      (with_flow remote now (live_flows timers now protocol (standing_flows slots)))
  flow_stood slots i flow here stands of one =
      let live : List Flow = live_flows timers now protocol (standing_flows slots) in
      let there : list_any (is_flow_of remote) live ≡ true = any_standing (standing_flows slots)
      ∙ any_stands (standing_flow_of timers now protocol remote) slots i flow here
      (and_from (is_standing timers now protocol flow) (is_flow_of remote flow) stands of) in
      standing timers now protocol (standing_flows (set slots i (Some (flow_after protocol Outgoing flags now flow))))
      ∙ (kept_set (is_standing timers now protocol) (is_flow_of remote) (flow_after protocol Outgoing flags now) slots
      i flow
      here stands (used_standing timers good now protocol flags flow) of one
      ∙ (ap (change_first (is_flow_of remote) (flow_after protocol Outgoing flags now))
      (sym (standing timers now protocol (standing_flows slots)))
      ∙ sym (ap (λ v. change_first (is_flow_of remote) (flow_after protocol Outgoing flags now)
      (cond v live (live ++ record { remote = remote; marks = no_marks; last = now } ∷ []))) there)))

  pub live_stood : (slots : List (Option Flow)) (i : ℕ) (flow : Flow) → IsInSlot slots i flow →
      list_any (is_live_flow timers now) (standing_flows
      (set slots i (Some (flow_after protocol Outgoing flags now flow)))) ≡ true
  live_stood slots i flow here = any_stands (is_live_flow timers now)
      (set slots i (Some (flow_after protocol Outgoing flags now flow))) i (flow_after protocol Outgoing flags now flow)
      (stands_there slots i flow (flow_after protocol Outgoing flags now flow) here)
      (used_live timers good protocol Outgoing flags now flow)

  pub live_begun : (flows : List Flow) (flow : Flow) →
      list_any (is_live_flow timers now) (flows ++ flow_after protocol Outgoing flags now flow ∷ []) ≡ true
  live_begun flows flow = any_pushed (is_live_flow timers now) flows (flow_after protocol Outgoing flags now flow)
      (used_live timers good protocol Outgoing flags now flow)

  -- If the flow of the remote does not stand in its slot, no flow of the remote stands.
  pub none_stands : (slots : List (Option Flow)) (i : ℕ) (flow : Flow) → IsInSlot slots i flow →
      is_standing timers now protocol flow ≡ false → ((k : ℕ) (y : Flow) → IsInSlot slots k y → is_flow_of remote y
      ≡ true → k ≡ i) → list_any (standing_flow_of timers now protocol remote) (standing_flows slots) ≡ false
  none_stands slots i flow here dead one = grind (arith, common_steps, nat_tests, any_none, same_Some)

  pub none_at_all : (flows : List Flow) → list_any (is_flow_of remote) flows ≡ false →
      list_any (standing_flow_of timers now protocol remote) flows ≡ false
  none_at_all [] e = refl
  none_at_all (f ∷ flows) e =
      let q : (is_flow_of remote f ≡ false) × (list_any (is_flow_of remote) flows ≡ false) =
      or_parts (is_flow_of remote f) (list_any (is_flow_of remote) flows) e in
      grind (arith, q.0, none_at_all flows q.1)

  pub live_set : (flows : List Flow) (i : ℕ) (flow : Flow) →
      position (standing_flow_of timers now protocol remote) flows ≡ Some i →
      list_any (is_live_flow timers now) (set flows i (flow_after protocol Outgoing flags now flow)) ≡ true
  live_set flows i flow e = any_set (is_live_flow timers now) flows i (flow_after protocol Outgoing flags now flow)
      (position-Some (standing_flow_of timers now protocol remote) flows i flow e).0
      (used_live timers good protocol Outgoing flags now flow)

-- An incoming segment uses the flow in its slot.
pub flow_refreshed : (now : ℕ) (remote : Endpoint) (flags : Flags) (slots : List (Option Flow)) (i : ℕ) (flow : Flow) →
    IsInSlot slots i flow → is_flow_of remote flow ≡ true →
    ((k : ℕ) (y : Flow) → IsInSlot slots k y → is_flow_of remote y
    ≡ true → k ≡ i) →
    standing_flows (set slots i (Some (flow_after Tcp Incoming flags now flow))) ≡ change_first (is_flow_of remote)
    (flow_after Tcp Incoming flags now) (standing_flows slots)
flow_refreshed now remote flags slots i flow here of one =
    sym (filter_true (λ f. true) (λ f. refl) (standing_flows
    (set slots i (Some (flow_after Tcp Incoming flags now flow)))))
    ∙ (kept_set (λ f. true) (is_flow_of remote) (flow_after Tcp Incoming flags now) slots i flow here refl refl of one
    ∙ ap (change_first (is_flow_of remote) (flow_after Tcp Incoming flags now)) (filter_true (λ f. true) (λ f. refl)
    (standing_flows slots)))

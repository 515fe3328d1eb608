-- No flow was last used after a time.
use Rattle.std.proofs.Common.{◌≡◌, ℕ, zero, suc, ◌≤◌, true, false, cond, List, [], ◌∷◌, set, Option, Some, None, subst, All, filter, slice_index_or}
use Rattle.std.proofs.lemmas.{List.Elements.{All-cons, All-head, All-tail, All-filter}, Option.same_Some}
use Rattle.napt_rules.specs.{declared.Flow.Flow, Prelude.{is_live_flow, is_tcp, live_flows, Protocol, Timers}}
use Rattle.napt_binding.specs.Slots.{standing_flows, NoneUsedAfter}

-- A property of all flows still holds after a flow with it is put into a slot.
pub used_set : (P : Flow → Type 0) (slots : List (Option Flow)) (i : ℕ) (f : Flow) → All P (standing_flows slots) →
    P f →
    All P (standing_flows (set slots i (Some f)))
used_set P [] i f all h = all
used_set P (None ∷ slots) zero f all h = All-cons P f (standing_flows slots) h all
used_set P (Some g ∷ slots) zero f all h = All-cons P f (standing_flows slots) h
    (All-tail P g (standing_flows slots) all)
used_set P (None ∷ slots) (suc i) f all h = used_set P slots i f all h
used_set P (Some g ∷ slots) (suc i) f all h =
    All-cons P g (standing_flows (set slots i (Some f))) (All-head P g (standing_flows slots) all)
    (used_set P slots i f (All-tail P g (standing_flows slots) all) h)

pub live_flows_used : (timers : Timers) (now : ℕ) (protocol : Protocol) (flows : List Flow) → NoneUsedAfter flows now →
    NoneUsedAfter (live_flows timers now protocol flows) now
live_flows_used timers now protocol flows h = elim (is_tcp protocol) as (λ v.
    NoneUsedAfter (cond v (filter (is_live_flow timers now) flows) flows) now)
    [ true ↦ All-filter (is_live_flow timers now) (λ (x : Flow). x.last ≤ now) flows h | false ↦ h ]

-- No flow in a slot was used after the time.
pub none_used : (slots : List (Option Flow)) (now : ℕ) → NoneUsedAfter (standing_flows slots) now → (i : ℕ) (f : Flow) →
    slice_index_or slots i None ≡ Some f → f.last ≤ now
none_used [] now all i f h = cc
none_used (None ∷ slots) now all zero f h = cc
none_used (None ∷ slots) now all (suc i) f h = none_used slots now all i f h
none_used (Some g ∷ slots) now all zero f h =
    let is : g ≡ f = same_Some g f h in
    let le : g.last ≤ now = All-head (λ (x : Flow). x.last ≤ now) g (standing_flows slots) all in
    subst (λ (x : Flow). x.last ≤ now) is le
none_used (Some g ∷ slots) now all (suc i) f h =
    none_used slots now (All-tail (λ (x : Flow). x.last ≤ now) g (standing_flows slots) all) i f h

-- This still holds after a slot is emptied.
pub used_cleared : (slots : List (Option Flow)) (i now : ℕ) → NoneUsedAfter (standing_flows slots) now →
    NoneUsedAfter (standing_flows (set slots i None)) now
used_cleared [] i now all = all
used_cleared (None ∷ slots) zero now all = all
used_cleared (Some g ∷ slots) zero now all = All-tail (λ (x : Flow). x.last ≤ now) g (standing_flows slots) all
used_cleared (None ∷ slots) (suc i) now all = used_cleared slots i now all
used_cleared (Some g ∷ slots) (suc i) now all =
    All-cons (λ (x : Flow). x.last ≤ now) g (standing_flows (set slots i None))
    (All-head (λ (x : Flow). x.last ≤ now) g (standing_flows slots) all)
    (used_cleared slots i now (All-tail (λ (x : Flow). x.last ≤ now) g (standing_flows slots) all))

-- Flows of distinct remotes, in lists and in slots.
use Rattle.std.proofs.lemmas.{Grind.common_steps, Bool.Decides.nat_tests}
use Rattle.std.proofs.Common.{◌≡◌, ℕ, zero, suc, ◌+◌, ◌<◌, Bool, true, false, ◌||◌, cond, List, [], ◌∷◌, ◌++◌, length, take, set, get_or, Option, Some, None, refl, sym, ◌∙◌, ap, arith, filter}
use Rattle.std.{specs.List.list_any, proofs.lemmas.{Bool.{or_parts, true≢false}, List.Folds.list_any_at}}
use Rattle.napt_rules.specs.{Prelude.{same_endpoint, live_flows, is_flow_of, Endpoint, Protocol, Timers}, declared.Flow.Flow}
use Rattle.napt_binding.{specs.{declared.flows.flow_maps.FlowMaps.FlowMaps, FlowMapInvariants.{place_of_remote, FlowMapsInvariant}, Slots.{standing_flows, IsInSlot, AreDistinct}}, proofs.Lists.any_last}
use Rattle.napt_binding.proofs.{FlowMapSteps.{endpoint_is, endpoint_same, no_place}, Slots.{any_none, somes_pushed}}

other_way : (f g : Flow) → is_flow_of f.remote g ≡ false → is_flow_of g.remote f ≡ false
other_way f g h = elim (is_flow_of g.remote f) as (λ v. is_flow_of g.remote f ≡ v → v ≡ false) [
  | true ↦ λ e. absurd (true≢false (sym (endpoint_same g.remote f.remote (sym (endpoint_is f.remote g.remote e))) ∙ h))
  | false ↦ λ e. refl
] refl

none_kept : (t p : Flow → Bool) (flows : List Flow) → list_any t flows ≡ false → list_any t (filter p flows) ≡ false
none_kept t p [] h = refl
none_kept t p (f ∷ flows) h =
    let q : (t f ≡ false) × (list_any t flows ≡ false) = or_parts (t f) (list_any t flows) h in
    elim (p f) as (λ v. list_any t (cond v (f ∷ filter p flows) (filter p flows)) ≡ false) [
      | true ↦ ap (λ v. v || list_any t (filter p flows)) q.0 ∙ none_kept t p flows q.1
      | false ↦ none_kept t p flows q.1
    ]

pub distinct_kept : (p : Flow → Bool) (flows : List Flow) → AreDistinct flows → AreDistinct (filter p flows)
distinct_kept p [] d = tt
distinct_kept p (f ∷ flows) d =
    grind (arith, common_steps, nat_tests, none_kept, distinct_kept p flows d.1, distinct_kept p flows d.1)

same_any : (remote : Endpoint) (flows : List Flow) (i : ℕ) (d flow : Flow) → flow.remote ≡ (get_or flows i d).remote →
    list_any (is_flow_of remote) (set flows i flow) ≡ list_any (is_flow_of remote) flows
same_any remote [] i d flow e = refl
same_any remote (f ∷ flows) zero d flow e =
    ap (λ (r : Endpoint). same_endpoint r remote || list_any (is_flow_of remote) flows) e
same_any remote (f ∷ flows) (suc i) d flow e = ap (λ v. is_flow_of remote f || v) (same_any remote flows i d flow e)

-- If a flow replaces one of its remote, the flows stay distinct.
pub distinct_set : (flows : List Flow) (i : ℕ) (d flow : Flow) → flow.remote ≡ (get_or flows i d).remote →
    AreDistinct flows → AreDistinct (set flows i flow)
distinct_set [] i d flow e h = tt
distinct_set (f ∷ flows) zero d flow e h = (ap (λ (r : Endpoint). list_any (is_flow_of r) flows) e ∙ h.0, h.1)
distinct_set (f ∷ flows) (suc i) d flow e h =
    (same_any f.remote flows i d flow e ∙ h.0, distinct_set flows i d flow e h.1)

pub distinct_pushed : (flows : List Flow) (flow : Flow) → list_any (is_flow_of flow.remote) flows ≡ false →
    AreDistinct flows → AreDistinct (flows ++ flow ∷ [])
distinct_pushed [] flow h d = (refl, tt)
distinct_pushed (f ∷ flows) flow h d =
    let q : (is_flow_of flow.remote f ≡ false) × (list_any (is_flow_of flow.remote) flows ≡ false) =
    or_parts (is_flow_of flow.remote f) (list_any (is_flow_of flow.remote) flows) h in
    (any_last (is_flow_of f.remote) flows flow d.0 (other_way flow f q.0), distinct_pushed flows flow q.1 d.1)

-- The remote of a flow is none of those before it.
pub not_before : (flows : List Flow) (i : ℕ) (d : Flow) → i < length flows → AreDistinct flows →
    list_any (is_flow_of (get_or flows i d).remote) (take i flows) ≡ false
not_before [] i d lt h = absurd (omega arith)
not_before (f ∷ flows) zero d lt h = refl
not_before (f ∷ flows) (suc i) d lt h =
    let g : Flow = get_or flows i d in
    let within : i < length flows = omega (arith, lt) in
    let first : is_flow_of f.remote g ≡ false = elim (is_flow_of f.remote g) as (λ v. is_flow_of f.remote g ≡ v →
    v ≡ false) [
      | true ↦ λ e. absurd (true≢false (sym (list_any_at (is_flow_of f.remote) flows i d within e) ∙ h.0))
      | false ↦ λ e. refl
    ] refl in
    ap (λ v. v || list_any (is_flow_of g.remote) (take i flows)) (other_way f g first) ∙ not_before flows i d within h.1

-- SLOTS

stands_before : (slots : List (Option Flow)) (i k : ℕ) (flow : Flow) → IsInSlot (take i slots) k flow →
    (k < i) × IsInSlot slots k flow
stands_before slots zero k flow h = cc
stands_before [] (suc i) k flow h = cc
stands_before (o ∷ slots) (suc i) zero flow h = (omega arith, h)
stands_before (o ∷ slots) (suc i) (suc k) flow h = let s = stands_before slots i k flow h in (omega (arith, s.0), s.1)

pub not_in_slots_before : (many : FlowMaps) (i : ℕ) (flow : Flow) → FlowMapsInvariant many →
    IsInSlot many.slots.slots i flow →
    list_any (is_flow_of flow.remote) (standing_flows (take i many.slots.slots)) ≡ false
not_in_slots_before many i flow is here = any_none (is_flow_of flow.remote) (take i many.slots.slots) (λ k f h.
    let s = stands_before many.slots.slots i k f h in
    elim (is_flow_of flow.remote f) as (λ v. is_flow_of flow.remote f ≡ v → v ≡ false) [
      | true ↦ λ e. let z : k ≡ i = Rattle.napt_binding.proofs.FlowMapSteps.one many flow.remote i is
          (is.found i flow here) k f s.1 e in absurd (omega (arith, s.0))
      | false ↦ λ e. refl
    ] refl)

-- One slot more adds its flow.
pub somes_more : (slots : List (Option Flow)) (i : ℕ) (flow : Flow) → IsInSlot slots i flow →
    standing_flows (take (suc i) slots)
    ≡ standing_flows (take i slots) ++ flow ∷ []
somes_more [] i flow h = cc
somes_more (o ∷ slots) zero flow h = grind (arith, common_steps, nat_tests)
somes_more (None ∷ slots) (suc i) flow h = somes_more slots i flow h
somes_more (Some f ∷ slots) (suc i) flow h = ap (λ (l : List Flow). f ∷ l) (somes_more slots i flow h)

pub somes_no_more : (slots : List (Option Flow)) (i : ℕ) → ((flow : Flow) → IsInSlot slots i flow → ⊥) →
    standing_flows (take (suc i) slots) ≡ standing_flows (take i slots)
somes_no_more [] zero none = refl
somes_no_more [] (suc i) none = refl
somes_no_more (None ∷ slots) zero none = refl
somes_no_more (Some f ∷ slots) zero none = absurd (none f refl)
somes_no_more (None ∷ slots) (suc i) none = somes_no_more slots i none
somes_no_more (Some f ∷ slots) (suc i) none = ap (λ (l : List Flow). f ∷ l) (somes_no_more slots i none)

pub distinct_live : (timers : Timers) (now : ℕ) (protocol : Protocol) (flows : List Flow) → AreDistinct flows →
    AreDistinct (live_flows timers now protocol flows)
distinct_live timers now protocol flows d = grind (arith, common_steps, nat_tests, distinct_kept)

-- ONE MORE FLOW OF A LIST

pub put_next : (new middle old : List (Option Flow)) (done : List Flow) (flow : Flow) → new ≡ middle ++ Some flow ∷ [] →
    middle ≡ old → standing_flows old ≡ done → standing_flows new ≡ done ++ flow ∷ []
put_next new middle old done flow put same is = ap standing_flows put
    ∙ (somes_pushed middle flow ∙ ap (λ (l : List Flow). l ++ flow ∷ []) (ap standing_flows same ∙ is))

pub next_slot : (slots : List (Option Flow)) (i : ℕ) (flow : Flow) → IsInSlot slots i flow →
    standing_flows (take (i + 1) slots)
    ≡ standing_flows (take i slots) ++ flow ∷ []
next_slot slots i flow h = let s : i + 1 ≡ suc i = omega arith in ap (λ (n : ℕ). standing_flows (take n slots)) s
    ∙ somes_more slots i flow h

pub empty_slot : (slots : List (Option Flow)) (i : ℕ) → ((flow : Flow) → IsInSlot slots i flow → ⊥) →
    standing_flows (take (i + 1) slots) ≡ standing_flows (take i slots)
empty_slot slots i none = let s : i + 1 ≡ suc i = omega arith in ap (λ (n : ℕ). standing_flows (take n slots)) s
    ∙ somes_no_more slots i none

pub absent_next : (many : FlowMaps) (old : List (Option Flow)) (done : List Flow) (remote : Endpoint) →
    FlowMapsInvariant many →
    many.slots.slots ≡ old → standing_flows old ≡ done → list_any (is_flow_of remote) done ≡ false →
    place_of_remote many remote ≡ None
absent_next many old done remote is same all none =
    no_place many remote is (ap (list_any (is_flow_of remote)) (ap standing_flows same ∙ all) ∙ none)

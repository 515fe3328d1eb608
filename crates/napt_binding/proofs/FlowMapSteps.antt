-- Flows in maps, when one begins, changes or is removed.
use Rattle.std.proofs.lemmas.{Grind.common_steps, Bool.Decides.nat_tests}
use Rattle.std.proofs.Common.{◌≡◌, ◌≢◌, ℕ, ◌+◌, ◌-◌, ◌≤◌, ◌⊎◌, inl, inr, true, false, cond, List, [], ◌∷◌, ◌++◌, length, set, get_or, Option, Some, None, slice_get, refl, sym, ◌∙◌, ap, arith, eqb, eqb-true}
use Rattle.std.{specs.{List.list_any, HashMap.hash_map_len}, proofs.lemmas.Bool.{eq-eqb, and_from, and_parts, true≢false}}
use Rattle.std.proofs.lemmas.{Option.{same_Some, get_or_from_slice_get}, List.Sums.{sum_by-set, sum_by_push}}
use Rattle.napt_rules.specs.{declared.Flow.Flow, Prelude.{same_endpoint, is_flow_of, Endpoint}}
use Rattle.napt_binding.specs.{declared.flows.flow_maps.FlowMaps.FlowMaps, Counts.count_at, FlowMapInvariants.{place_of_remote, FlowMapsInvariant}, Slots.{standing_flows, IsInSlot, of_address, count_of}}
use Rattle.napt_binding.proofs.Slots.{one_more, as_many_set, one_fewer, stands_within, stands_set, stands_there, stands_elsewhere, stands_pushed, stands_last, stands_still, any_stands, any_none}

-- ENDPOINTS

pub endpoint_is : (a b : Endpoint) → same_endpoint a b ≡ true → a ≡ b
endpoint_is a b h = grind (arith, common_steps, nat_tests, and_parts)

pub endpoint_same : (a b : Endpoint) → a ≡ b → same_endpoint a b ≡ true
endpoint_same a b e =
    and_from (eqb a.address b.address) (eqb a.number b.number)
    (eq-eqb a.address b.address (ap (λ (x : Endpoint). x.address) e))
    (eq-eqb a.number b.number (ap (λ (x : Endpoint). x.number) e))

-- Two endpoints are equal, or they differ.
either : (a b : Endpoint) → ((a ≡ b) × (same_endpoint a b ≡ true)) ⊎ ((a ≢ b) × (same_endpoint a b ≡ false))
either a b = grind (arith, common_steps, nat_tests, endpoint_is, endpoint_same)

-- FOUND OR NOT

pub one : (many : FlowMaps) (remote : Endpoint) (i : ℕ) → FlowMapsInvariant many →
    place_of_remote many remote ≡ Some i →
    (k : ℕ) (flow : Flow) → IsInSlot many.slots.slots k flow → is_flow_of remote flow ≡ true → k ≡ i
one many remote i is h k flow stands of =
    let e : flow.remote ≡ remote = endpoint_is flow.remote remote of in
    same_Some k i (sym (is.found k flow stands) ∙ (ap (place_of_remote many) e ∙ h))

pub place_of_is : (many : FlowMaps) (remote : Endpoint) (i : ℕ) (flow : Flow) → FlowMapsInvariant many →
    place_of_remote many remote
    ≡ Some i → IsInSlot many.slots.slots i flow → is_flow_of remote flow ≡ true
place_of_is many remote i flow is h stands =
    let s = is.stands remote i h in
    let same : s.0 ≡ flow = same_Some s.0 flow (same_Some (Some s.0) (Some flow) (sym s.1 ∙ stands)) in
    endpoint_same flow.remote remote (sym (ap (λ (f : Flow). f.remote) same) ∙ s.2)

pub not_found : (many : FlowMaps) (remote : Endpoint) → FlowMapsInvariant many → place_of_remote many remote ≡ None →
    list_any (is_flow_of remote) (standing_flows many.slots.slots) ≡ false
not_found many remote is h = grind (arith, common_steps, nat_tests, any_none, either)

pub has_found : (many : FlowMaps) (remote : Endpoint) (i : ℕ) → FlowMapsInvariant many →
    place_of_remote many remote ≡ Some i →
    list_any (is_flow_of remote) (standing_flows many.slots.slots) ≡ true
has_found many remote i is h =
    let s = is.stands remote i h in
    any_stands (is_flow_of remote) many.slots.slots i s.0 s.1 (endpoint_same s.0.remote remote s.2)

pub no_place : (many : FlowMaps) (remote : Endpoint) → FlowMapsInvariant many →
    list_any (is_flow_of remote) (standing_flows many.slots.slots)
    ≡ false → place_of_remote many remote ≡ None
no_place many remote is h = elim (place_of_remote many remote) as (λ o. place_of_remote many remote ≡ o → o ≡ None) [
  | None ↦ λ e. refl
  | Some i ↦ λ e. absurd (true≢false (sym (has_found many remote i is e) ∙ h))
] refl

-- WHAT DOES NOT CHANGE, AND THE INVARIANT

pub same_many : (old new : FlowMaps) → FlowMapsInvariant old → new.slots.slots ≡ old.slots.slots →
    ((e : Endpoint) → place_of_remote new e ≡ place_of_remote old e) →
    ((a : ℕ) → count_at new.addresses a ≡ count_at old.addresses a) →
    hash_map_len new.places ≡ hash_map_len old.places → FlowMapsInvariant new
same_many old new is slots places counts many = grind (arith, common_steps, nat_tests)

put_stands : (slots : List (Option Flow)) (old : Endpoint → Option ℕ) (flow : Flow) (e : Endpoint) (i : ℕ) →
    ((e : Endpoint) (i : ℕ) → old e ≡ Some i → (f : Flow) × IsInSlot slots i f × (f.remote ≡ e)) →
    cond (same_endpoint flow.remote e) (Some (length slots)) (old e) ≡ Some i →
    (f : Flow) × IsInSlot (slots ++ Some flow ∷ []) i f × (f.remote ≡ e)
put_stands slots old flow e i is h =
    grind (arith, common_steps, nat_tests, either, same_Some, stands_last, stands_still)

put_found : (slots : List (Option Flow)) (old : Endpoint → Option ℕ) (flow : Flow) → old flow.remote ≡ None →
    ((i : ℕ) (f : Flow) → IsInSlot slots i f → old f.remote ≡ Some i) →
    (i : ℕ) (f : Flow) → IsInSlot (slots ++ Some flow ∷ []) i f → cond (same_endpoint flow.remote f.remote)
    (Some (length slots)) (old f.remote) ≡ Some i
put_found slots old flow absent found i f h =
    grind (arith, common_steps, nat_tests, stands_pushed, endpoint_same, same_Some, either)

pub put_many : (old new : FlowMaps) (flow : Flow) → FlowMapsInvariant old → place_of_remote old flow.remote ≡ None →
    new.slots.slots
    ≡ old.slots.slots ++ Some flow ∷ [] →
    ((e : Endpoint) → place_of_remote new e ≡ cond (same_endpoint flow.remote e) (Some (length old.slots.slots))
    (place_of_remote old e)) →
    ((a : ℕ) → count_at new.addresses a ≡ count_at old.addresses a + cond {A = ℕ} (eqb flow.remote.address a) 1 0) →
    hash_map_len new.places ≡ hash_map_len old.places + 1 → FlowMapsInvariant new
put_many old new flow is absent slots places counts many = record {
  stands = λ e i h.
      let s = put_stands old.slots.slots (place_of_remote old) flow e i is.stands (sym (places e) ∙ h) in
      (s.0, ap (λ (l : List (Option Flow)). slice_get l i) slots ∙ s.1, s.2);
  found = λ i f h. places f.remote ∙ put_found old.slots.slots (place_of_remote old) flow absent is.found i f
      (ap (λ (l : List (Option Flow)). slice_get l i) (sym slots) ∙ h);
  counted = λ a.
      let more : count_of (old.slots.slots ++ Some flow ∷ []) a ≡ count_of old.slots.slots a
      + of_address a (Some flow) = sum_by_push (of_address a) old.slots.slots (Some flow) in
      counts a ∙ (ap (λ (n : ℕ). n + cond {A = ℕ} (eqb flow.remote.address a) 1 0) (is.counted a)
      ∙ (sym more ∙ ap (λ (l : List (Option Flow)). count_of l a) (sym slots)));
  as_many = many ∙ (ap (λ (n : ℕ). n + 1) is.as_many ∙ (sym (one_more old.slots.slots flow)
      ∙ ap (λ (l : List (Option Flow)). length (standing_flows l)) (sym slots)));
}

pub taken_many : (old new : FlowMaps) (i : ℕ) (flow : Flow) → FlowMapsInvariant old →
    IsInSlot old.slots.slots i flow → new.slots.slots
    ≡ set old.slots.slots i None →
    ((e : Endpoint) → place_of_remote new e ≡ cond (same_endpoint flow.remote e) None (place_of_remote old e)) →
    ((a : ℕ) → count_at new.addresses a ≡ count_at old.addresses a - cond {A = ℕ} (eqb flow.remote.address a) 1 0) →
    hash_map_len new.places + 1 ≡ hash_map_len old.places → FlowMapsInvariant new
taken_many old new i flow is there slots places counts many = record {
  stands = λ e k h. elim (either flow.remote e) as (λ r. (f : Flow) × IsInSlot new.slots.slots k f × (f.remote ≡ e)) [
    | inl p ↦ let z : None ≡ Some k = sym (places e ∙ ap (λ v. cond v None (place_of_remote old e)) p.1) ∙ h in cc
    | inr p ↦
        let s = is.stands e k (sym (places e ∙ ap (λ v. cond v None (place_of_remote old e)) p.1) ∙ h) in
        let differs : k ≢ i = λ q.
        p.0 (ap (λ (x : Flow). x.remote)
        (same_Some flow s.0 (same_Some (Some flow) (Some s.0) (sym there ∙ (ap (slice_get old.slots.slots) (sym q)
        ∙ s.1)))) ∙ s.2) in (
          s.0,
          ap (λ (l : List (Option Flow)). slice_get l k) slots
              ∙ stands_elsewhere old.slots.slots i None k s.0 differs s.1,
          s.2,
        )
  ];
  found = λ k f h.
      elim (stands_set old.slots.slots i None k f (ap (λ (l : List (Option Flow)). slice_get l k) (sym slots) ∙ h)) as
      (λ r. place_of_remote new f.remote ≡ Some k) [
        | inl p ↦ let z : None ≡ Some f = p.1 in cc
        | inr p ↦ elim (either flow.remote f.remote) as (λ r. place_of_remote new f.remote ≡ Some k) [
          | inl q ↦ absurd
              (p.0 (same_Some k i (sym (is.found k f p.1)
              ∙ (ap (place_of_remote old) (sym q.0) ∙ is.found i flow there))))
          | inr q ↦ places f.remote ∙ (ap (λ v. cond v None (place_of_remote old f.remote)) q.1 ∙ is.found k f p.1)
        ]
      ];
  counted = λ a.
      let here : get_or old.slots.slots i None ≡ Some flow = get_or_from_slice_get old.slots.slots i
      (Some flow) None there in
      let less : count_of (set old.slots.slots i None) a + of_address a (get_or old.slots.slots i None)
      ≡ count_of old.slots.slots a + 0 = sum_by-set (of_address a) old.slots.slots i None None
      (stands_within old.slots.slots i flow there) in
      let at : of_address a (get_or old.slots.slots i None) ≡ cond {A = ℕ} (eqb flow.remote.address a) 1 0 =
      ap (of_address a) here in
      let was : count_at old.addresses a ≡ count_of old.slots.slots a = is.counted a in
      let now : count_at new.addresses a ≡ count_at old.addresses a - cond {A = ℕ} (eqb flow.remote.address a) 1 0 =
      counts a in
      let left : count_at new.addresses a ≡ count_of (set old.slots.slots i None) a = omega arith in
      left ∙ ap (λ (l : List (Option Flow)). count_of l a) (sym slots);
  as_many =
      let one : length (standing_flows (set old.slots.slots i None)) + 1 ≡ length (standing_flows old.slots.slots) =
      one_fewer old.slots.slots i flow there in
      let left : hash_map_len new.places ≡ length (standing_flows (set old.slots.slots i None)) =
      omega (arith, many, one, is.as_many) in
      left ∙ ap (λ (l : List (Option Flow)). length (standing_flows l)) (sym slots);
}

pub changed_many : (old new : FlowMaps) (i : ℕ) (was flow : Flow) → FlowMapsInvariant old →
    IsInSlot old.slots.slots i was →
    was.remote ≡ flow.remote → new.slots.slots ≡ set old.slots.slots i (Some flow) →
    ((e : Endpoint) → place_of_remote new e ≡ place_of_remote old e) →
    ((a : ℕ) → count_at new.addresses a ≡ count_at old.addresses a) →
    hash_map_len new.places ≡ hash_map_len old.places → FlowMapsInvariant new
changed_many old new i was flow is there same slots places counts many = record {
  stands = λ e k h.
      let s = is.stands e k (sym (places e) ∙ h) in
      elim (eqb k i) as (λ v. eqb k i ≡ v → (f : Flow) × IsInSlot new.slots.slots k f × (f.remote ≡ e)) [
        | true ↦ λ t.
            let q : k ≡ i = eqb-true k i t in
            let w : was ≡ s.0 =
            same_Some was s.0 (same_Some (Some was) (Some s.0) (sym there ∙ (ap (slice_get old.slots.slots) (sym q)
            ∙ s.1))) in (
              flow,
              ap (λ (l : List (Option Flow)). slice_get l k) slots
                  ∙ (ap (slice_get (set old.slots.slots i (Some flow))) q
                  ∙ stands_there old.slots.slots i was flow there),
              sym same ∙ (ap (λ (x : Flow). x.remote) w ∙ s.2),
            )
        | false ↦ λ t. (
          s.0,
          ap (λ (l : List (Option Flow)). slice_get l k) slots ∙ stands_elsewhere old.slots.slots i
              (Some flow) k s.0 (λ q. true≢false (sym (eq-eqb k i q) ∙ t)) s.1,
          s.2,
        )
      ] refl;
  found = λ k f h.
      elim (stands_set old.slots.slots i (Some flow) k f (ap (λ (l : List (Option Flow)). slice_get l k) (sym slots)
      ∙ h)) as (λ r. place_of_remote new f.remote ≡ Some k) [
        | inl p ↦ places f.remote ∙ (ap (place_of_remote old)
            (sym (same ∙ ap (λ (x : Flow). x.remote) (same_Some flow f p.1)))
            ∙ (is.found i was there ∙ ap (λ (n : ℕ). Some n) (sym p.0)))
        | inr p ↦ places f.remote ∙ is.found k f p.1
      ];
  counted = λ a.
      let here : get_or old.slots.slots i None ≡ Some was = get_or_from_slice_get old.slots.slots i
      (Some was) None there in
      let less : count_of (set old.slots.slots i (Some flow)) a + of_address a (get_or old.slots.slots i None)
      ≡ count_of old.slots.slots a + of_address a (Some flow) = sum_by-set (of_address a) old.slots.slots i
      (Some flow) None (stands_within old.slots.slots i was there) in
      let at : of_address a (get_or old.slots.slots i None) ≡ of_address a (Some flow) = ap (of_address a) here
      ∙ ap (λ (e : Endpoint). cond {A = ℕ} (eqb e.address a) 1 0) same in
      let left : count_of old.slots.slots a ≡ count_of (set old.slots.slots i (Some flow)) a = omega arith in
      counts a ∙ (is.counted a ∙ (left ∙ ap (λ (l : List (Option Flow)). count_of l a) (sym slots)));
  as_many = many ∙ (is.as_many ∙ (sym (as_many_set old.slots.slots i was flow there)
      ∙ ap (λ (l : List (Option Flow)). length (standing_flows l)) (sym slots)));
}

pub few_counted : (many : FlowMaps) (address : ℕ) → FlowMapsInvariant many →
    count_at many.addresses address ≤ length many.slots.slots
few_counted many address is =
    let le = Rattle.std.proofs.lemmas.List.Sums.sum_by-le (of_address address) 1 many.slots.slots (λ k d lt.
    one_at_most (get_or many.slots.slots k d)) in
    omega (arith, le, is.counted address)
  where
    one_at_most : (o : Option Flow) → of_address address o ≤ 1
    one_at_most None = omega arith
    one_at_most (Some f) = elim (eqb f.remote.address address) as (λ v. cond {A = ℕ} v 1 0 ≤ 1)
        [ true ↦ omega arith | false ↦ omega arith ]

pub found_is : (many : FlowMaps) (remote : Endpoint) → FlowMapsInvariant many →
    Rattle.std.specs.Prelude.is_some (place_of_remote many remote)
    ≡ list_any (is_flow_of remote) (standing_flows many.slots.slots)
found_is many remote is = grind (arith, common_steps, nat_tests, not_found, has_found)

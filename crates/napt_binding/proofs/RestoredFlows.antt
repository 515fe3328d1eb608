-- Flows that are inserted as if never used, and then get their last uses in ascending order.
use Rattle.std.proofs.lemmas.{Grind.common_steps, Bool.Decides.nat_tests}
use Rattle.std.proofs.Common.{◌≡◌, ◌≢◌, ℕ, zero, suc, ◌+◌, ◌<◌, ◌≤◌, inl, inr, false, ◌||◌, List, [], ◌∷◌, length, map, get_or, set, Option, Some, slice_get, refl, ◌∙◌, ap, arith, subst}
use Rattle.std.{specs.List.list_any, proofs.{Math.ListN.length-set, lemmas.{Bool.cases_eq, List.{get_or_default, Elements.{All-nil, All-cons}}}}}
use Rattle.std.proofs.lemmas.Option.{same_Some}
use Rattle.napt_rules.specs.{declared.Flow.Flow, Prelude.{is_flow_of, Endpoint}}
use Rattle.napt_binding.{specs.Slots.{standing_flows, IsInSlot, NoneUsedAfter, AreByLastUse}, proofs.{Slots.{stands_there, stands_elsewhere}, LastUses.used_set}}

-- The flow that stands for one past the end of a list.
abbrev pub nothing : Flow
nothing = record {
  remote = record { address = 0; number = 0 };
  marks = record { syn_out = false; syn_in = false; fin_out = false; fin_in = false; reset = false };
  last = 0;
}

abbrev pub no_entry : ℕ × Flow
no_entry = (0, nothing)

-- The flow as if it had never been used.
abbrev pub unused : Flow → Flow
unused flow = record { remote = flow.remote; marks = flow.marks; last = 0 }

abbrev pub as_unused : Flow → Option Flow
as_unused flow = Some (unused flow)

pub any_unused : (remote : Endpoint) (flows : List Flow) →
    list_any (is_flow_of remote) (standing_flows (map as_unused flows)) ≡ list_any (is_flow_of remote) flows
any_unused remote [] = refl
any_unused remote (f ∷ flows) = ap (λ v. is_flow_of remote f || v) (any_unused remote flows)

-- Each slot has a flow of the same remote.
pub record AreAlike (flows : List Flow) (slots : List (Option Flow)) : Type 0 where
  pub as_many : length slots ≡ length flows
  pub alike : (i : ℕ) (flow : Flow) → slice_get flows i ≡ Some flow → (was : Flow) × IsInSlot slots i was
      × (was.remote ≡ flow.remote)

-- Each slot has a flow of the same remote, the first n entries are back in theirs, and none was used after the rest.
pub record AreBack (flows : List Flow) (entries : List (ℕ × Flow)) (n : ℕ) (slots : List (Option Flow)) : Type 0 where
  pub alike : AreAlike flows slots
  pub back : (j : ℕ) → j < n → IsInSlot slots (get_or entries j no_entry).0 (get_or entries j no_entry).1
  pub rising : (j : ℕ) → n ≤ j → j < length entries →
      NoneUsedAfter (standing_flows slots) (get_or entries j no_entry).1.last

length_unused : (flows : List Flow) → length (map as_unused flows) ≡ length flows
length_unused [] = refl
length_unused (f ∷ flows) = ap (λ (n : ℕ). suc n) (length_unused flows)

unused_stands : (flows : List Flow) (i : ℕ) (flow : Flow) → slice_get flows i ≡ Some flow →
    IsInSlot (map as_unused flows) i (unused flow)
unused_stands [] i flow h = cc
unused_stands (f ∷ flows) zero flow h = ap (λ (x : Flow). Some (as_unused x)) (same_Some f flow h)
unused_stands (f ∷ flows) (suc i) flow h = unused_stands flows i flow h

pub alike_put : (flows : List Flow) (slots : List (Option Flow)) → slots ≡ map as_unused flows → AreAlike flows slots
alike_put flows slots is = record {
  as_many = ap (λ (l : List (Option Flow)). length l) is ∙ length_unused flows;
  alike = λ i flow h. (
    unused flow,
    ap (λ (l : List (Option Flow)). slice_get l i) is ∙ unused_stands flows i flow h,
    refl,
  );
}

module _ (flows : List Flow) (slots : List (Option Flow)) (place : ℕ) (flow : Flow)
    (at : slice_get flows place ≡ Some flow) (are : AreAlike flows slots) where
  here : (i : ℕ) (f : Flow) → i ≡ place → slice_get flows i ≡ Some f → (flow ≡ f)
      × IsInSlot (set slots place (Some flow)) i f
  here i f e h = grind (arith, common_steps, nat_tests, same_Some, stands_there)

  pub alike_set : AreAlike flows (set slots place (Some flow))
  alike_set = record {
    as_many = length-set slots place (Some flow) ∙ are.as_many;
    alike = λ i f h.
        elim (cases_eq i place) [
          | inl e ↦ (f, (here i f e h).1, refl)
          | inr ne ↦
              let was = are.alike i f h in
              (was.0, stands_elsewhere slots place (Some flow) i was.0 ne was.1, was.2)
        ];
  }

all_back : (flows : List Flow) (slots : List (Option Flow)) → length slots ≡ length flows →
    ((i : ℕ) (flow : Flow) → slice_get flows i ≡ Some flow → IsInSlot slots i flow) → standing_flows slots ≡ flows
all_back [] [] many each = refl
all_back [] (o ∷ slots) many each = absurd (omega arith)
all_back (f ∷ flows) [] many each = absurd (omega arith)
all_back (f ∷ flows) (o ∷ slots) many each =
    let same : o ≡ Some f = same_Some o (Some f) (each zero f refl) in
    ap (λ (x : Option Flow). standing_flows (x ∷ slots)) same
    ∙ ap (λ (l : List Flow). f ∷ l) (all_back flows slots (omega (arith, many)) (λ i g h. each (suc i) g h))

pub unused_zero : (flows : List Flow) (now : ℕ) → NoneUsedAfter (standing_flows (map as_unused flows)) now
unused_zero [] now = All-nil (λ (x : Flow). x.last ≤ now)
unused_zero (f ∷ flows) now = All-cons (λ (x : Flow). x.last ≤ now) (unused f) (standing_flows (map as_unused flows))
    (omega arith) (unused_zero flows now)

pub back_start : (flows : List Flow) (entries : List (ℕ × Flow)) → AreBack flows entries 0 (map as_unused flows)
back_start flows entries = record {
  alike = alike_put flows (map as_unused flows) refl;
  back = λ j lt. absurd (omega arith);
  rising = λ j le lt. unused_zero flows (get_or entries j no_entry).1.last;
}

module _ (flows : List Flow) (entries : List (ℕ × Flow)) (by : AreByLastUse flows entries) (n : ℕ)
    (slots : List (Option Flow)) (are : AreBack flows entries n slots) where
  pub back_more : n < length entries → AreBack flows entries (n + 1)
      (set slots (get_or entries n no_entry).0 (Some (get_or entries n no_entry).1))
  back_more within =
      let e : ℕ × Flow = get_or entries n no_entry in
      let at : slice_get flows e.0 ≡ Some e.1 = by.known n no_entry within in record {
        alike = alike_set flows slots e.0 e.1 at are.alike;
        back = λ j lt.
            let g : ℕ × Flow = get_or entries j no_entry in
            elim (cases_eq g.0 e.0) [
              | inl same ↦ (here flows slots e.0 e.1 at are.alike g.0 g.1 same (by.known j no_entry (omega arith))).1
              | inr other ↦
                  let apart : j ≢ n = λ q. other (ap (λ (k : ℕ). (get_or entries k no_entry).0) q) in
                  stands_elsewhere slots e.0 (Some e.1) g.0 g.1 other (are.back j (omega (arith, lt, apart)))
            ];
        rising = λ j le lt.
            let t : ℕ = (get_or entries j no_entry).1.last in
            used_set (λ (x : Flow). x.last ≤ t) slots e.0 e.1 (are.rising j (omega arith) lt)
            (by.rising n j no_entry (omega arith) lt);
      }

  pub restored : length entries ≤ n → standing_flows slots ≡ flows
  restored all = all_back flows slots are.alike.as_many (λ i flow h.
      let found = by.each i flow h in
      let is : get_or entries found.0 no_entry ≡ (i, flow) =
      get_or_default entries found.0 no_entry (i, flow) found.1 ∙ found.2 in
      subst (λ (x : ℕ × Flow). IsInSlot slots x.0 x.1) is (are.back found.0 (omega (arith, found.1, all))))

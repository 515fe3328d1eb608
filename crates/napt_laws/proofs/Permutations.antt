-- Lists with the same elements in another order, by exchanges of neighbours.
use Rattle.std.proofs.Common.{◌≡◌, ℕ, zero, suc, ◌<◌, Bool, true, false, cond, ◌||◌, List, [], ◌∷◌, Option, Some, None, length, get_or, set, filter, find, refl, sym, ◌∙◌, ap, arith}
use Rattle.std.specs.{List.list_any, List.Sorted.IsPermutation}
use Rattle.std.proofs.lemmas.List.Sorted.{IsPermutation-keeps, IsPermutation-refl, IsPermutation-cons, IsPermutation-trans, IsPermutation-append_comm, IsPermutation-append_left, list_any-IsPermutation}
use Rattle.std.proofs.lemmas.Bool.{true≢false, or_parts}
use Rattle.std.specs.List.{swap}
use Rattle.napt_rules.specs.Prelude.{Each, AreBindingsApart, AreRowsApart}
use Rattle.napt_rules.specs.declared.Row.{Row}
use Rattle.napt_laws.proofs.{UniqueSearches.Once, TakenStates.turned}

module _ {X : Type 0} where
  pub data Shuffled : List X → List X → Type 0 where
    none : Shuffled [] []
    under : {x : X} {xs ys : List X} → Shuffled xs ys → Shuffled (x ∷ xs) (x ∷ ys)
    turn : {x y : X} {xs : List X} → Shuffled (x ∷ y ∷ xs) (y ∷ x ∷ xs)
    then : {xs ys zs : List X} → Shuffled xs ys → Shuffled ys zs → Shuffled xs zs

  same : (xs : List X) → Shuffled xs xs
  same [] = none
  same (x ∷ xs) = under (same xs)

  brought : (xs : List X) (j : ℕ) (x d : X) → j < length xs → Shuffled (x ∷ xs) (get_or xs j d ∷ set xs j x)
  brought [] j x d lt = absurd (omega arith)
  brought (y ∷ xs) zero x d lt = turn
  brought (y ∷ xs) (suc j) x d lt = then turn (then (under (brought xs j x d (omega arith))) turn)

  exchanged : (xs : List X) (i j : ℕ) (d : X) → i < length xs → j < length xs →
      Shuffled xs (set (set xs i (get_or xs j d)) j (get_or xs i d))
  exchanged [] i j d p q = absurd (omega arith)
  exchanged (x ∷ xs) zero zero d p q = same (x ∷ xs)
  exchanged (x ∷ xs) zero (suc j) d p q = brought xs j x d (omega arith)
  exchanged (x ∷ xs) (suc i) zero d p q = brought xs i x d (omega arith)
  exchanged (x ∷ xs) (suc i) (suc j) d p q = under (exchanged xs i j d (omega arith) (omega arith))

  swapped : (xs : List X) (i j : ℕ) → i < length xs → j < length xs → Shuffled xs (swap xs i j)
  swapped [] i j p q = absurd (omega arith)
  swapped (x ∷ xs) i j p q = exchanged (x ∷ xs) i j x p q

  shuffled : (xs ys : List X) → IsPermutation xs ys → Shuffled xs ys
  shuffled xs ys = IsPermutation-keeps xs (Shuffled xs) (same xs) (λ l i j p q h. then h (swapped l i j p q)) ys

  moved : {xs ys : List X} → Shuffled xs ys → IsPermutation xs ys
  moved none = IsPermutation-refl []
  moved (under {x} {xs} {ys} s) = IsPermutation-cons x xs ys (moved s)
  moved (turn {x} {y} {xs}) = IsPermutation-append_left xs (x ∷ y ∷ []) (y ∷ x ∷ []) (IsPermutation-append_comm
      (x ∷ []) (y ∷ []))
  moved (then {xs} {ys} {zs} s t) = IsPermutation-trans xs ys zs (moved s) (moved t)

  module _ (p : X → Bool) where
    filtered : {xs ys : List X} → Shuffled xs ys → Shuffled (filter p xs) (filter p ys)
    filtered none = none
    filtered (under {x} {xs} {ys} s) = elim (p x) as (λ v. Shuffled (cond v (x ∷ filter p xs) (filter p xs))
        (cond v (x ∷ filter p ys) (filter p ys))) [ true ↦ under (filtered s) | false ↦ filtered s ]
    filtered (turn {x} {y} {xs}) = elim (p x) as (λ v. Shuffled
        (cond v (x ∷ filter p (y ∷ xs)) (filter p (y ∷ xs))) (cond (p y) (y ∷ cond v (x ∷ filter p xs) (filter p xs))
        (cond v (x ∷ filter p xs) (filter p xs)))) [
          | true ↦ elim (p y) as (λ w. Shuffled (x ∷ cond w (y ∷ filter p xs) (filter p xs))
              (cond w (y ∷ x ∷ filter p xs) (x ∷ filter p xs))) [ true ↦ turn | false ↦ same (x ∷ filter p xs) ]
          | false ↦ same (filter p (y ∷ xs))
        ]
    filtered (then s t) = then (filtered s) (filtered t)

    pub filter_moved : (xs ys : List X) → IsPermutation xs ys → IsPermutation (filter p xs) (filter p ys)
    filter_moved xs ys s = moved (filtered (shuffled xs ys s))

    any_same : (xs ys : List X) → Shuffled xs ys → list_any p xs ≡ list_any p ys
    any_same xs ys s = list_any-IsPermutation p xs ys (moved s)

    -- If at most one element passes a test, each order of the list has the same one.
    once_same : (xs ys : List X) → Shuffled xs ys → Once p xs → (filter p xs ≡ filter p ys) × Once p ys
    once_same xs ys none o = (refl, o)
    once_same xs ys (under {x} {xs = us} {ys = vs} s) o =
        let rest = once_same us vs s o.1 in (
          ap (λ (l : List X). cond (p x) (x ∷ l) l) rest.0,
          (λ h. sym (any_same us vs s) ∙ o.0 h, rest.1),
        )
    once_same xs ys (turn {x} {y} {xs = us}) o = elim (p x) as (λ v. p x ≡ v →
        (cond v (x ∷ filter p (y ∷ us)) (filter p (y ∷ us)) ≡ cond (p y) (y ∷ cond v (x ∷ filter p us) (filter p us))
        (cond v (x ∷ filter p us) (filter p us))) × Once p (y ∷ x ∷ us)) [
          | true ↦ λ h.
              let others : (p y ≡ false) × (list_any p us ≡ false) = or_parts _ _ (o.0 h) in (
                ap (λ w. x ∷ cond w (y ∷ filter p us) (filter p us)) others.0
                    ∙ sym (ap (λ w. cond w (y ∷ x ∷ filter p us) (x ∷ filter p us)) others.0),
                (λ k. absurd (true≢false (sym k ∙ others.0)), (λ k. others.1, o.1.1)),
              )
          | false ↦ λ h. (
            refl,
            (
              λ k. ap (λ w. w || list_any p us) h ∙ o.1.0 k,
              (
                λ k. absurd (true≢false (sym k ∙ h)),
                o.1.1,
              ),
            ),
          )
        ] refl
    once_same xs ys (then {xs = us} {ys = vs} {zs = ws} s t) o =
        let first = once_same us vs s o in
        let rest = once_same vs ws t first.1 in
        (first.0 ∙ rest.0, rest.1)

    pub filter_once : (xs ys : List X) → IsPermutation xs ys → Once p xs → filter p xs ≡ filter p ys
    filter_once xs ys s o = (once_same xs ys (shuffled xs ys s) o).0

    abbrev head_of : List X → Option X
    head_of [] = None
    head_of (x ∷ xs) = Some x

    found_first : (xs : List X) → find p xs ≡ head_of (filter p xs)
    found_first [] = refl
    found_first (x ∷ xs) = elim (p x) as (λ v. cond v (Some x) (find p xs)
        ≡ head_of (cond v (x ∷ filter p xs) (filter p xs))) [ true ↦ refl | false ↦ found_first xs ]

    pub find_once : (xs ys : List X) → IsPermutation xs ys → Once p xs → find p xs ≡ find p ys
    find_once xs ys s o = found_first xs ∙ (ap head_of (filter_once xs ys s o) ∙ sym (found_first ys))

  each_shuffled : (P : X → Type 0) {xs ys : List X} → Shuffled xs ys → Each P xs → Each P ys
  each_shuffled P none h = h
  each_shuffled P (under s) h = (h.0, each_shuffled P s h.1)
  each_shuffled P turn h = (h.1.0, (h.0, h.1.1))
  each_shuffled P (then s t) h = each_shuffled P t (each_shuffled P s h)

  pub each_moved : (P : X → Type 0) (xs ys : List X) → IsPermutation xs ys → Each P xs → Each P ys
  each_moved P xs ys s = each_shuffled P (shuffled xs ys s)

apart_shuffled : {xs ys : List Row} → Shuffled xs ys → AreBindingsApart xs → AreBindingsApart ys
apart_shuffled none h = h
apart_shuffled (under {x} s) h = (each_shuffled (AreRowsApart x) s h.0, apart_shuffled s h.1)
apart_shuffled (turn {x} {y}) h = ((turned y x h.0.0, h.1.0), (h.0.1, h.1.1))
apart_shuffled (then s t) h = apart_shuffled t (apart_shuffled s h)

pub apart_moved : (xs ys : List Row) → IsPermutation xs ys → AreBindingsApart xs → AreBindingsApart ys
apart_moved xs ys s = apart_shuffled (shuffled xs ys s)

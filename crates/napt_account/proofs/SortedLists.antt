-- Permutations and sorted lists.
use Rattle.std.proofs.Common.{◌≡◌, ℕ, zero, suc, ◌+◌, ◌<◌, inl, inr, Bool, true, false, List, [], ◌∷◌, length, subst, arith}
use Rattle.std.specs.{declared.cmp.Ordering.Ordering, Ordering.is_lt}
use Rattle.std.specs.List.{Contains, slice_index_or, Sorted.{IsPermutation, IsSortedByKey}}
use Rattle.std.proofs.lemmas.List.Sorted.{Contains-permutation, IsPermutation-sym}
use Rattle.napt_account.{specs.OpenEntries.Has, proofs.EndOrderings.{Along, InTurn, each_has, has_each}}

-- A PERMUTATION HAS THE SAME ELEMENTS

module _ {X : Type 0} where
  has_contains : (xs : List X) (x : X) → Has xs x → Contains xs x
  has_contains [] x h = absurd h
  has_contains (y ∷ xs) x (inl is) = (0, omega arith, is)
  has_contains (y ∷ xs) x (inr h) =
      let c = has_contains xs x h in (suc c.0, (let lt = c.1 in omega (arith, lt)), c.2)

  contains_has : (xs : List X) (x : X) (k : ℕ) → k < length xs → slice_index_or xs k x ≡ x → Has xs x
  contains_has [] x k lt is = absurd (omega (arith, lt))
  contains_has (y ∷ xs) x zero lt is = inl is
  contains_has (y ∷ xs) x (suc k) lt is = inr (contains_has xs x k (omega (arith, lt)) is)

  pub has_moved : (xs ys : List X) → IsPermutation xs ys → (x : X) → Has xs x → Has ys x
  has_moved xs ys moves x h =
      let c = Contains-permutation xs ys x moves (has_contains xs x h) in contains_has ys x c.0 c.1 c.2

  pub has_back : (xs ys : List X) → IsPermutation xs ys → (x : X) → Has ys x → Has xs x
  has_back xs ys moves = has_moved ys xs (IsPermutation-sym xs ys moves)

-- SORTED BY A KEY

module _ {X K : Type 0} (key : X → K) (cmp : K → K → Ordering) (before : X → X → Bool) (Apart : X → X → Type 0)
    (first : (x y : X) → Apart x y → is_lt (cmp (key y) (key x)) ≡ false → before x y ≡ true)
    (further : (x y z : X) → before x y ≡ true → before y z ≡ true → before x z ≡ true) where
  pub sorted_turn : (xs : List X) → IsSortedByKey key cmp xs → Along Apart xs → InTurn before xs
  sorted_turn [] sorted apart = tt
  sorted_turn (x ∷ []) sorted apart = (tt, tt)
  sorted_turn (x ∷ y ∷ xs) sorted apart =
      let one : before x y ≡ true = first x y apart.0.0 (sorted 0 x (omega arith) (omega arith)) in
      let rest = sorted_turn (y ∷ xs) (λ k d low lt.
      let next : suc k + 1 ≡ suc (k + 1) = omega arith in
      subst (λ (j : ℕ). is_lt (cmp (key (slice_index_or (x ∷ y ∷ xs) j d)) (key (slice_index_or (y ∷ xs) k d))) ≡ false)
      next (sorted (suc k) d (omega arith) (omega (arith, lt)))) apart.1 in (
        (
          one,
          has_each (λ z. before x z ≡ true) xs (λ z h.
              further x y z one (each_has (λ w. before y w ≡ true) xs z rest.0 h)),
        ),
        rest,
      )

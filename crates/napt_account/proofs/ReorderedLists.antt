-- A list in the order of its images in another list.
use Rattle.std.proofs.Common.{◌≡◌, ℕ, ◌<◌, Bool, true, not, List, [], ◌∷◌, ◌++◌, map, length, get_or, set, filter, refl, sym, ◌∙◌, ap, arith, append-nil}
use Rattle.std.specs.List.{swap, Sorted.IsPermutation}
use Rattle.std.proofs.lemmas.List.{length-map, map-set, get_or-map, Elements.filter-append}
use Rattle.std.proofs.lemmas.List.Sorted.{IsPermutation-keeps, IsPermutation-refl, IsPermutation-trans, IsPermutation-swap, IsPermutation-append_left, IsPermutation-filter_both}
use Rattle.napt_rules.proofs.Lists.{each_filter, filter_all}
use Rattle.napt_laws.proofs.Permutations.{each_moved}

module _ {X Y : Type 0} (f : X → Y) where
  map_swapped : (xs : List X) (i j : ℕ) → i < length xs → j < length xs → map f (swap xs i j) ≡ swap (map f xs) i j
  map_swapped [] i j p q = absurd (omega arith)
  map_swapped (x ∷ xs) i j p q = rw (
    map-set f (set (x ∷ xs) i (get_or (x ∷ xs) j x)) j (get_or (x ∷ xs) i x),
    map-set f (x ∷ xs) i (get_or (x ∷ xs) j x),
    get_or-map f (x ∷ xs) i x (f x) p,
    get_or-map f (x ∷ xs) j x (f x) q,
  ) refl

  -- If the images of a list are reordered, they are the images of the reordered list.
  seen_moved : (xs : List X) (ys : List Y) → IsPermutation (map f xs) ys →
      (zs : List X) × IsPermutation xs zs × (map f zs ≡ ys)
  seen_moved xs = IsPermutation-keeps (map f xs) (λ ys. (zs : List X) × IsPermutation xs zs × (map f zs ≡ ys))
      (xs, IsPermutation-refl xs, refl) (λ ys i j p q h.
      let zs : List X = h.0 in
      let long : length zs ≡ length ys = sym (length-map zs f) ∙ ap length h.2 in
      let at : i < length zs = omega (arith, p, long) in
      let other : j < length zs = omega (arith, q, long) in (
        swap zs i j,
        IsPermutation-trans xs zs _ h.1 (IsPermutation-swap zs _ i j at other refl),
        map_swapped zs i j at other ∙ ap (λ (l : List Y). swap l i j) h.2,
      ))

  module _ (p : X → Bool) where
    none_pass : (xs : List X) → filter p (filter (λ x. not (p x)) xs) ≡ []
    none_pass [] = refl
    none_pass (x ∷ xs) = grind (arith, none_pass xs)

    -- The same for the elements that pass a test.
    pub reordered : (xs : List X) (ys : List Y) → IsPermutation (map f (filter p xs)) ys →
        (zs : List X) × IsPermutation xs zs × (map f (filter p zs) ≡ ys)
    reordered xs ys s =
        let seen = seen_moved (filter p xs) ys s in
        let front : List X = seen.0 in
        let rest : List X = filter (λ x. not (p x)) xs in (
          front ++ rest,
          IsPermutation-trans xs _ _ (IsPermutation-filter_both p (λ x. not (p x)) (λ x. refl) xs)
              (IsPermutation-append_left rest (filter p xs) front seen.1),
          ap (map f) (filter-append p front rest
              ∙ (ap (λ (l : List X). l ++ filter p rest)
              (filter_all p front (each_moved (λ x. p x ≡ true) _ _ seen.1 (each_filter p xs)))
              ∙ (ap (λ (l : List X). front ++ l) (none_pass xs) ∙ append-nil front))) ∙ seen.2,
        )

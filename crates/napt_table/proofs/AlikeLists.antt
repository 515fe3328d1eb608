-- Two lists in which the same element is found at each number are permutations of one another.
use Rattle.std.proofs.Common.{◌≡◌, ℕ, Bool, true, false, not, ◌&&◌, ◌||◌, cond, List, [], ◌∷◌, map, filter, find, Some, None, refl, sym, ◌∙◌, ap, subst, eqb}
use Rattle.std.{specs.{List.list_any, List.Sorted.IsPermutation, Option.option_map}, proofs.lemmas.{Bool.or_parts, Option.same_Some}}
use Rattle.std.proofs.lemmas.List.Sorted.{IsPermutation-refl, IsPermutation-sym, IsPermutation-cons, IsPermutation-trans, IsPermutation-append_left, IsPermutation-append_comm}
use Rattle.napt_wire.specs.declared.Protocol.{Protocol}
use Rattle.napt_rules.specs.{declared.Row.Row, Prelude.{Each, same_protocol, has_number}}
use Rattle.napt_table.proofs.HeldThroughTime.{find_without}
use Rattle.napt_laws.proofs.{UniqueSearches.{Once}, Lists.{each_less, each_weaker, find_nowhere}, Endpoints.{has_it, has_protocol, number_of_it}}

any_less : {X : Type 0} (t p : X → Bool) (xs : List X) → list_any t xs ≡ false → list_any t (filter p xs) ≡ false
any_less t p [] h = refl
any_less t p (x ∷ xs) h =
    let parts : (t x ≡ false) × (list_any t xs ≡ false) = or_parts _ _ h in
    elim (p x) as (λ v. list_any t (cond v (x ∷ filter p xs) (filter p xs)) ≡ false) [
      | true ↦ ap (λ v. v || list_any t (filter p xs)) parts.0 ∙ any_less t p xs parts.1
      | false ↦ any_less t p xs parts.1
    ]

pub once_less : {X : Type 0} (t p : X → Bool) (xs : List X) → Once t xs → Once t (filter p xs)
once_less t p [] h = tt
once_less t p (x ∷ xs) h = elim (p x) as (λ v. Once t (cond v (x ∷ filter p xs) (filter p xs))) [
  | true ↦ (λ its. any_less t p xs (h.0 its), once_less t p xs h.1)
  | false ↦ once_less t p xs h.1
]

module _ {X Y : Type 0} (t : Y → Bool) (f : X → Y) where
  any_mapped : (xs : List X) → list_any t (map f xs) ≡ list_any (λ x. t (f x)) xs
  any_mapped [] = refl
  any_mapped (x ∷ xs) = ap (λ v. t (f x) || v) (any_mapped xs)

  pub once_mapped : (xs : List X) → Once (λ x. t (f x)) xs → Once t (map f xs)
  once_mapped [] h = tt
  once_mapped (x ∷ xs) h = (λ its. any_mapped xs ∙ h.0 its, once_mapped xs h.1)

  pub find_mapped : (xs : List X) → find t (map f xs) ≡ option_map f (find (λ x. t (f x)) xs)
  find_mapped [] = refl
  find_mapped (x ∷ xs) = elim (t (f x)) as (λ v. cond v (Some (f x)) (find t (map f xs))
      ≡ option_map f (cond v (Some x) (find (λ x. t (f x)) xs))) [ true ↦ refl | false ↦ find_mapped xs ]

module _ {X : Type 0} (t : X → Bool) where
  find_gone : (xs : List X) → find t (filter (λ x. not (t x)) xs) ≡ None
  find_gone [] = refl
  find_gone (x ∷ xs) = elim (t x) as (λ v. t x ≡ v →
      find t (cond (not v) (x ∷ filter (λ x. not (t x)) xs) (filter (λ x. not (t x)) xs)) ≡ None) [
        | true ↦ λ e. find_gone xs
        | false ↦ λ e. ap (λ v. cond v (Some x) (find t (filter (λ x. not (t x)) xs))) e ∙ find_gone xs
      ] refl

  none_gone : (xs : List X) → list_any t xs ≡ false → filter (λ x. not (t x)) xs ≡ xs
  none_gone [] h = refl
  none_gone (x ∷ xs) h =
      let parts : (t x ≡ false) × (list_any t xs ≡ false) = or_parts _ _ h in
      ap (λ v. cond (not v) (x ∷ filter (λ x. not (t x)) xs) (filter (λ x. not (t x)) xs)) parts.0
      ∙ ap (λ (l : List X). x ∷ l) (none_gone xs parts.1)

  -- The element that is found is moved to the front.
  taken_out : (xs : List X) (b : X) → Once t xs → find t xs ≡ Some b →
      IsPermutation xs (b ∷ filter (λ x. not (t x)) xs)
  taken_out [] b once e = cc
  taken_out (x ∷ xs) b once e = elim (t x) as (λ v. t x ≡ v → cond v (Some x) (find t xs) ≡ Some b →
      IsPermutation (x ∷ xs) (b ∷ cond (not v) (x ∷ filter (λ x. not (t x)) xs) (filter (λ x. not (t x)) xs))) [
        | true ↦ λ its g. subst (λ (l : List X). IsPermutation (x ∷ xs) (b ∷ l)) (sym (none_gone xs (once.0 its)))
            (subst (λ (y : X). IsPermutation (x ∷ xs) (y ∷ xs)) (same_Some x b g) (IsPermutation-refl (x ∷ xs)))
        | false ↦ λ other g.
            let rest : List X = filter (λ x. not (t x)) xs in
            IsPermutation-trans (x ∷ xs) (x ∷ b ∷ rest) (b ∷ x ∷ rest)
            (IsPermutation-cons x xs (b ∷ rest) (taken_out xs b once.1 g))
            (IsPermutation-append_left rest (x ∷ b ∷ []) (b ∷ x ∷ [])
            (IsPermutation-append_comm (x ∷ []) (b ∷ [])))
      ] refl e

-- LISTS OF ELEMENTS WITH A ROW, all at one address

module _ {X : Type 0} (address : ℕ) (row_of : X → Row) where
  abbrev test : Protocol → ℕ → X → Bool
  test q n x = has_number address q n (row_of x)

  abbrev pub At : X → Type 0
  At x = (row_of x).external.address ≡ address

  -- At most one element has a number of a protocol.
  abbrev pub AllOnce : List X → Type 0
  AllOnce xs = (q : Protocol) (n : ℕ) → Once (test q n) xs

  abbrev its : X → X → Bool
  its x = test (row_of x).protocol (row_of x).external.number

  its_own : (x : X) → At x → its x x ≡ true
  its_own x at = has_it address (row_of x).protocol (row_of x).external.number (row_of x) refl at refl

  -- Two elements with one number pass the same tests.
  same_tests : (x y : X) → At x → At y → its x y ≡ true → (q : Protocol) (n : ℕ) → test q n y ≡ test q n x
  same_tests x y at_x at_y h q n =
      let p = has_protocol address (row_of x).protocol (row_of x).external.number (row_of y) h in
      let m = number_of_it address (row_of x).protocol (row_of x).external.number (row_of y) h in
      λ i. eqb ((at_y ∙ sym at_x) i) address && (same_protocol q (sym p i) && eqb (m i) n)

  pub same_found : (xs ys : List X) → AllOnce xs → AllOnce ys → Each At xs → Each At ys →
      ((q : Protocol) (n : ℕ) → find (test q n) xs ≡ find (test q n) ys) → IsPermutation xs ys
  same_found [] [] once_x once_y at_x at_y same = IsPermutation-refl []
  same_found [] (y ∷ ys) once_x once_y at_x at_y same =
      let found : find (its y) (y ∷ ys) ≡ Some y =
      ap (λ v. cond v (Some y) (find (its y) ys)) (its_own y at_y.0) in
      let clash : None ≡ Some y = same (row_of y).protocol (row_of y).external.number ∙ found in cc
  same_found (x ∷ xs) ys once_x once_y at_x at_y same =
      let q : Protocol = (row_of x).protocol in
      let n : ℕ = (row_of x).external.number in
      let own : its x x ≡ true = its_own x at_x.0 in
      let there : find (its x) ys ≡ Some x =
      sym (same q n) ∙ ap (λ v. cond v (Some x) (find (its x) xs)) own in
      let rest : List X = filter (λ y. not (its x y)) ys in
      let left : (p : Protocol) (m : ℕ) → find (test p m) xs ≡ find (test p m) rest =
      λ p m. elim (test p m x) as (λ v. test p m x ≡ v → find (test p m) xs ≡ find (test p m) rest) [
        | true ↦ λ h.
            let r : p ≡ q = has_protocol address p m (row_of x) h in
            let k : n ≡ m = number_of_it address p m (row_of x) h in
            find_nowhere (test p m) xs ((once_x p m).0 h)
            ∙ sym ((λ i. find (test (r i) (sym k i)) rest) ∙ find_gone (its x) ys)
        | false ↦ λ h.
            ap (λ v. cond v (Some x) (find (test p m) xs)) (sym h) ∙ (same p m
            ∙ sym (find_without (test p m) (its x) ys
            (each_weaker At (λ y. its x y ≡ true → test p m y ≡ false)
            (λ y at hit. same_tests x y at_x.0 at hit p m ∙ h) ys at_y)))
      ] refl in
      IsPermutation-trans (x ∷ xs) (x ∷ rest) ys
      (IsPermutation-cons x xs rest (same_found xs rest (λ p m. (once_x p m).1)
      (λ p m. once_less (test p m) (λ y. not (its x y)) ys (once_y p m)) at_x.1
      (each_less At (λ y. not (its x y)) ys at_y) left))
      (IsPermutation-sym ys (x ∷ rest) (taken_out (its x) ys x (once_y q n) there))

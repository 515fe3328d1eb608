-- The number of a held binding, which its own source gets again.
use Rattle.std.proofs.Common.{◌≡◌, ◌≢◌, ℕ, ◌<◌, ◌≤◌, Bool, true, false, not, cond, List, [], ◌∷◌, length, map, Some, refl, sym, ◌∙◌, ap, subst, arith, filter, find}
use Rattle.std.proofs.lemmas.Bool.{true≢false}
use Rattle.napt_rules.specs.Prelude.{Binding, Each, is_of_inside, has_number, row, AreRowsApart, AreBindingsApart, Protocol, Endpoint}
use Rattle.napt_rules.specs.declared.Row.{Row}
use Rattle.napt_laws.proofs.{Lists.{find_passes, each_weaker}, Endpoints.{inside_parts, has_parts}}

pub each_rows : (P : Row → Type 0) (list : List Binding) → Each P (map row list) → Each (λ b. P (row b)) list
each_rows P [] h = tt
each_rows P (b ∷ list) h = (h.0, each_rows P list h.1)

-- A property of each element that passes the test holds of the filtered list.
pub each_of : {X : Type 0} (P : X → Type 0) (p : X → Bool) (xs : List X) → Each (λ x. p x ≡ true → P x) xs →
    Each P (filter p xs)
each_of P p [] h = tt
each_of P p (x ∷ xs) h = elim (p x) as (λ v. p x ≡ v → Each P (cond v (x ∷ filter p xs) (filter p xs))) [
  | true ↦ λ e. (h.0 e, each_of P p xs h.1)
  | false ↦ λ e. each_of P p xs h.1
] refl

-- NO OTHER BINDING HAS THE NUMBER

module _ (address : ℕ) (protocol : Protocol) (inside : Endpoint) where
  -- A row that is apart from the inside endpoint's does not have its number.
  apart_number : (x b : Row) → (x.protocol ≡ b.protocol → x.external ≢ b.external) →
      is_of_inside address protocol inside b ≡ true → has_number address protocol b.external.number x ≡ false
  apart_number x b apart of = elim (has_number address protocol b.external.number x) as (λ v.
      has_number address protocol b.external.number x ≡ v → v ≡ false) [
        | true ↦ λ e.
            let p = has_parts address protocol b.external.number x e in
            let q = inside_parts address protocol inside b of in
            let a : x.external.address ≡ b.external.address = p.address_is ∙ sym q.address_is in
            absurd (apart (sym p.protocol_is ∙ q.protocol_is) (λ k. record { address = a k; number = p.number_is k }))
        | false ↦ λ e. refl
      ] refl

  abbrev pub IsOther : ℕ → Binding → Type 0
  IsOther number x = is_of_inside address protocol inside x.row ≡ false →
      has_number address protocol number x.row ≡ false

  pub others_free : (list : List Binding) (b : Binding) → AreBindingsApart (map row list) →
      find (λ b. is_of_inside address protocol inside b.row) list ≡ Some b →
      Each (IsOther b.row.external.number) list
  others_free [] b apart e = tt
  others_free (x ∷ xs) b apart e = elim (is_of_inside address protocol inside x.row) as (λ v.
      is_of_inside address protocol inside x.row ≡ v →
      cond v (Some x) (find (λ b. is_of_inside address protocol inside b.row) xs) ≡ Some b →
      Each (IsOther b.row.external.number) (x ∷ xs)) [
        | true ↦ λ is e.
            let same : x ≡ b = cc in
            subst (λ (b : Binding). Each (IsOther b.row.external.number) (x ∷ xs)) same (
              λ isnt. absurd (true≢false (sym is ∙ isnt)),
              each_weaker (λ y. AreRowsApart (row x) (row y)) (IsOther x.row.external.number)
                  (λ y far isnt. apart_number (row y) (row x) (λ p same. (far (sym p)).0 (sym same)) is) xs
                  (each_rows (AreRowsApart (row x)) xs apart.0),
            )
        | false ↦ λ is e.
            let found = find_passes (λ b. is_of_inside address protocol inside b.row)
            (λ y. AreRowsApart (row x) (row y)) xs b (each_rows (AreRowsApart (row x)) xs apart.0) e in (
              λ isnt. apart_number (row x) (row b) (λ p. (found.1 p).0) found.0,
              others_free xs b apart.1 e,
            )
      ] refl e

-- THE LIST WITHOUT THE BINDING

module _ {X : Type 0} (t q : X → Bool) where
  pub no_more : (xs : List X) → length (filter q (filter (λ x. not (t x)) xs)) ≤ length (filter q xs)
  no_more [] = omega arith
  no_more (x ∷ xs) = grind (arith, no_more xs)

  -- Without the found element, which counts, fewer elements count.
  pub one_less : (xs : List X) (b : X) → find t xs ≡ Some b → q b ≡ true →
      length (filter q (filter (λ x. not (t x)) xs)) < length (filter q xs)
  one_less [] b e counts = cc
  one_less (x ∷ xs) b e counts = elim (t x) as (λ v. t x ≡ v → cond v (Some x) (find t xs) ≡ Some b →
      length (filter q (cond (not v) (x ∷ filter (λ x. not (t x)) xs) (filter (λ x. not (t x)) xs)))
      < length (filter q (x ∷ xs))) [
        | true ↦ λ is e.
            let same : x ≡ b = cc in
            let yes : q x ≡ true = ap q same ∙ counts in
            let few = no_more xs in
            subst (λ v. length (filter q (filter (λ x. not (t x)) xs))
            < length (cond v (x ∷ filter q xs) (filter q xs))) (sym yes) (omega (arith, few))
        | false ↦ λ is e.
            let few = one_less xs b e counts in
            elim (q x) as (λ v. length (cond v (x ∷ filter q (filter (λ x. not (t x)) xs))
            (filter q (filter (λ x. not (t x)) xs))) < length (cond v (x ∷ filter q xs) (filter q xs)))
            [ true ↦ omega (arith, few) | false ↦ few ]
      ] refl e

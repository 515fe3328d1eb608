-- Searches by a test that at most one element passes.
use Rattle.std.proofs.Common.{◌≡◌, Bool, true, false, ◌||◌, cond, List, [], ◌∷◌, ◌++◌, map, Option, Some, None, refl, sym, ◌∙◌, ap, arith, filter, find, true≢false}
use Rattle.std.{specs.{Option.option_map, List.list_any}, proofs.lemmas.Option.same_Some}
use Rattle.napt_rules.specs.Prelude.{change_first}
use Rattle.napt_laws.proofs.Lists.{find_nowhere}

-- At most one element of the list passes the test.
abbrev pub Once : {X : Type 0} → (X → Bool) → List X → Type 0
Once t [] = Unit {0}
Once t (x ∷ xs) = (t x ≡ true → list_any t xs ≡ false) × Once t xs

-- An optional element after a filter and a map.
abbrev pub kept : {X : Type 0} → (X → Bool) → (X → X) → Option X → Option X
kept q f None = None
kept q f (Some x) = cond (q x) (Some (f x)) None

module _ {X : Type 0} (q t : X → Bool) (f : X → X) (same : (x : X) → t (f x) ≡ t x) where
  any_kept : (xs : List X) → list_any t xs ≡ false → list_any t (map f (filter q xs)) ≡ false
  any_kept [] h = refl
  any_kept (x ∷ xs) h = grind (arith, same x, any_kept xs)

  -- The element that is found in a list that was filtered and mapped, if at most one element passes the test.
  pub find_kept : (xs : List X) → Once t xs → find t (map f (filter q xs)) ≡ kept q f (find t xs)
  find_kept [] o = refl
  find_kept (x ∷ xs) o = elim (t x) as (λ v. t x ≡ v → find t (map f (cond (q x) (x ∷ filter q xs) (filter q xs)))
      ≡ kept q f (cond v (Some x) (find t xs))) [
        | true ↦ λ e. elim (q x) as (λ w. find t (map f (cond w (x ∷ filter q xs) (filter q xs)))
            ≡ cond w (Some (f x)) None) [
              | true ↦ ap (λ v. cond v (Some (f x)) (find t (map f (filter q xs)))) (same x ∙ e)
              | false ↦ find_nowhere t (map f (filter q xs)) (any_kept xs (o.0 e))
            ]
        | false ↦ λ e. elim (q x) as (λ w. find t (map f (cond w (x ∷ filter q xs) (filter q xs)))
            ≡ kept q f (find t xs)) [
              | true ↦ ap (λ v. cond v (Some (f x)) (find t (map f (filter q xs)))) (same x ∙ e) ∙ find_kept xs o.1
              | false ↦ find_kept xs o.1
            ]
      ] refl

module _ {X : Type 0} (t : X → Bool) (f : X → X) where
  -- The changed element is found.
  pub find_changed : ((x : X) → t (f x) ≡ t x) → (xs : List X) → find t (change_first t f xs) ≡ option_map f (find t xs)
  find_changed same [] = refl
  find_changed same (x ∷ xs) = elim (t x) as (λ v. t x ≡ v → find t (cond v (f x ∷ xs) (x ∷ change_first t f xs))
      ≡ option_map f (cond v (Some x) (find t xs))) [
        | true ↦ λ e. ap (λ v. cond v (Some (f x)) (find t xs)) (same x ∙ e)
        | false ↦ λ e. ap (λ v. cond v (Some x) (find t (change_first t f xs))) e ∙ find_changed same xs
      ] refl

  -- The element that is found by another test is unchanged.
  pub find_other : (s : X → Bool) → ((x : X) → s (f x) ≡ s x) → ((x : X) → t x ≡ true → s x ≡ false) → (xs : List X) →
      find s (change_first t f xs) ≡ find s xs
  find_other s same apart [] = refl
  find_other s same apart (x ∷ xs) = elim (t x) as (λ v. t x ≡ v → find s (cond v (f x ∷ xs) (x ∷ change_first t f xs))
      ≡ cond (s x) (Some x) (find s xs)) [
        | true ↦ λ e. ap (λ v. cond v (Some (f x)) (find s xs)) (same x ∙ apart x e)
            ∙ sym (ap (λ v. cond v (Some x) (find s xs)) (apart x e))
        | false ↦ λ e. ap (λ (o : Option X). cond (s x) (Some x) o) (find_other s same apart xs)
      ] refl

module _ {X : Type 0} (t : X → Bool) where
  pub find_pushed : (xs : List X) (y : X) → find t xs ≡ None → find t (xs ++ y ∷ []) ≡ cond (t y) (Some y) None
  find_pushed [] y e = refl
  find_pushed (x ∷ xs) y e = elim (t x) as (λ v. cond v (Some x) (find t xs) ≡ None →
      cond v (Some x) (find t (xs ++ y ∷ [])) ≡ cond (t y) (Some y) None) [
        | true ↦ λ h. cc
        | false ↦ λ h. find_pushed xs y h
      ] e

  pub find_passed_over : (xs : List X) (y : X) → t y ≡ false → find t (xs ++ y ∷ []) ≡ find t xs
  find_passed_over [] y e = ap (λ v. cond v (Some y) None) e
  find_passed_over (x ∷ xs) y e = ap (λ (o : Option X). cond (t x) (Some x) o) (find_passed_over xs y e)

  pub passes : (xs : List X) (b : X) → find t xs ≡ Some b → t b ≡ true
  passes [] b e = cc
  passes (x ∷ xs) b e = elim (t x) as (λ v. t x ≡ v → cond v (Some x) (find t xs) ≡ Some b → t b ≡ true) [
    | true ↦ λ h g. ap t (sym (same_Some x b g)) ∙ h
    | false ↦ λ h g. passes xs b g
  ] refl e

  pub none_passes : (xs : List X) → find t xs ≡ None → list_any t xs ≡ false
  none_passes [] e = refl
  none_passes (x ∷ xs) e = elim (t x) as (λ v. cond v (Some x) (find t xs) ≡ None → (v || list_any t xs) ≡ false) [
    | true ↦ λ g. cc
    | false ↦ λ g. none_passes xs g
  ] e

module _ {X : Type 0} (s t : X → Bool) where
  -- If an element that one test finds passes another, the list has an element that passes that.
  pub any_found : (xs : List X) (b : X) → find s xs ≡ Some b → t b ≡ true → list_any t xs ≡ true
  any_found [] b e h = cc
  any_found (x ∷ xs) b e h = elim (s x) as (λ v. cond v (Some x) (find s xs) ≡ Some b → (t x || list_any t xs) ≡ true) [
    | true ↦ λ g. ap (λ v. v || list_any t xs) (ap t (same_Some x b g) ∙ h)
    | false ↦ λ g. let rest : list_any t xs ≡ true = any_found xs b g h in grind (arith, rest)
  ] e

  pub find_same : (xs : List X) (b : X) → find s xs ≡ Some b → t b ≡ true → Once t xs → find t xs ≡ Some b
  find_same [] b e h o = cc
  find_same (x ∷ xs) b e h o = elim (s x) as (λ v. cond v (Some x) (find s xs) ≡ Some b →
      cond (t x) (Some x) (find t xs) ≡ Some b) [
        | true ↦ λ g. ap (λ v. cond v (Some x) (find t xs)) (ap t (same_Some x b g) ∙ h) ∙ g
        | false ↦ λ g. elim (t x) as (λ v. t x ≡ v → cond v (Some x) (find t xs) ≡ Some b) [
          | true ↦ λ k. absurd (true≢false (sym (any_found xs b g h) ∙ o.0 k))
          | false ↦ λ k. find_same xs b g h o.1
        ] refl
      ] e

  -- Both tests find the same element, so the change is the same.
  pub change_same : (f : X → X) (xs : List X) (b : X) → find s xs ≡ Some b → t b ≡ true → Once t xs →
      change_first s f xs ≡ change_first t f xs
  change_same f [] b e h o = refl
  change_same f (x ∷ xs) b e h o = elim (s x) as (λ v. cond v (Some x) (find s xs) ≡ Some b →
      cond v (f x ∷ xs) (x ∷ change_first s f xs) ≡ cond (t x) (f x ∷ xs) (x ∷ change_first t f xs)) [
        | true ↦ λ g. sym (ap (λ v. cond v (f x ∷ xs) (x ∷ change_first t f xs)) (ap t (same_Some x b g) ∙ h))
        | false ↦ λ g. elim (t x) as (λ v. t x ≡ v → x ∷ change_first s f xs
            ≡ cond v (f x ∷ xs) (x ∷ change_first t f xs)) [
              | true ↦ λ k. absurd (true≢false (sym (any_found xs b g h) ∙ o.0 k))
              | false ↦ λ k. ap (λ (l : List X). x ∷ l) (change_same f xs b g h o.1)
            ] refl
      ] e

-- Lemmas about searches in lists, and changes of them.
use Rattle.std.proofs.lemmas.Grind.{common_steps}
use Rattle.std.proofs.Common.{◌≡◌, ℕ, Bool, true, false, ◌&&◌, ◌||◌, cond, List, [], ◌∷◌, ◌++◌, map, Some, None, refl, sym, ◌∙◌, ap, arith, zero, suc, ◌<◌, length, get_or, set, ltb, filter, position, is_some}
use Rattle.std.{specs.List.{position_or_len, list_any}, proofs.lemmas.{Bool.{or_parts, Decides.nat_tests}, List.Quantifiers.position-Some}}
use Rattle.napt_rules.specs.Prelude.{change_first}

-- A CHANGE BY INDEX

any_place : {X : Type 0} (t : X → Bool) (xs : List X) → list_any t xs ≡ ltb (position_or_len t xs) (length xs)
any_place t [] = refl
any_place t (x ∷ xs) = grind (arith, nat_tests, any_place t xs)

change_here : {X : Type 0} (t : X → Bool) (f : X → X) (xs : List X) (i : ℕ) (d : X) → i < length xs → t (get_or xs i d)
    ≡ true → ((k : ℕ) → k < i → t (get_or xs k d) ≡ false) → set xs i (f (get_or xs i d)) ≡ change_first t f xs
change_here t f [] i d lt here before = absurd (omega arith)
change_here t f (x ∷ xs) zero d lt here before = sym (ap (λ v. cond v (f x ∷ xs) (x ∷ change_first t f xs)) here)
change_here t f (x ∷ xs) (suc i) d lt here before =
    ap (λ (l : List _). x ∷ l) (change_here t f xs i d (omega arith) here (λ k h. before (suc k) (omega arith)))
    ∙ sym (ap (λ v. cond v (f x ∷ xs) (x ∷ change_first t f xs)) (before zero (omega arith)))

pub change_at : {X : Type 0} (t : X → Bool) (f : X → X) (xs : List X) (i : ℕ) (d : X) → position t xs ≡ Some i →
    set xs i (f (get_or xs i d)) ≡ change_first t f xs
change_at t f xs i d e =
    let p : (i < length xs) × (t (get_or xs i d) ≡ true) × ((k : ℕ) → k < i → t (get_or xs k d) ≡ false) =
    position-Some t xs i d e in
    change_here t f xs i d p.0 p.1 p.2

pub some_place : {X : Type 0} (t : X → Bool) (xs : List X) → is_some (position t xs) ≡ list_any t xs
some_place t xs =
    elim (ltb (position_or_len t xs) (length xs)) as (λ v. is_some (cond v (Some (position_or_len t xs)) None) ≡ v)
    [ true ↦ refl | false ↦ refl ]
    ∙ sym (any_place t xs)

pub any_at : {X : Type 0} (t : X → Bool) (xs : List X) (i : ℕ) → position t xs ≡ Some i → list_any t xs ≡ true
any_at t xs i e = any_place t xs ∙ elim (ltb (position_or_len t xs) (length xs)) as (λ v.
    cond v (Some (position_or_len t xs)) None ≡ Some i → v ≡ true) [ true ↦ λ h. refl | false ↦ λ h. cc ] e

pub any_nowhere : {X : Type 0} (t : X → Bool) (xs : List X) → position t xs ≡ None → list_any t xs ≡ false
any_nowhere t xs e = any_place t xs ∙ elim (ltb (position_or_len t xs) (length xs)) as (λ v.
    cond v (Some (position_or_len t xs)) None ≡ None → v ≡ false) [ true ↦ λ h. cc | false ↦ λ h. refl ] e

pub change_pushed : {X : Type 0} (t : X → Bool) (f : X → X) (xs : List X) (x : X) → list_any t xs ≡ false → t x ≡ true →
    change_first t f (xs ++ x ∷ []) ≡ xs ++ f x ∷ []
change_pushed t f [] x none here = ap (λ v. cond v (f x ∷ []) (x ∷ [])) here
change_pushed t f (y ∷ xs) x none here =
    let p : (t y ≡ false) × (list_any t xs ≡ false) = or_parts (t y) (list_any t xs) none in
    ap (λ v. cond v (f y ∷ (xs ++ x ∷ [])) (y ∷ change_first t f (xs ++ x ∷ []))) p.0 ∙ ap (λ (l : List _). y ∷ l)
    (change_pushed t f xs x p.1 here)

pub change_nowhere : {X : Type 0} (t : X → Bool) (f : X → X) (xs : List X) → list_any t xs ≡ false → change_first t f xs
    ≡ xs
change_nowhere t f [] h = refl
change_nowhere t f (x ∷ xs) h =
    let p : (t x ≡ false) × (list_any t xs ≡ false) = or_parts (t x) (list_any t xs) h in
    ap (λ v. cond v (f x ∷ xs) (x ∷ change_first t f xs)) p.0 ∙ ap (λ (l : List _). x ∷ l) (change_nowhere t f xs p.1)

-- SEARCHES IN A FILTERED LIST WHOSE ELEMENTS ARE CHANGED, BUT NOT IN WHAT THE SEARCH LOOKS AT

module _ {X : Type 0} (p t : X → Bool) (f : X → X) (same : (x : X) → t (f x) ≡ t x) where
  pub any_seen : (xs : List X) → list_any t (map f (filter p xs)) ≡ list_any (λ x. p x && t x) xs
  any_seen [] = refl
  any_seen (x ∷ xs) = grind (arith, same x, any_seen xs)

  module _ (h : X → X) where
    set_seen_here : (xs : List X) (i : ℕ) (d y : X) → i < length xs → (p (get_or xs i d) && t (get_or xs i d)) ≡ true →
        ((k : ℕ) → k < i → (p (get_or xs k d) && t (get_or xs k d)) ≡ false) →
        p y ≡ true → f y ≡ h (f (get_or xs i d)) → map f (filter p (set xs i y))
        ≡ change_first t h (map f (filter p xs))
    set_seen_here [] i d y lt here before kept changed = absurd (omega arith)
    set_seen_here (x ∷ xs) zero d y lt here before kept changed = grind (arith, same x, here, kept, changed)
    set_seen_here (x ∷ xs) (suc i) d y lt here before kept changed =
        let first : (p x && t x) ≡ false = before zero (omega arith) in
        let rest : map f (filter p (set xs i y)) ≡ change_first t h (map f (filter p xs)) =
        set_seen_here xs i d y (omega arith) here (λ k h. before (suc k) (omega arith)) kept changed in
        grind (arith, same x, first, rest)

    -- Replacing the first element that is kept and found changes the first one that is found in the filtered list.
    pub set_seen : (xs : List X) (i : ℕ) (d y : X) → position (λ x. p x && t x) xs ≡ Some i → p y ≡ true →
        f y ≡ h (f (get_or xs i d)) → map f (filter p (set xs i y)) ≡ change_first t h (map f (filter p xs))
    set_seen xs i d y e kept changed = grind (arith, common_steps, nat_tests, position-Some, set_seen_here)

pub filter_pushed : {X : Type 0} (p : X → Bool) (xs : List X) (y : X) → p y ≡ true → filter p (xs ++ y ∷ [])
    ≡ filter p xs ++ y ∷ []
filter_pushed p [] y kept = grind (arith, kept)
filter_pushed p (x ∷ xs) y kept = grind (arith, filter_pushed p xs y kept)

pub map_same : {X : Type 0} (xs : List X) → map (λ x. x) xs ≡ xs
map_same [] = refl
map_same (x ∷ xs) = ap (λ (l : List _). x ∷ l) (map_same xs)

pub any_set : {X : Type 0} (t : X → Bool) (xs : List X) (i : ℕ) (y : X) → i < length xs → t y ≡ true →
    list_any t (set xs i y) ≡ true
any_set t [] i y lt h = absurd (omega arith)
any_set t (x ∷ xs) zero y lt h = ap (λ v. v || list_any t xs) h
any_set t (x ∷ xs) (suc i) y lt h = grind (arith, any_set t xs i y (omega arith) h)

pub any_pushed : {X : Type 0} (t : X → Bool) (xs : List X) (y : X) → t y ≡ true → list_any t (xs ++ y ∷ []) ≡ true
any_pushed t [] y h = ap (λ v. v || false) h
any_pushed t (x ∷ xs) y h = grind (arith, any_pushed t xs y h)

pub any_last : {X : Type 0} (t : X → Bool) (xs : List X) (y : X) → list_any t xs ≡ false → t y ≡ false →
    list_any t (xs ++ y ∷ []) ≡ false
any_last t [] y none h = ap (λ v. v || false) h
any_last t (x ∷ xs) y none h =
    let p : (t x ≡ false) × (list_any t xs ≡ false) = or_parts (t x) (list_any t xs) none in
    ap (λ v. v || list_any t (xs ++ y ∷ [])) p.0 ∙ any_last t xs y p.1 h

-- Lemmas about `list_any`, `filter` and `Each`.
use Rattle.std.{proofs.Common.{◌≡◌, Bool, true, false, cond, List, [], ◌∷◌, refl, ◌∙◌, ap, arith, filter}, specs.List.list_any}
use Rattle.napt_rules.specs.Prelude.{Each}

pub any_narrow : {X : Type 0} (p q : X → Bool) (xs : List X) → ((x : X) → q x ≡ true → p x ≡ true) →
    list_any q (filter p xs) ≡ list_any q xs
any_narrow p q [] less = refl
any_narrow p q (x ∷ xs) less = grind (arith, less x, any_narrow p q xs less)

pub each_filter : {X : Type 0} (p : X → Bool) (xs : List X) → Each (λ x. p x ≡ true) (filter p xs)
each_filter p [] = tt
each_filter p (x ∷ xs) = elim (p x) as (λ v. p x ≡ v → Each (λ x. p x ≡ true) (cond v (x ∷ filter p xs) (filter p xs)))
    [ true ↦ λ e. (e, each_filter p xs) | false ↦ λ e. each_filter p xs ] refl

pub filter_all : {X : Type 0} (p : X → Bool) (xs : List X) → Each (λ x. p x ≡ true) xs → filter p xs ≡ xs
filter_all p [] h = refl
filter_all p (x ∷ xs) h = ap (λ v. cond v (x ∷ filter p xs) (filter p xs)) h.0 ∙ ap (λ (l : List _). x ∷ l)
    (filter_all p xs h.1)

pub any_weaker : {X : Type 0} (p q : X → Bool) (xs : List X) → ((x : X) → q x ≡ true → p x ≡ true) → list_any q xs
    ≡ true → list_any p xs ≡ true
any_weaker p q [] less h = h
any_weaker p q (x ∷ xs) less h = grind (arith, less x, any_weaker p q xs less)

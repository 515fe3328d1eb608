-- Laws of functions on lists.
use Rattle.std.proofs.Common.{◌≡◌, Bool, true, false, ◌&&◌, ◌||◌, cond, List, [], ◌∷◌, ◌++◌, map, Option, Some, None, refl, sym, ◌∙◌, ap, subst, arith, suc, ◌<◌, length, filter, find}
use Rattle.std.{specs.List.list_any, proofs.lemmas.Bool.or_parts}
use Rattle.napt_rules.specs.Prelude.{change_first, Each}

-- Two filters commute.
pub filter_swap : {X : Type 0} (p q : X → Bool) (xs : List X) → filter p (filter q xs) ≡ filter q (filter p xs)
filter_swap p q [] = refl
filter_swap p q (x ∷ xs) = grind (arith, filter_swap p q xs)

pub filter_map : {X : Type 0} (p : X → Bool) (f : X → X) (xs : List X) → ((x : X) → p (f x) ≡ p x) → filter p (map f xs)
    ≡ map f (filter p xs)
filter_map p f [] same = refl
filter_map p f (x ∷ xs) same = grind (arith, same x, filter_map p f xs same)

pub find_filter : {X : Type 0} (p q : X → Bool) (xs : List X) → find (λ x. p x && q x) (filter p xs)
    ≡ find (λ x. p x && q x) xs
find_filter p q [] = refl
find_filter p q (x ∷ xs) = grind (arith, find_filter p q xs)

pub any_filter : {X : Type 0} (p q : X → Bool) (xs : List X) → list_any (λ x. p x && q x) (filter p xs)
    ≡ list_any (λ x. p x && q x) xs
any_filter p q [] = refl
any_filter p q (x ∷ xs) = grind (arith, any_filter p q xs)

-- A change of an element that the filter keeps commutes with the filter.
pub filter_change : {X : Type 0} (p q : X → Bool) (f : X → X) (xs : List X) → ((x : X) → q x ≡ true → p x ≡ true) →
    ((x : X) → p (f x) ≡ p x) → filter p (change_first q f xs) ≡ change_first q f (filter p xs)
filter_change p q f [] within same = refl
filter_change p q f (x ∷ xs) within same = grind (arith, within x, same x, filter_change p q f xs within same)

-- A change of an element that the filter drops does not change the filtered list.
pub filter_change_other : {X : Type 0} (p q : X → Bool) (f : X → X) (xs : List X) →
    ((x : X) → q x ≡ true → p x ≡ false) → ((x : X) → p (f x) ≡ p x) → filter p (change_first q f xs) ≡ filter p xs
filter_change_other p q f [] apart same = refl
filter_change_other p q f (x ∷ xs) apart same = grind (arith, same x, apart x, filter_change_other p q f xs apart same)

pub find_agree : {X : Type 0} (p q : X → Bool) (xs : List X) → ((x : X) → p x ≡ q x) → find p xs ≡ find q xs
find_agree p q [] same = refl
find_agree p q (x ∷ xs) same = grind (arith, same x, find_agree p q xs same)

-- A filter after one that keeps more is that filter alone.
pub filter_narrow : {X : Type 0} (p q : X → Bool) (xs : List X) → ((x : X) → q x ≡ true → p x ≡ true) →
    filter q (filter p xs) ≡ filter q xs
filter_narrow p q [] less = refl
filter_narrow p q (x ∷ xs) less = grind (arith, less x, filter_narrow p q xs less)

pub find_nowhere : {X : Type 0} (t : X → Bool) (xs : List X) → list_any t xs ≡ false → find t xs ≡ None
find_nowhere t [] h = refl
find_nowhere t (x ∷ xs) h =
    let p : (t x ≡ false) × (list_any t xs ≡ false) = or_parts (t x) (list_any t xs) h in
    ap (λ v. cond v (Some x) (find t xs)) p.0 ∙ find_nowhere t xs p.1

pub each_changed : {X : Type 0} (P : X → Type 0) (t : X → Bool) (f : X → X) → ((x : X) → t x ≡ true → P x → P (f x)) →
    (xs : List X) → Each P xs → Each P (change_first t f xs)
each_changed P t f keeps [] h = tt
each_changed P t f keeps (x ∷ xs) h = elim (t x) as (λ v. t x ≡ v →
    Each P (cond v (f x ∷ xs) (x ∷ change_first t f xs)))
    [ true ↦ λ e. (keeps x e h.0, h.1) | false ↦ λ e. (h.0, each_changed P t f keeps xs h.1) ] refl

pub each_pushed : {X : Type 0} (P : X → Type 0) (xs : List X) (x : X) → Each P xs → P x → Each P (xs ++ x ∷ [])
each_pushed P [] x h g = (g, tt)
each_pushed P (y ∷ xs) x h g = (h.0, each_pushed P xs x h.1 g)

pub any_of : {X : Type 0} (p : X → Bool) (xs : List X) → Each (λ x. p x ≡ true) xs → 0 < length xs →
    list_any p xs ≡ true
any_of p [] h lt = absurd (omega arith)
any_of p (x ∷ xs) h lt = ap (λ v. v || list_any p xs) h.0

pub some_any : {X : Type 0} (p : X → Bool) (xs : List X) → list_any p xs ≡ true → 0 < length xs
some_any p [] h = cc
some_any p (x ∷ xs) h = omega arith

pub long_changed : {X : Type 0} (t : X → Bool) (f : X → X) (xs : List X) → length (change_first t f xs) ≡ length xs
long_changed t f [] = refl
long_changed t f (x ∷ xs) = elim (t x) as (λ v. length (cond v (f x ∷ xs) (x ∷ change_first t f xs)) ≡ suc (length xs))
    [ true ↦ refl | false ↦ ap suc (long_changed t f xs) ]

pub long_pushed : {X : Type 0} (xs : List X) (x : X) → 0 < length (xs ++ x ∷ [])
long_pushed [] x = omega arith
long_pushed (y ∷ xs) x = omega arith

pub each_kept : {X Y : Type 0} (P : Y → Type 0) (k : X → Y) (p : X → Bool) (xs : List X) → Each P (map k xs) →
    Each P (map k (filter p xs))
each_kept P k p [] h = h
each_kept P k p (x ∷ xs) h = elim (p x) as (λ v. Each P (map k (cond v (x ∷ filter p xs) (filter p xs))))
    [ true ↦ (h.0, each_kept P k p xs h.1) | false ↦ each_kept P k p xs h.1 ]

pub find_passes : {X : Type 0} (p : X → Bool) (P : X → Type 0) (xs : List X) (x : X) → Each P xs → find p xs ≡ Some x →
    (p x ≡ true) × P x
find_passes p P [] x h e = cc
find_passes p P (y ∷ xs) x h e = elim (p y) as (λ v. p y ≡ v → cond v (Some y) (find p xs) ≡ Some x → (p x ≡ true)
    × P x) [
      | true ↦ λ py e. let same : y ≡ x = cc in (ap p (sym same) ∙ py, subst P same h.0)
      | false ↦ λ py e. find_passes p P xs x h.1 e
    ] refl e

pub find_none : {X : Type 0} (p : X → Bool) (xs : List X) → find p xs ≡ None → Each (λ x. p x ≡ false) xs
find_none p [] e = tt
find_none p (x ∷ xs) e = elim (p x) as (λ v. p x ≡ v → cond v (Some x) (find p xs) ≡ None → (p x ≡ false)
    × Each (λ x. p x ≡ false) xs) [
      | true ↦ λ px e. cc
      | false ↦ λ px e. (px, find_none p xs e)
    ] refl e

pub any_none : {X : Type 0} (p : X → Bool) (xs : List X) → list_any p xs ≡ false → Each (λ x. p x ≡ false) xs
any_none p [] e = tt
any_none p (x ∷ xs) e = elim (p x) as (λ v. p x ≡ v → (v || list_any p xs) ≡ false → (p x ≡ false)
    × Each (λ x. p x ≡ false) xs) [
      | true ↦ λ px e. cc
      | false ↦ λ px e. (px, any_none p xs e)
    ] refl e

pub each_weaker : {X : Type 0} (P Q : X → Type 0) → ((x : X) → P x → Q x) → (xs : List X) → Each P xs → Each Q xs
each_weaker P Q f [] h = tt
each_weaker P Q f (x ∷ xs) h = (f x h.0, each_weaker P Q f xs h.1)

pub each_true : {X : Type 0} (xs : List X) → Each (λ x. Unit {0}) xs
each_true [] = tt
each_true (x ∷ xs) = (tt, each_true xs)

pub each_append : {X : Type 0} (P : X → Type 0) (xs ys : List X) → Each P xs → Each P ys → Each P (xs ++ ys)
each_append P [] ys h g = g
each_append P (x ∷ xs) ys h g = (h.0, each_append P xs ys h.1 g)

pub each_parts : {X : Type 0} (P : X → Type 0) (xs ys : List X) → Each P (xs ++ ys) → Each P xs × Each P ys
each_parts P [] ys h = (tt, h)
each_parts P (x ∷ xs) ys h = let rest = each_parts P xs ys h.1 in ((h.0, rest.0), rest.1)

pub each_both : {X : Type 0} (P Q : X → Type 0) (xs : List X) → Each P xs → Each Q xs → Each (λ x. P x × Q x) xs
each_both P Q [] h g = tt
each_both P Q (x ∷ xs) h g = ((h.0, g.0), each_both P Q xs h.1 g.1)

pub each_mapped : {X Y : Type 0} (P : Y → Type 0) (f : X → Y) (xs : List X) → Each (λ x. P (f x)) xs → Each P (map f xs)
each_mapped P f [] h = tt
each_mapped P f (x ∷ xs) h = (h.0, each_mapped P f xs h.1)

-- If a conditional result is none, the test failed and the rest is none.
pub passed : {X : Type 0} (t : Bool) (x : X) (others : Option X) → cond t (Some x) others ≡ None → (t ≡ false)
    × (others ≡ None)
passed true x others h = cc
passed false x others h = (refl, h)

pub each_less : {X : Type 0} (P : X → Type 0) (p : X → Bool) (xs : List X) → Each P xs → Each P (filter p xs)
each_less P p [] h = tt
each_less P p (x ∷ xs) h = elim (p x) as (λ v. Each P (cond v (x ∷ filter p xs) (filter p xs)))
    [ true ↦ (h.0, each_less P p xs h.1) | false ↦ each_less P p xs h.1 ]

-- A property of each element, with one of them in the middle of the list.
pub each_mid : {X : Type 0} (P : X → Type 0) (xs ys : List X) (x : X) → Each P (xs ++ x ∷ ys) → P x × Each P (xs ++ ys)
each_mid P [] ys x h = h
each_mid P (z ∷ xs) ys x h = let mid = each_mid P xs ys x h.1 in (mid.0, (h.0, mid.1))

pub each_with : {X : Type 0} (P : X → Type 0) (xs ys : List X) (x : X) → P x → Each P (xs ++ ys) →
    Each P (xs ++ x ∷ ys)
each_with P [] ys x p h = (p, h)
each_with P (z ∷ xs) ys x p h = (h.0, each_with P xs ys x p h.1)

-- Lists: the element at an index.
use Rattle.std.{proofs.Common.{◌≡◌, ◌≢◌, ℕ, zero, suc, ◌<◌, List, [], ◌∷◌, ◌++◌, length, map, Some, refl, ◌∙◌, ap, arith, set}, specs.Prelude.flat_map}
use Rattle.std.specs.List.{slice_get}

pub get_before : {X : Type 0} (xs : List X) (y : X) (i : ℕ) → i < length xs →
    slice_get (xs ++ y ∷ []) i ≡ slice_get xs i
get_before [] y i lt = absurd (omega arith)
get_before (x ∷ xs) y zero lt = refl
get_before (x ∷ xs) y (suc i) lt = get_before xs y i (omega arith)

pub get_last : {X : Type 0} (xs : List X) (y : X) (i : ℕ) → i ≡ length xs → slice_get (xs ++ y ∷ []) i ≡ Some y
get_last [] y zero e = refl
get_last [] y (suc i) e = absurd (omega arith)
get_last (x ∷ xs) y zero e = absurd (omega arith)
get_last (x ∷ xs) y (suc i) e = get_last xs y i (omega arith)

pub get_set : {X : Type 0} (xs : List X) (i : ℕ) (y : X) → i < length xs → slice_get (set xs i y) i ≡ Some y
get_set [] i y lt = absurd (omega arith)
get_set (x ∷ xs) zero y lt = refl
get_set (x ∷ xs) (suc i) y lt = get_set xs i y (omega arith)

pub get_set_other : {X : Type 0} (xs : List X) (i j : ℕ) (y : X) → j ≢ i → slice_get (set xs i y) j ≡ slice_get xs j
get_set_other [] i j y ne = refl
get_set_other (x ∷ xs) zero zero y ne = absurd (ne refl)
get_set_other (x ∷ xs) zero (suc j) y ne = refl
get_set_other (x ∷ xs) (suc i) zero y ne = refl
get_set_other (x ∷ xs) (suc i) (suc j) y ne = get_set_other xs i j y (λ e. ne (ap suc e))

-- LISTS OF THE SAME LENGTH, BY INDEX

abbrev pub SameAt : {X Y Z : Type 0} → (X → Z) → (Y → Z) → List X → List Y → Type 0
SameAt f g xs ys = (i : ℕ) (x : _) (y : _) → slice_get xs i ≡ Some x → slice_get ys i ≡ Some y → f x ≡ g y

pub map_alike : {X Y Z : Type 0} (f : X → Z) (g : Y → Z) (xs : List X) (ys : List Y) → length xs ≡ length ys →
    SameAt f g xs ys → map f xs ≡ map g ys
map_alike f g [] [] long same = refl
map_alike f g [] (y ∷ ys) long same = absurd (omega arith)
map_alike f g (x ∷ xs) [] long same = absurd (omega arith)
map_alike f g (x ∷ xs) (y ∷ ys) long same =
    ap (λ z. z ∷ map f xs) (same 0 x y refl refl) ∙ ap (λ (zs : List _). g y ∷ zs)
    (map_alike f g xs ys (omega arith) (λ i a b p q. same (suc i) a b p q))

pub flat_alike : {X Y Z : Type 0} (f : X → List Z) (g : Y → List Z) (xs : List X) (ys : List Y) →
    length xs ≡ length ys → SameAt f g xs ys → flat_map f xs ≡ flat_map g ys
flat_alike f g [] [] long same = refl
flat_alike f g [] (y ∷ ys) long same = absurd (omega arith)
flat_alike f g (x ∷ xs) [] long same = absurd (omega arith)
flat_alike f g (x ∷ xs) (y ∷ ys) long same =
    ap (λ (z : List _). z ++ flat_map f xs) (same 0 x y refl refl) ∙ ap (λ (zs : List _). g y ++ zs)
    (flat_alike f g xs ys (omega arith) (λ i a b p q. same (suc i) a b p q))

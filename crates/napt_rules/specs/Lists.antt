-- Functions and predicates on lists.
use Rattle.std.specs.Prelude.{Bool, cond, List, [], ◌∷◌}

-- Changes the first element that passes the test, and leaves the others as they are.
abbrev pub change_first : {X : Type 0} → (X → Bool) → (X → X) → List X → List X
change_first test change [] = []
change_first test change (x ∷ xs) = cond (test x) (change x ∷ xs) (x ∷ change_first test change xs)

-- Each element of the list has the property.
abbrev pub Each : {X : Type 0} → (X → Type 0) → List X → Type 0
Each P [] = Unit {0}
Each P (x ∷ xs) = P x × Each P xs

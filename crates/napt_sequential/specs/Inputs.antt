-- An input of a run as contracts see it, without its location in memory. Its number is its index, from 0.
use Rattle.std.specs.Prelude.{◌≡◌, List, [], ◌∷◌, Option, Some, None, Result, Ok, Err}
use Rattle.napt_rules.specs.Prelude.{Arrival}

-- The first input was removed from a list, or the list is empty.
abbrev pub InputIsTaken : List Arrival → Option Arrival → List Arrival → Type 0
InputIsTaken before None after = (before ≡ []) × (after ≡ [])
InputIsTaken before (Some input) after = before ≡ input ∷ after

-- The effect of a call for the next input: the source returns an input, or reports the end or a fault.
abbrev pub NextInputPost : {S F : Type 0} → (S → List Arrival → S → Type 0) → (S → Option F → S → Type 0) → S →
    Result (Option Arrival) F → S → Type 0
NextInputPost hands ends before (Ok (Some input)) after = hands before (input ∷ []) after
NextInputPost hands ends before (Ok None) after = ends before None after
NextInputPost hands ends before (Err fault) after = ends before (Some fault) after

-- The source returned these inputs, and then reported the end or a fault.
pub record InputsCame {S F : Type 0} (hands : S → List Arrival → S → Type 0) (ends : S → Option F → S →
    Type 0) (before : S)
    (inputs : List Arrival) (fault : Option F) (after : S) : Type 0 where
  pub last : S
  pub handed : hands before inputs last
  pub ended : ends last fault after

-- The inputs of a run: the records of both captures, merged by arrival time (a rule of this product). Captures need not
-- be sorted.
use Rattle.std.specs.Prelude.{◌≡◌, ℕ, ◌+◌, ◌≤◌, ◌<◌, ◌↔◌, max, Bool, true, false, List, [], ◌∷◌, map, filter, take, slice_get, Some}
use Rattle.napt_capture.specs.Contents.{RecordModel}
use Rattle.napt_rules.specs.Prelude.{Arrival, Side, Inside, Outside}

-- Returns the arrival time, in ns, and the bytes of a record, which its input also has.
abbrev pub of_record : RecordModel → ℕ × List ℕ
of_record entry = (entry.time, entry.bytes)

abbrev pub of_input : Arrival → ℕ × List ℕ
of_input input = (input.time, input.bytes)

abbrev pub same_side : Side → Side → Bool
same_side Inside Inside = true
same_side Outside Outside = true
same_side _ _ = false

abbrev pub is_from : Side → Arrival → Bool
is_from side input = same_side side input.side

-- Returns the latest arrival time of the inputs, in ns, or 0 if there are none.
abbrev pub latest : List Arrival → ℕ
latest [] = 0
latest (input ∷ inputs) = max input.time (latest inputs)

-- Returns the latest arrival time of the inputs up to an index, inclusive, in ns.
abbrev pub clock_at : ℕ → List Arrival → ℕ
clock_at place inputs = latest (take (place + 1) inputs)

-- Returns the latest arrival time of one side's inputs up to an index, inclusive, in ns.
abbrev pub reach : Side → ℕ → List Arrival → ℕ
reach side place inputs = latest (filter (is_from side) (take (place + 1) inputs))

-- An inside input precedes an outside one if and only if the latest inside time up to the inside input is at most the
-- latest outside time up to the outside one.
abbrev pub AreInOrder : List Arrival → Type 0
AreInOrder inputs =
    (i o : ℕ) (a b : Arrival) → slice_get inputs i ≡ Some a → slice_get inputs o ≡ Some b → a.side ≡ Inside →
    b.side ≡ Outside → (i < o) ↔ (reach Inside i inputs ≤ reach Outside o inputs)

abbrev pub HaveClocks : List Arrival → Type 0
HaveClocks inputs = (place : ℕ) (input : Arrival) → slice_get inputs place ≡ Some input →
    input.clock ≡ clock_at place inputs

-- Each side's inputs are its records in order, the sides are in order, and each clock is the latest time so far.
pub record IsMerged (insides outsides : List RecordModel) (inputs : List Arrival) : Type 0 where
  pub inside : map of_input (filter (is_from Inside) inputs) ≡ map of_record insides
  pub outside : map of_input (filter (is_from Outside) inputs) ≡ map of_record outsides
  pub order : AreInOrder inputs
  pub clock : HaveClocks inputs

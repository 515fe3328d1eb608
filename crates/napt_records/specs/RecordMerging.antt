-- A step of merging, which removes the earlier of the two first records or, on a tie, the inside one.
use Rattle.std.specs.Prelude.{◌≡◌, ℕ, max, Bool, true, false, cond, nat_lt, List, [], ◌∷◌, Option, Some, None, Result, Ok, Err}
use Rattle.napt_capture.specs.{declared.fault.CaptureFault.CaptureFault, Contents.RecordModel, Capture.CaptureReading}
use Rattle.napt_records.specs.declared.stream_merger.{CutFlags.CutFlags, SideFault.SideFault}
use Rattle.napt_rules.specs.Prelude.{Arrival, Side, Inside, Outside}

-- Returns whether an outside record is next.
abbrev pub is_outside_next : List RecordModel → List RecordModel → Bool
is_outside_next [] outs = true
is_outside_next (first ∷ ins) [] = false
is_outside_next (first ∷ ins) (other ∷ outs) = nat_lt other.time first.time

-- The step removes this record from these records of the two sides.
abbrev pub TakesRecord : List RecordModel → List RecordModel → Option (Side × RecordModel) → List RecordModel →
    List RecordModel → Type 0
TakesRecord ins outs None ins_left outs_left = ((ins ≡ []) × (outs ≡ [])) × ((ins_left ≡ []) × (outs_left ≡ []))
TakesRecord ins outs (Some (Inside, entry)) ins_left outs_left = (ins ≡ entry ∷ ins_left) × (outs ≡ outs_left)
    × (is_outside_next ins outs ≡ false)
TakesRecord ins outs (Some (Outside, entry)) ins_left outs_left = (outs ≡ entry ∷ outs_left) × (ins ≡ ins_left)
    × (is_outside_next ins outs ≡ true)

-- Returns the input that a record becomes, with this clock in ns.
abbrev pub input_of : Side → ℕ → RecordModel → Arrival
input_of side clock entry = record { side = side; time = entry.time; clock = clock; bytes = entry.bytes }

-- THE RESULT OF MERGING TWO CAPTURES

-- The inputs, and the end of merging: both captures ended, perhaps inside a record, or the next record has a fault.
pub record MergedInputs : Type 0 where
  pub arrivals : List Arrival
  pub end : Result CutFlags SideFault

abbrev pub outside_before : Arrival → MergedInputs → MergedInputs
outside_before arrival more = record { arrivals = arrival ∷ more.arrivals; end = more.end }

abbrev pub at_fault : Side → CaptureFault → MergedInputs
at_fault side fault = record { arrivals = []; end = Err (record { side = side; fault = fault }) }

abbrev pub at_end : Bool → Result Bool CaptureFault → MergedInputs
at_end cut (Ok other) = record { arrivals = []; end = Ok (record { inside = cut; outside = other }) }
at_end cut (Err fault) = at_fault Outside fault

-- Returns the inputs from the outside records after the end of the inside capture. The clock, in ns, is before them.
abbrev pub outside_alone : Bool → Result Bool CaptureFault → ℕ → List RecordModel → MergedInputs
outside_alone cut other clock [] = at_end cut other
outside_alone cut other clock (entry ∷ entries) =
    let now : ℕ = max clock entry.time in
    outside_before (input_of Outside now entry) (outside_alone cut other now entries)

abbrev pub unless_fault : Result Bool CaptureFault → MergedInputs → MergedInputs
unless_fault (Ok cut) more = more
unless_fault (Err fault) more = at_fault Outside fault

-- Returns the inputs from the outside records up to the first that is not earlier than the next inside record, then
-- that inside record, and then the others.
abbrev pub outside_until : Result Bool CaptureFault → RecordModel → (ℕ → List RecordModel → MergedInputs) → ℕ →
    List RecordModel → MergedInputs
outside_until other first others clock [] =
    let now : ℕ = max clock first.time in
    unless_fault other (outside_before (input_of Inside now first) (others now []))
outside_until other first others clock (entry ∷ outs) =
    cond (nat_lt entry.time first.time)
    (let now : ℕ = max clock entry.time in outside_before (input_of Outside now entry)
    (outside_until other first others now outs))
    (let now : ℕ = max clock first.time in outside_before (input_of Inside now first) (others now (entry ∷ outs)))

abbrev pub alone_by : Result Bool CaptureFault → Result Bool CaptureFault → ℕ → List RecordModel → MergedInputs
alone_by (Ok cut) other clock outs = outside_alone cut other clock outs
alone_by (Err fault) other clock outs = at_fault Inside fault

-- Returns the inputs from the ends of both captures and the remaining records of each. The clock is in ns.
abbrev pub inputs_from : Result Bool CaptureFault → Result Bool CaptureFault → List RecordModel → ℕ →
    List RecordModel → MergedInputs
inputs_from end other [] clock outs = alone_by end other clock outs
inputs_from end other (first ∷ ins) clock outs = outside_until other first (inputs_from end other ins) clock outs

-- Returns the result of merging two captures, from the start.
abbrev pub inputs_until : CaptureReading → CaptureReading → MergedInputs
inputs_until inside outside = inputs_from inside.end outside.end inside.records 0 outside.records

-- THE MERGED LIST of the records alone, as if neither capture had a fault

abbrev pub merged_from : List RecordModel → ℕ → List RecordModel → List Arrival
merged_from ins clock outs = (inputs_from (Ok false) (Ok false) ins clock outs).arrivals

abbrev pub merged_inputs : List RecordModel → List RecordModel → List Arrival
merged_inputs ins outs = merged_from ins 0 outs

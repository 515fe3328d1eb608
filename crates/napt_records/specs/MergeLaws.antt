-- The laws of merging two captures.
use Rattle.std.specs.Prelude.{◌≡◌, ℕ, ◌<◌, ◌≤◌, List, ◌++◌, length, map, filter, take, Ok, Err}
use Rattle.napt_capture.specs.{declared.fault.CaptureFault.CaptureFault, Contents.RecordModel, Capture.CaptureReading}
use Rattle.napt_rules.specs.Prelude.{Arrival, Side, Inside, Outside, inputs_from_clock, last_clock}
use Rattle.napt_records.specs.{declared.stream_merger.{CutFlags.CutFlags, SideFault.SideFault}, Merge.{IsMerged, is_from, of_input, of_record}}
use Rattle.napt_records.specs.RecordMerging.{inputs_until, merged_inputs}

-- The merged list has each side's records in order, the sides in order, and the clocks.
abbrev pub MergeIsInOrder : Type 0
MergeIsInOrder = (insides outsides : List RecordModel) → IsMerged insides outsides (merged_inputs insides outsides)

-- The inputs that merging returns are a prefix of the merged list.
abbrev pub MergesFront : Type 0
MergesFront = (inside outside : CaptureReading) →
    (left : List Arrival) × (merged_inputs inside.records outside.records ≡ (inputs_until inside outside).arrivals
    ++ left)

-- If merging has no fault, these inputs are the whole merged list.
abbrev pub MergesWhole : Type 0
MergesWhole = (inside outside : CaptureReading) (cuts : CutFlags) → (inputs_until inside outside).end ≡ Ok cuts →
    (inputs_until inside outside).arrivals ≡ merged_inputs inside.records outside.records

-- If merging has no fault, neither capture has one, and the flags are true for the captures that end inside a record.
abbrev pub MergeEnds : Type 0
MergeEnds = (inside outside : CaptureReading) (cuts : CutFlags) → (inputs_until inside outside).end ≡ Ok cuts →
    (inside.end ≡ Ok cuts.inside) × (outside.end ≡ Ok cuts.outside)

abbrev pub held_of : Side → CaptureReading → CaptureReading → CaptureReading
held_of Inside inside outside = inside
held_of Outside inside outside = outside

-- A fault of merging is that of the capture of its side.
abbrev pub MergeMeets : Type 0
MergeMeets = (inside outside : CaptureReading) (fault : SideFault) → (inputs_until inside outside).end ≡ Err fault →
    (held_of fault.side inside outside).end ≡ Err fault.fault

-- These inputs include all records of a side.
abbrev pub HaveAll : Side → CaptureReading → CaptureReading → List Arrival → Type 0
HaveAll side inside outside inputs =
    map of_input (filter (is_from side) inputs) ≡ map of_record (held_of side inside outside).records

-- Before a fault, merging returns the shortest prefix that has all records of a side whose capture has a fault. The
-- fault is of that side, since merging needs the record that follows.
abbrev pub MergesBefore : Type 0
MergesBefore = (inside outside : CaptureReading) (fault : SideFault) → (inputs_until inside outside).end ≡ Err fault →
    HaveAll fault.side inside outside (inputs_until inside outside).arrivals
    × ((k : ℕ) (other : Side) (its : CaptureFault) → k < length (inputs_until inside outside).arrivals →
    (held_of other inside outside).end ≡ Err its
    → ¬ HaveAll other inside outside (take k (inputs_until inside outside).arrivals))

-- If the captures of both sides have a fault next, merging ends with that of the inside.
abbrev pub ReportsInsideFirst : Type 0
ReportsInsideFirst = (inside outside : CaptureReading) (fault its : CaptureFault) →
    (inputs_until inside outside).end ≡ Err (record { side = Outside; fault = fault }) → inside.end ≡ Err its
    → ¬ HaveAll Inside inside outside (inputs_until inside outside).arrivals

-- The captures are cut such that merging the first parts gives the first `count` inputs of the merged list, and merging
-- the rest gives the others, with earlier clocks raised to the last clock of the first inputs.
pub record AreCapturesCut (insides outsides : List RecordModel) (count : ℕ) : Type 0 where
  pub inside_first : List RecordModel
  pub inside_rest : List RecordModel
  pub outside_first : List RecordModel
  pub outside_rest : List RecordModel
  pub inside : insides ≡ inside_first ++ inside_rest
  pub outside : outsides ≡ outside_first ++ outside_rest
  pub many : length (merged_inputs inside_first outside_first) ≡ count
  pub whole : merged_inputs insides outsides ≡ merged_inputs inside_first outside_first
      ++ inputs_from_clock (last_clock 0 (merged_inputs inside_first outside_first))
      (merged_inputs inside_rest outside_rest)

-- The captures can be cut after each prefix of the merged list.
abbrev pub CapturesCanBeCut : Type 0
CapturesCanBeCut = (insides outsides : List RecordModel) (count : ℕ) → count ≤ length (merged_inputs insides outsides) →
    AreCapturesCut insides outsides count

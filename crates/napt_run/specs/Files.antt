-- The inputs of two captures as they arrive, headers included.
use Rattle.std.specs.Prelude.{ℕ, List, take, Result, Ok, Err}
use Rattle.napt_wire.specs.declared.Side.{Side, TheVariants.{Inside, Outside}}
use Rattle.napt_capture.specs.{Capture.{capture_of_bytes, format_in}, declared.{fault.CaptureFault.CaptureFault, capture_format.CaptureFormat.CaptureFormat}}
use Rattle.napt_records.specs.RecordMerging.{MergedInputs, at_fault, inputs_until}

-- Returns the inputs, or none of them if the header of a file has a fault.
abbrev pub unless_bad : Side → Result CaptureFormat CaptureFault → MergedInputs → MergedInputs
unless_bad side (Ok format) inputs = inputs
unless_bad side (Err fault) inputs = at_fault side fault

abbrev pub unless_refused : Side → List ℕ → MergedInputs → MergedInputs
unless_refused side bytes inputs = unless_bad side (format_in (take 24 bytes)) inputs

-- Returns the inputs of two files: both headers are read first, that of the inside capture before the other.
abbrev pub files_until : List ℕ → List ℕ → MergedInputs
files_until inside outside =
    unless_refused Inside inside (unless_refused Outside outside
    (inputs_until (capture_of_bytes inside) (capture_of_bytes outside)))

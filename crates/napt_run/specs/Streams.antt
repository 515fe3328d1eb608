-- The effect of a run over captures that are read as they arrive. Nothing is claimed of the bytes of a reader or a
-- writer that are not known.
use Rattle.std.specs.Prelude.{◌≡◌, ℕ, ◌+◌, ◌≤◌, List, [], length, take, drop, Option, Result, Ok, Err, OnOk}
use Rattle.std.specs.Io.KnownBytes.{Appends}
use Rattle.napt_wire.specs.declared.Side.{Side}
use Rattle.napt_wire.specs.declared.Side.TheVariants as sides
use Rattle.napt_capture.specs.{Capture.format_in, Reading.{LeavesBytes, IsReadResult, IsReadFault}, Text.{text}, declared.device.Source.Ghosts}
use Rattle.napt_capture.specs.declared.{record_reader.RecordReader.RecordReader, fault.CaptureFault.{CaptureFault, TheVariants.{TooLarge, Read, Memory}}}
use Rattle.napt_capture.specs.declared.device.Sink as sink
use Rattle.napt_dispatch.specs.{declared.workers.RunSummary.RunSummary}
use Rattle.napt_records.specs.{Output.records_to, Report.report_text, RecordMerging.MergedInputs, declared.{stream_merger.CutFlags.CutFlags, Fault.Fault}}
use Rattle.napt_records.specs.declared.{Fault.TheVariants.{Capture, Run, Write}, Which.{Which, TheVariants.{Outside, Inside, Report, Log}}}
use Rattle.napt_laws.specs.Dispatching.{IsFrontOf}
use Rattle.napt_run.specs.{Captures.{IfKnown, failed_readings, failed_writings}, Files.files_until, Origins.{GivesState, OriginModel, ran_by}}
use Rattle.napt_rules.specs.Prelude.{Arrival}
use Rattle.napt_sequential.specs.declared.fault.RunFault.TheVariants as faults

-- WRITING

-- Returns the text of a capture that a run over these inputs writes.
abbrev pub capture_text : OriginModel → Side → List Arrival → List ℕ
capture_text origin side inputs = text (records_to side inputs (ran_by origin inputs).outcomes)

abbrev pub side_of : Which → Side
side_of Outside = sides.Outside
side_of Inside = sides.Inside
side_of Report = sides.Inside
side_of Log = sides.Inside

-- These are the inputs before a fault of a side, or some first inputs if its device or memory failed.
abbrev pub AreInputsBeforeFault : Side → CaptureFault → MergedInputs → List Arrival → Type 0
AreInputsBeforeFault side fault all inputs =
    IsFrontOf inputs all.arrivals
    × IsReadFault fault (all ≡ record { arrivals = inputs; end = Err (record { side = side; fault = fault }) })

-- THE REPORT

-- The output gets the report, or its first bytes if writing it failed.
abbrev pub GetsReport : List ℕ → Result (Unit {0}) Fault → Option (List ℕ) → Option (List ℕ) → Type 0
GetsReport report (Ok done) old new = Appends old new report
GetsReport report (Err (Write Report fault)) old new =
    (fault.written ≤ length report) × Appends old new (take fault.written report)
GetsReport report (Err other) old new = new ≡ old

abbrev pub ReportsAll : OriginModel → Result (Unit {0}) Fault → MergedInputs → Option (List ℕ) → Option (List ℕ) →
    Type 0
ReportsAll origin result all old new =
    (cuts : CutFlags) × (all.end ≡ Ok cuts)
    × GetsReport (report_text cuts.inside cuts.outside (ran_by origin all.arrivals)) result old new

abbrev pub ReportsOf : OriginModel → Result (Unit {0}) Fault → MergedInputs → Option (List ℕ) → Option (List ℕ) → Type 0
ReportsOf origin (Ok done) all old new = ReportsAll origin (Ok done) all old new
ReportsOf origin (Err (Write Report fault)) all old new = ReportsAll origin (Err (Write Report fault)) all old new
ReportsOf origin (Err other) all old new = new ≡ old

abbrev pub Reports : OriginModel → Result (Unit {0}) Fault → Option (List ℕ) → Option (List ℕ) → Option (List ℕ) →
    Option (List ℕ) → Type 0
Reports origin result inside outside old new =
    IfKnown inside outside (λ bytes others. ReportsOf origin result (files_until bytes others) old new)

-- THE FAULT

-- A fault in a capture is in its bytes, and no capture is too large.
abbrev pub IsStreamFaultOf : Side → CaptureFault → MergedInputs → Type 0
IsStreamFaultOf side Read all = Unit {0}
IsStreamFaultOf side Memory all = Unit {0}
IsStreamFaultOf side TooLarge all = ⊥
IsStreamFaultOf side fault all = all.end ≡ Err (record { side = side; fault = fault })

-- The fault is one of the run itself, or of its log.
abbrev pub IsOfRun : {T : Type 0} → Result T Fault → Type 0
IsOfRun (Err (Run fault)) = Unit {0}
IsOfRun (Err (Write Log fault)) = Unit {0}
IsOfRun other = ⊥

-- All that left is flushed.
abbrev pub IsSettledBy : Result (Unit {0}) Fault → Type 0
IsSettledBy (Ok done) = Unit {0}
IsSettledBy (Err (Capture side fault)) = Unit {0}
IsSettledBy (Err (Write Report fault)) = Unit {0}
IsSettledBy other = ⊥

-- Returns a result without its value.
abbrev pub stream_ended : {T : Type 0} → Result T Fault → Result (Unit {0}) Fault
stream_ended (Ok given) = Ok tt
stream_ended (Err fault) = Err fault

-- FAILED READS

-- Reading succeeded, or ended with a fault.
abbrev pub IsOfReading : Result (Unit {0}) Fault → Type 0
IsOfReading (Ok done) = Unit {0}
IsOfReading (Err (Capture side fault)) = Unit {0}
IsOfReading other = ⊥

-- Reading ended with this result, which a fault of writing a capture does not contain.
abbrev pub IsReading : {T : Type 0} → Result T Fault → Result (Unit {0}) Fault → Type 0
IsReading (Ok done) read = read ≡ Ok tt
IsReading (Err (Write Outside fault)) read = IsOfReading read
IsReading (Err (Write Inside fault)) read = IsOfReading read
IsReading (Err fault) read = read ≡ Err fault

-- The failed reads are those of the result of reading.
abbrev pub HasRead : {T R Q : Type 0} → (R → ℕ) → (Q → ℕ) → R → R → Q → Q → Result T Fault → Type 0
HasRead inside_failed outside_failed old new other_old other_new result =
    (read : Result (Unit {0}) Fault) × IsReading result read
    × (inside_failed new ≡ inside_failed old + failed_readings sides.Inside read)
    × (outside_failed other_new ≡ outside_failed other_old + failed_readings sides.Outside read)

-- THE DEVICES

-- The device of the report gets the report, and fails at most once.
pub record ReportGetsFrom {D : Type 0} (S : sink.Ghosts D) (origin : OriginModel) (inside outside : Option (List ℕ))
    (result : Result (Unit {0}) Fault) (old new : D) : Type 0 where
  pub gets : Reports origin result inside outside (S.contents old) (S.contents new)
  pub count : S.failed new ≡ S.failed old + failed_writings Report result
  pub settled : OnOk result (S.is_flushed new)

-- The returned summary gives the state at the end of the run.
abbrev pub LeavesInTheEnd : OriginModel → Option (List ℕ) → Option (List ℕ) → RunSummary → Type 0
LeavesInTheEnd origin inside outside summary =
    IfKnown inside outside (λ bytes others. GivesState origin (files_until bytes others).arrivals summary)

-- STEPS

-- The header of a capture of these bytes was read, and nothing else.
pub record IsAfterHeader {R : Type 0} (G : Ghosts R) (records : RecordReader) (bytes : Option (List ℕ)) (source : R)
    : Type
    0 where
  pub header : LeavesBytes bytes (G.remaining source)
      (λ bytes left. (format_in (take 24 bytes) ≡ Ok records.format) × (left ≡ drop 24 bytes))
  pub ahead : records.ahead ≡ []
  pub number : records.number ≡ 1

-- The fault is one of the header of a side's capture.
abbrev pub IsHeaderFault : Side → Option (List ℕ) → Option (List ℕ) → Fault → Type 0
IsHeaderFault side old new (Capture other fault) =
    (other ≡ side) × (let answer : Result RecordReader CaptureFault = Err fault
    in IsReadResult answer (LeavesBytes old new
    (λ bytes left. (format_in (take 24 bytes) ≡ Err fault) × (left ≡ drop 24 bytes))))
IsHeaderFault side old new other = ⊥

-- A report could not be made or written.
abbrev pub IsReportFault : Fault → Type 0
IsReportFault (Write Report fault) = Unit {0}
IsReportFault (Run faults.Memory) = Unit {0}
IsReportFault other = ⊥

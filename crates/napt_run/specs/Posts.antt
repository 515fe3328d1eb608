-- The effect of a run over captures, read as they arrive, on its devices, by its result: how many bytes of its text
-- each output contains, and which fault the run returns. Nothing is said of the bytes of a device that are not known.
use Rattle.std.specs.Prelude.{◌≡◌, ◌⊎◌, ⊤, ℕ, ◌+◌, ◌-◌, ◌^◌, ◌≤◌, min, List, length, take, Bool, true, false, Option, Result, Ok, Err, IfOk, IsOk}
use Rattle.std.specs.Io.KnownBytes.{Appends}
use Rattle.napt_capture.specs.{Reading.IsReadFault, Text.file_header, declared.{device.Sink.Ghosts, fault.WriteFault.WriteFault}}
use Rattle.napt_account.specs.Log.{LogModel}
use Rattle.napt_laws.specs.Dispatching.{IsFrontOf}
use Rattle.napt_records.specs.{Faults.is_shut_gate_fault, RecordMerging.MergedInputs, declared.{Fault.{Fault, TheVariants.{Capture, Run, Write}}, Which.{Which, TheVariants.{Outside, Inside, Report, Log}}}}
use Rattle.napt_rules.specs.Prelude.{Arrival}
use Rattle.napt_sequential.specs.declared.fault.RunFault.TheVariants as reasons
use Rattle.napt_run.specs.{LogOrigins.LogTexts, Origins.OriginModel, Runs.{IfHeld, IsToldOf}, declared.{capture_run.ReportData.ReportData, output.Output.Output, outcome_writer.OutcomeWriter.OutcomeWriter, run_end.RunEnd.RunEnd}}
use Rattle.napt_run.specs.Streams.{IsStreamFaultOf, IsOfRun, IsSettledBy, capture_text, side_of, stream_ended}

-- THE TEXT OF AN OUTPUT

-- Returns the text of a capture. Unlike the log, it has no part that is written only at the end of a run.
abbrev pub capture_to : Which → OriginModel → LogTexts
capture_to which origin =
    record { so_far = capture_text origin (side_of which); whole = capture_text origin (side_of which) }

-- Returns whether the part that is written at the end may have begun: not if a capture, another output, the gate or a
-- worker failed, or there were too many inputs.
abbrev pub may_have_ended : Result (Unit {0}) Fault → Bool
may_have_ended (Ok done) = true
may_have_ended (Err (Write Report fault)) = true
may_have_ended (Err (Write Log fault)) = true
may_have_ended (Err (Run reasons.Memory)) = true
may_have_ended (Err other) = false

abbrev pub text_if : Bool → LogTexts → List Arrival → List ℕ
text_if true texts = texts.whole
text_if false texts = texts.so_far

abbrev pub output_text_by : LogTexts → Result (Unit {0}) Fault → List Arrival → List ℕ
output_text_by texts result = text_if (may_have_ended result) texts

-- HOW MANY BYTES OF ITS TEXT AN OUTPUT CONTAINS, by the result: `count`, of the `size` bytes for these inputs

-- A capture contains at least its header; of the log, nothing is said.
abbrev pub IsBegun : Which → ℕ → Type 0
IsBegun Log count = ⊤
IsBegun which count = length file_header ≤ count

-- Writing the second output failed.
abbrev pub WriteExtent : Which → Which → WriteFault → ℕ → ℕ → Type 0
-- The count is that of its own fault, whose number saturates.
WriteExtent Outside Outside fault count size = fault.written ≡ min count (2 ^ 64 - 1)
WriteExtent Inside Inside fault count size = fault.written ≡ min count (2 ^ 64 - 1)
WriteExtent Log Log fault count size = fault.written ≡ min count (2 ^ 64 - 1)
-- The output contains whole records, unless writing the header of the other capture failed.
WriteExtent Outside Inside fault count size = count ≡ size
WriteExtent Inside Outside fault count size = (count ≡ size) ⊎ ((count ≡ 0) × (fault.written ≤ length file_header))
WriteExtent which other fault count size = IsBegun which count

abbrev pub ExtentPost : Which → Result (Unit {0}) Fault → MergedInputs → List Arrival → ℕ → ℕ → Type 0
-- The output contains the whole text of all inputs, and the captures have no fault.
ExtentPost which (Ok done) all inputs count size = IsOk all.end × (inputs ≡ all.arrivals) × (count ≡ size)
ExtentPost which (Err (Write Report fault)) all inputs count size =
    IsOk all.end × (inputs ≡ all.arrivals) × (count ≡ size)
-- It contains all text of the inputs before the fault, or of some first inputs if a read failed or memory was refused.
ExtentPost which (Err (Capture side fault)) all inputs count size =
    IsReadFault fault (all ≡ record { arrivals = inputs; end = Err (record { side = side; fault = fault }) }) ×
    (count ≡ size)
ExtentPost which (Err (Write Outside fault)) all inputs count size = WriteExtent which Outside fault count size
ExtentPost which (Err (Write Inside fault)) all inputs count size = WriteExtent which Inside fault count size
ExtentPost which (Err (Write Log fault)) all inputs count size = WriteExtent which Log fault count size
ExtentPost which (Err (Run fault)) all inputs count size = IsBegun which count

-- An output contains the first `count` bytes of the text of some first inputs.
pub record OutputPost (texts : LogTexts) (which : Which) (result : Result (Unit {0}) Fault) (all : MergedInputs)
    (old new : Option (List ℕ)) : Type 0 where
  pub inputs : List Arrival
  pub front : IsFrontOf inputs all.arrivals
  pub count : ℕ
  pub within : count ≤ length (output_text_by texts result inputs)
  pub appended : Appends old new (take count (output_text_by texts result inputs))
  pub extent : ExtentPost which result all inputs count (length (output_text_by texts result inputs))

-- THE CALLS THAT FAILED

abbrev pub AtMostOneMore : ℕ → ℕ → Type 0
AtMostOneMore old new = (new ≡ old) ⊎ (new ≡ old + 1)

-- Writing the second output failed: one of its calls, and perhaps one of the log, or of a capture if the log failed.
abbrev pub FailedWrites : Which → Which → ℕ → ℕ → Type 0
FailedWrites Log Log old new = new ≡ old + 1
FailedWrites Log Report old new = new ≡ old
FailedWrites Log other old new = AtMostOneMore old new
FailedWrites which Log old new = AtMostOneMore old new
FailedWrites Outside Outside old new = new ≡ old + 1
FailedWrites Inside Inside old new = new ≡ old + 1
FailedWrites which other old new = new ≡ old

-- The number of failed calls is that of the result; an earlier fault may hide a call.
abbrev pub FailedPost : Which → Result (Unit {0}) Fault → ℕ → ℕ → Type 0
FailedPost which (Ok done) old new = new ≡ old
FailedPost which (Err (Capture side fault)) old new = new ≡ old
FailedPost which (Err (Write other fault)) old new = FailedWrites which other old new
FailedPost which (Err (Run fault)) old new = AtMostOneMore old new

-- THE DEVICES

-- The contents of a capture or of the log, its failed calls, and whether it is flushed.
pub record SinkPost {D : Type 0} (S : Ghosts D) (texts : LogTexts) (which : Which) (inside outside : Option (List ℕ))
    (result : Result (Unit {0}) Fault) (old new : D) : Type 0 where
  pub contents : IfHeld inside outside (λ all. OutputPost texts which result all (S.contents old) (S.contents new))
  pub failed : FailedPost which result (S.failed old) (S.failed new)
  pub flushed : IsSettledBy result → S.is_flushed new

-- The contents of a capture, its failed calls, and whether it is flushed. If the log could not be begun, the capture is
-- untouched.
abbrev pub CapturePost : {D : Type 0} → Ghosts D → Bool → Which → OriginModel → Option (List ℕ) → Option (List ℕ) →
    Result (Unit {0}) Fault → D → D → Type 0
CapturePost S is_kept which origin inside outside result old new =
    SinkPost S (capture_to which origin) which inside outside result old new
    ⊎ ((is_kept ≡ true) × IsOfRun result × (new ≡ old))

-- THE FAULT

-- The fault is explained. Only a run with a log fails by its log, or by too many inputs.
abbrev pub ExplainsPost : Bool → Option (List ℕ) → Option (List ℕ) → Fault → Type 0
ExplainsPost is_kept inside outside (Capture side fault) = IfHeld inside outside (IsStreamFaultOf side fault)
ExplainsPost is_kept inside outside (Run reasons.TooMany) =
    (is_kept ≡ true) × IfHeld inside outside (λ all. 2 ^ 62 ≤ length all.arrivals)
ExplainsPost is_kept inside outside (Write Log fault) = is_kept ≡ true
ExplainsPost is_kept inside outside other = ⊤

-- The fault is explained, and a gate that is always open is not reported as shut.
pub record FaultPost (is_kept open_gate : Bool) (inside outside : Option (List ℕ)) (fault : Fault) : Type 0 where
  pub explained : ExplainsPost is_kept inside outside fault
  pub gate : open_gate ≡ true → is_shut_gate_fault fault ≡ false

-- Returns the saved log, by the result of the run.
abbrev pub log_of_end : Result RunEnd Fault → Result LogModel Fault
log_of_end (Ok end) = Ok end.log
log_of_end (Err fault) = Err fault

-- Returns the saved log, by the result before the report is written.
abbrev pub log_by : {T : Type 0} → Result (T × LogModel) Fault → Result LogModel Fault
log_by (Ok (told, log)) = Ok log
log_by (Err fault) = Err fault

-- WHERE A RUN FAILED

-- The fault is not one of writing the report.
abbrev pub IsBeforeReport : Fault → Type 0
IsBeforeReport (Write Report fault) = ⊥
IsBeforeReport other = ⊤

-- A text of the log could not be made or written.
abbrev pub IsTextFault : Bool → Fault → Type 0
IsTextFault is_kept (Write Log fault) = is_kept ≡ true
IsTextFault is_kept (Run reasons.Memory) = is_kept ≡ true
IsTextFault is_kept other = ⊥

-- The captures were read to their ends, and the end of the log or the report failed.
abbrev pub IsEndFault : Fault → Type 0
IsEndFault (Write Report fault) = ⊤
IsEndFault (Write Log fault) = ⊤
IsEndFault (Run reasons.Memory) = ⊤
IsEndFault other = ⊥

-- Both captures were read to their ends.
abbrev pub IsDone : Result (Unit {0}) Fault → Type 0
IsDone (Ok done) = Unit {0}
IsDone (Err (Write Report fault)) = Unit {0}
IsDone other = ⊥

-- STEPS

-- The contents of an output's device, its failed calls, and whether it is flushed.
pub record OutputEnds {D : Type 0} {S : Ghosts D} (texts : LogTexts) (which : Which) (inside outside : Option (List ℕ))
    (result : Result (Unit {0}) Fault) (old new : Output D S) : Type 0 where
  pub same : new.device.ghost_name ≡ old.device.ghost_name
  pub post : SinkPost S texts which inside outside result old.device.now new.device.now

-- A run over captures ends with these outputs, and with these counts for the report.
pub record RunsTo {W V : Type 0} {S : Ghosts W} {T : Ghosts V} (origin : OriginModel) (inside outside : Option (List ℕ))
    (old new : OutcomeWriter W V S T) (result : Result ReportData Fault) : Type 0 where
  pub to_outside : OutputEnds (capture_to Outside origin) Outside inside outside (stream_ended result) old.to_outside
      new.to_outside
  pub to_inside : OutputEnds (capture_to Inside origin) Inside inside outside (stream_ended result) old.to_inside
      new.to_inside
  pub told : IfOk result (IsToldOf origin inside outside)

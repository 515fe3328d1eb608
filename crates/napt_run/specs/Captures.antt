-- The texts that a run over captures writes, from the texts that it reads. Nothing is claimed of the bytes of a reader
-- or a writer that are not known.
use Rattle.std.specs.Prelude.{◌≡◌, ⊤, ℕ, ◌+◌, ◌≤◌, ◌^◌, nat_le, if◌then◌else◌, List, [], length, take, IfSome, IsOk, IsOkAnd, string_bytes, Option, Result, Ok, Err}
use Rattle.std.specs.Io.KnownBytes.{Appends}
use Rattle.napt_wire.specs.declared.Side.{Side}
use Rattle.napt_wire.specs.declared.Side.TheVariants as sides
use Rattle.napt_capture.specs.{Contents.CaptureModel, Capture.{failed_reads, read_whole}, Reading.{IsForRecords, IsReadFault}, Text.text}
use Rattle.napt_capture.specs.declared.fault.CaptureFault.{CaptureFault}
use Rattle.napt_config.specs.Rules.{Rules}
use Rattle.napt_dispatch.specs.declared.workers.RunSummary.{RunSummary}
use Rattle.napt_records.specs.declared.{Fault.{Fault, TheVariants.{Capture, Run, Write}}, Which.{Which, TheVariants.{Outside, Inside, Report, Log}}}
use Rattle.napt_records.specs.{Output.records_to, Report.report_text, RecordMerging.merged_inputs}
use Rattle.napt_sequential.specs.declared.fault.RunFault.TheVariants.{Memory, TooMany, Pool}
use Rattle.napt_run.specs.{Origins.{GivesState, OriginModel, initial_origin, ran_by}, declared.captures.{CaptureFiles.CaptureFiles, CaptureOutputs.CaptureOutputs}}
use Rattle.napt_rules.specs.Prelude.{Arrival}

-- READING: the inside capture first

abbrev pub both_by : Result CaptureModel CaptureFault → Result CaptureModel CaptureFault → Result CaptureFiles Fault
both_by (Ok inside) (Ok outside) = Ok (record { inside = inside; outside = outside })
both_by (Ok inside) (Err fault) = Err (Capture sides.Outside fault)
both_by (Err fault) other = Err (Capture sides.Inside fault)

abbrev pub read_both : List ℕ → List ℕ → Result CaptureFiles Fault
read_both inside outside = both_by (read_whole inside) (read_whole outside)

-- FROM BYTES TO BYTES

-- The texts that a run writes: the captures to both sides, and the report.
pub record RunTexts : Type 0 where
  pub outside : List ℕ
  pub inside : List ℕ
  pub report : List ℕ

abbrev pub arrivals_of : CaptureFiles → List Arrival
arrivals_of captures = merged_inputs captures.inside.records captures.outside.records

abbrev pub texts_made : OriginModel → CaptureFiles → RunTexts
texts_made origin captures =
    let arrivals : List Arrival = arrivals_of captures in
    record {
      outside = text (records_to sides.Outside arrivals (ran_by origin arrivals).outcomes);
      inside = text (records_to sides.Inside arrivals (ran_by origin arrivals).outcomes);
      report = report_text captures.inside.cut captures.outside.cut (ran_by origin arrivals);
    }

-- There are more records than a run can count.
abbrev pub AreTooMany : CaptureFiles → Type 0
AreTooMany captures = 2 ^ 32 ≤ length captures.inside.records + length captures.outside.records

abbrev pub texts_by : OriginModel → Result CaptureFiles Fault → Result RunTexts Fault
texts_by origin (Err fault) = Err fault
texts_by origin (Ok captures) =
    if nat_le (2 ^ 32) (length captures.inside.records + length captures.outside.records) then Err (Run TooMany)
    else Ok (texts_made origin captures)

abbrev pub texts_from : OriginModel → List ℕ → List ℕ → Result RunTexts Fault
texts_from origin inside outside = texts_by origin (read_both inside outside)

-- Returns the texts of a run from the opening list of a configuration.
abbrev pub texts : Rules → List ℕ → List ℕ → Result RunTexts Fault
texts rules inside outside = texts_from (initial_origin rules) inside outside

-- THE SHARE OF A DEVICE

abbrev pub text_to : Which → RunTexts → List ℕ
text_to Outside all = all.outside
text_to Inside all = all.inside
text_to Report all = all.report
text_to Log all = []

-- The part of its text that an output gets.
pub data OutputShare : Type 0 where
  whole : OutputShare
  front : ℕ → OutputShare
  nothing : OutputShare

-- Returns the share of an output: to the outside, to the inside and the report are written in this order, and nothing
-- after a fault of a capture or of the run.
abbrev pub share_of : Which → Result (Unit {0}) Fault → OutputShare
share_of which (Ok done) = whole
share_of which (Err (Capture side fault)) = nothing
share_of which (Err (Run fault)) = nothing
share_of Outside (Err (Write Outside fault)) = front fault.written
share_of Outside (Err (Write other fault)) = whole
share_of Inside (Err (Write Outside fault)) = nothing
share_of Inside (Err (Write Inside fault)) = front fault.written
share_of Inside (Err (Write Report fault)) = whole
share_of Inside (Err (Write Log fault)) = whole
share_of Report (Err (Write Report fault)) = front fault.written
share_of Report (Err (Write other fault)) = nothing
share_of Log (Err (Write other fault)) = nothing

-- A writer that had these bytes before and after got this share of a text.
abbrev pub OutputReceives : OutputShare → List ℕ → Option (List ℕ) → Option (List ℕ) → Type 0
OutputReceives whole text old new = Appends old new text
OutputReceives (front written) text old new = (written ≤ length text) × Appends old new (take written text)
OutputReceives nothing text old new = new ≡ old

-- The relation is true of the bytes of both captures, if they are known.
abbrev pub IfKnown : Option (List ℕ) → Option (List ℕ) → (List ℕ → List ℕ → Type 0) → Type 0
IfKnown inside outside Holds = IfSome inside (λ bytes. IfSome outside (λ others. Holds bytes others))

-- An output got this share of its text.
abbrev pub GetsFrom : OriginModel → Which → OutputShare → Option (List ℕ) → Option (List ℕ) → Option (List ℕ) →
    Option (List ℕ) →
    Type 0
GetsFrom origin which nothing inside outside old new = new ≡ old
GetsFrom origin which share inside outside old new = IfKnown inside outside (λ bytes others.
    IsOkAnd (texts_from origin bytes others) (λ all. OutputReceives share (text_to which all) old new))

-- The returned summary gives the state at the end of the run.
abbrev pub OutputIsLeft : OriginModel → Option (List ℕ) → Option (List ℕ) → RunSummary → Type 0
OutputIsLeft origin inside outside summary = IfKnown inside outside (λ bytes others.
    IsOkAnd (read_both bytes others) (λ captures. GivesState origin (arrivals_of captures) summary))

-- THE RESULT

abbrev pub IsPastInside : Result RunTexts Fault → Type 0
IsPastInside (Err (Capture sides.Inside fault)) = ⊥
IsPastInside other = ⊤

-- The result is that of the texts, unless a device, memory or a worker failed.
abbrev pub Answers : Result RunTexts Fault → Result (Unit {0}) Fault → Type 0
Answers all (Ok done) = IsOk all
Answers all (Err (Capture sides.Inside fault)) = IsReadFault fault (all ≡ Err (Capture sides.Inside fault))
Answers all (Err (Capture sides.Outside fault)) =
    IsPastInside all × IsReadFault fault (all ≡ Err (Capture sides.Outside fault))
Answers all (Err (Run TooMany)) = all ≡ Err (Run TooMany)
Answers all (Err (Run Memory)) = IsOk all
Answers all (Err (Run (Pool fault))) = IsOk all
Answers all (Err (Write which fault)) = IsOk all

-- The bytes of a capture, if they are known, can be read. Faults say this of each capture alone: the inside one is read
-- first, and the run starts once both are read.
abbrev pub IsReadable : Option (List ℕ) → Type 0
IsReadable known = IfSome known (λ bytes. IsOk (read_whole bytes))

-- Reading the bytes gives this fault, unless the device failed or memory, taken only for records, was refused.
abbrev pub IsFaultIn : Option (List ℕ) → CaptureFault → Type 0
IsFaultIn known fault = IsReadFault fault (IfSome known (λ bytes. read_whole bytes ≡ Err fault)) ×
    IsForRecords known fault

abbrev pub Explains : Option (List ℕ) → Option (List ℕ) → Fault → Type 0
Explains inside outside (Capture sides.Inside fault) = IsFaultIn inside fault
Explains inside outside (Capture sides.Outside fault) = IsReadable inside × IsFaultIn outside fault
Explains inside outside (Run fault) = IsReadable inside × IsReadable outside
Explains inside outside (Write Log fault) = ⊥
Explains inside outside (Write which fault) = IsReadable inside × IsReadable outside

-- Returns the number of failed reads of a side's capture, and of failed writes of an output.
abbrev pub failed_readings : {T : Type 0} → Side → Result T Fault → ℕ
failed_readings side (Ok done) = 0
failed_readings sides.Inside (Err (Capture sides.Inside fault)) = let answer : Result CaptureModel CaptureFault =
    Err fault in failed_reads answer
failed_readings sides.Outside (Err (Capture sides.Outside fault)) = let answer : Result CaptureModel CaptureFault =
    Err fault in failed_reads answer
failed_readings side other = 0

abbrev pub failed_writings : Which → Result (Unit {0}) Fault → ℕ
failed_writings which (Ok done) = 0
failed_writings Outside (Err (Write Outside fault)) = 1
failed_writings Inside (Err (Write Inside fault)) = 1
failed_writings Report (Err (Write Report fault)) = 1
failed_writings Log (Err (Write Log fault)) = 1
failed_writings which other = 0

-- BETWEEN READING AND WRITING

-- These contents were read from a capture, if its bytes are known.
abbrev pub IsReadFrom : Option (List ℕ) → CaptureModel → Type 0
IsReadFrom known contents = IfSome known (λ bytes. read_whole bytes ≡ Ok contents)

-- The capture of a side was not read.
abbrev pub CaptureIsUnread : Side → Option (List ℕ) → Fault → Type 0
CaptureIsUnread sides.Inside known (Capture sides.Inside fault) = IsFaultIn known fault
CaptureIsUnread sides.Outside known (Capture sides.Outside fault) = IsFaultIn known fault
CaptureIsUnread side known other = ⊥

-- The outputs are those of a run over these captures.
pub record AreOutputs (origin : OriginModel) (captures : CaptureFiles) (outputs : CaptureOutputs) : Type 0 where
  pub to_outside : outputs.to_outside ≡ (texts_made origin captures).outside
  pub to_inside : outputs.to_inside ≡ (texts_made origin captures).inside
  pub report : string_bytes outputs.report ≡ (texts_made origin captures).report
  pub leaves : GivesState origin (arrivals_of captures) outputs.summary

-- Returns the output that goes to a side.
abbrev pub output_to : Side → Which
output_to sides.Inside = Inside
output_to sides.Outside = Outside

-- Writing this output failed.
abbrev pub IsWriteFaultOf : Which → Fault → Type 0
IsWriteFaultOf Outside (Write Outside fault) = Unit {0}
IsWriteFaultOf Inside (Write Inside fault) = Unit {0}
IsWriteFaultOf Report (Write Report fault) = Unit {0}
IsWriteFaultOf which other = ⊥

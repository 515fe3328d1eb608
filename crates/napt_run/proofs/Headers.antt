-- A header of a capture is refused, or could not be read.
use Rattle.std.proofs.Common.{◌≡◌, ◌∙◌, ℕ, ◌+◌, List, [], take, drop, Option, Some, Result, Ok, Err, refl, ap, subst, arith}
use Rattle.napt_wire.specs.declared.Side.{Side}
use Rattle.napt_wire.specs.declared.Side.TheVariants as sides
use Rattle.napt_capture.specs.declared.{fault.CaptureFault.CaptureFault, capture_format.CaptureFormat.CaptureFormat, record_reader.RecordReader.RecordReader}
use Rattle.napt_capture.specs.{Capture.{capture_of_bytes, format_in}, Reading.{LeavesBytes, IsReadResult, IsReadFault}}
use Rattle.napt_records.{specs.{RecordMerging.{MergedInputs, at_fault, inputs_until}, declared.Fault.{Fault, TheVariants.{Capture, Run, Write}}}, proofs.ReaderRests.StopsBy-says}
use Rattle.napt_run.specs.{Files.{files_until, unless_bad, unless_refused}, Runs.IfHeld, Streams.IsHeaderFault}
use Rattle.napt_run.proofs.{AfterHeaders.{Refuses, refuses}, BytesAtEnd.IfHeld-by, Files.spelled}

-- Reading a header of these bytes had this answer.
abbrev pub Heads : Option (List ℕ) → Option (List ℕ) → Result CaptureFormat CaptureFault → Type 0
Heads known left r = LeavesBytes known left (λ bytes left. (format_in (take 24 bytes) ≡ r) × (left ≡ drop 24 bytes))

-- The header has this fault, unless the device or memory failed.
abbrev pub HeadsBadly : Option (List ℕ) → Option (List ℕ) → CaptureFault → Type 0
HeadsBadly known left fault = let answer : Result RecordReader CaptureFault = Err fault in
    IsReadResult answer (Heads known left (Err fault))

-- No input is handed out of the files, if both are known.
abbrev pub EndsAtHeader : Side → CaptureFault → Option (List ℕ) → Option (List ℕ) → Type 0
EndsAtHeader side fault inside outside = (b o : List ℕ) → inside ≡ Some b → outside ≡ Some o →
    IsReadFault fault (files_until b o ≡ at_fault side fault)

abbrev pub all_of : List ℕ → List ℕ → MergedInputs
all_of bytes others = inputs_until (capture_of_bytes bytes) (capture_of_bytes others)

pub inside_refused : (inside left outside : Option (List ℕ)) (fault : CaptureFault) →
    HeadsBadly inside left fault → EndsAtHeader sides.Inside fault inside outside
inside_refused inside left outside fault heads b o is same =
    StopsBy-says RecordReader fault (λ (p : Heads (Some b) left (Err fault)).
    ap (λ r. unless_bad sides.Inside r (unless_refused sides.Outside o (all_of b o))) (spelled b left (Err fault) p))
    (subst (λ (k : Option (List ℕ)). HeadsBadly k left fault) is heads)

-- The header of the inside capture is then right.
pub outside_refused : (inside left known other : Option (List ℕ)) (format : CaptureFormat) (fault : CaptureFault) →
    Heads inside left (Ok format) → HeadsBadly known other fault → EndsAtHeader sides.Outside fault inside known
outside_refused inside left known other format fault good bad b o is same =
    let first = spelled b left (Ok format) (subst (λ (k : Option (List ℕ)). Heads k left (Ok format)) is good) in
    StopsBy-says RecordReader fault (λ (p : Heads (Some o) other (Err fault)).
    ap (λ r. unless_bad sides.Inside r (unless_refused sides.Outside o (all_of b o))) first
    ∙ ap (λ r. unless_bad sides.Outside r (all_of b o)) (spelled o other (Err fault) p))
    (subst (λ (k : Option (List ℕ)). HeadsBadly k other fault) same bad)

pub none_taken : (inside outside : Option (List ℕ)) (side : Side) (fault : CaptureFault) →
    EndsAtHeader side fault inside outside → IfHeld inside outside (λ all. Refuses side fault all [])
none_taken inside outside side fault ends =
    IfHeld-by (λ all. Refuses side fault all []) inside outside (λ b o is same.
    refuses side fault b o [] ((files_until b o).arrivals, refl) (ends b o is same))

-- FAILED READS

pub header_of : (side : Side) (fault : Fault) (old new : Option (List ℕ)) → IsHeaderFault side old new fault →
    (inner : CaptureFault) × (fault ≡ Capture side inner) × HeadsBadly old new inner
header_of side (Capture other fault) old new is = (fault, ap (λ (s : Side). Capture s fault) is.0, is.1)
header_of side (Run fault) old new is = absurd is
header_of side (Write which fault) old new is = absurd is

-- The failed reads after a header that was read.
pub more_after : (old mid new more : ℕ) → mid ≡ old + 0 → new ≡ mid + more → new ≡ old + more
more_after old mid new more none is = omega (arith, none, is)

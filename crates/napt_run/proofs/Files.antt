-- The inputs of two files, after their headers.
use native.Mathlib.Omega.{arith}
use Rattle.std.proofs.{lemmas.{Grind.common_steps, Bool.Decides.nat_tests}, Common.{◌≡◌, ℕ, List, take, drop, Option, None, Some, Result, Err, ap}}
use Rattle.napt_wire.specs.declared.Side.{Side, TheVariants.{Inside, Outside}}
use Rattle.napt_capture.specs.declared.{device.Source.Ghosts, fault.CaptureFault.{CaptureFault, TheVariants.TooLarge}, capture_format.CaptureFormat.CaptureFormat}
use Rattle.napt_capture.{specs.{Capture.{capture_of_bytes, capture_by_format, format_in}, Reading.LeavesBytes}, proofs.FileContents.never_large}
use Rattle.napt_records.specs.{NewStreams.IsMergerNew, MergeLaws.held_of, RecordMerging.{MergedInputs, inputs_until}}
use Rattle.napt_records.{specs.declared.stream_merger.StreamMerger.StreamMerger, proofs.MergeSteps.merge_meets}
use Rattle.napt_run.specs.Files.{files_until, unless_bad, unless_refused}

-- A header that was read of known bytes.
pub spelled : (bytes : List ℕ) (left : Option (List ℕ)) (r : Result CaptureFormat CaptureFault) →
    LeavesBytes (Some bytes) left (λ bytes left. (format_in (take 24 bytes) ≡ r) × (left ≡ drop 24 bytes))
    → format_in (take 24 bytes) ≡ r
spelled bytes None r p = absurd p
spelled bytes (Some left) r p = p.0

pub begun_files : {R Q : Type 0} {G : Ghosts R} {H : Ghosts Q} (begin : StreamMerger R Q G H)
    (bytes others : List ℕ) → IsMergerNew begin bytes others
    → files_until bytes others ≡ inputs_until (capture_of_bytes bytes) (capture_of_bytes others)
begun_files begin bytes others p = grind (arith, common_steps, nat_tests, spelled)

-- NO FILE IS TOO LARGE

abbrev NoneLarge : MergedInputs → Type 0
NoneLarge inputs = (side : Side) → inputs.end ≡ Err (record { side = side; fault = TooLarge }) → ⊥

bad_large : (side : Side) (r : Result CaptureFormat CaptureFault) (inputs : MergedInputs) → (r ≡ Err TooLarge → ⊥) →
    NoneLarge inputs → NoneLarge (unless_bad side r inputs)
bad_large side r inputs never none = grind (arith, common_steps, nat_tests)

header_large : (bytes : List ℕ) → format_in (take 24 bytes) ≡ Err TooLarge → ⊥
header_large bytes is = never_large bytes (ap (λ r. (capture_by_format r (drop 24 bytes)).end) is)

refused_large : (side : Side) (bytes : List ℕ) (inputs : MergedInputs) → NoneLarge inputs →
    NoneLarge (unless_refused side bytes inputs)
refused_large side bytes inputs none = bad_large side (format_in (take 24 bytes)) inputs (header_large bytes) none

held_large : (side : Side) (bytes others : List ℕ) →
    (held_of side (capture_of_bytes bytes) (capture_of_bytes others)).end ≡ Err TooLarge → ⊥
held_large Inside bytes others is = never_large bytes is
held_large Outside bytes others is = never_large others is

pub files_large : (bytes others : List ℕ) → NoneLarge (files_until bytes others)
files_large bytes others =
    let all : MergedInputs = inputs_until (capture_of_bytes bytes) (capture_of_bytes others) in
    refused_large Inside bytes (unless_refused Outside others all) (refused_large Outside others all
    (λ side is. held_large side bytes others
    (merge_meets (capture_of_bytes bytes) (capture_of_bytes others) (record { side = side; fault = TooLarge }) is)))

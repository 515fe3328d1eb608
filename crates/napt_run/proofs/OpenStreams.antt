-- Streams of captures whose headers were read, and the number of reads that failed after them.
use native.Mathlib.Omega.{arith}
use Rattle.std.proofs.lemmas.{Grind.common_steps, Bool.Decides.nat_tests, List.Elements.All-nil}
use Rattle.std.proofs.Common.{◌≡◌, ◌⊎◌, inl, inr, ℕ, ◌+◌, List, Option, Some, None, Result, Ok, Err, sym, ◌∙◌, add-zero}
use Rattle.napt_wire.specs.declared.Side.{Side}
use Rattle.napt_wire.specs.declared.Side.TheVariants as sides
use Rattle.napt_capture.specs.declared.{device.Source.Ghosts, fault.CaptureFault.CaptureFault}
use Rattle.napt_capture.specs.{declared.record_reader.RecordReader.RecordReader, Contents.CaptureModel, Capture.failed_reads}
use Rattle.napt_records.specs.{NewStreams.IsStreamNew, StreamMergers.{IsMergerLive, AreSame, CountsFailures, MergeEndsWith, HandsOutInputs, failed_by}, declared.Fault.{Fault, TheVariants.Capture}}
use Rattle.napt_records.specs.declared.{stream_merger.{StreamMerger.StreamMerger, SideFault.SideFault}, stream.RecordStream.RecordStream}
use Rattle.napt_records.proofs.HeadersRead.{came_counts, came_failed, came_same}
use Rattle.napt_rules.specs.Prelude.{Arrival}
use Rattle.napt_run.specs.{Captures.failed_readings, Streams.{IsAfterHeader, IsOfReading}}
use Rattle.napt_sequential.specs.Inputs.{InputsCame}

-- THE START

pub stream_begun : {R : Type 0} {G : Ghosts R} (stream : RecordStream R G) (records : RecordReader) (source : R)
    (bytes : Option (List ℕ)) → IsAfterHeader G records bytes source → stream.records ≡ records →
    stream.live.source.now ≡ source → stream.live.fault ≡ None → stream.cut ≡ None → IsStreamNew stream bytes
stream_begun stream records source bytes behind same value live cut = grind (arith, common_steps, nat_tests)

pub begun_live : {R Q : Type 0} {G : Ghosts R} {H : Ghosts Q} (begin : StreamMerger R Q G H) →
    begin.inside.live.fault ≡ None → begin.outside.live.fault ≡ None → begin.inside_first ≡ None →
    begin.outside_first ≡ None → IsMergerLive begin
begun_live begin inside outside first second = grind (arith, common_steps, nat_tests, All-nil)

-- FAILED READS

same_failed : (fault : CaptureFault) → (let a : Result (Unit {0}) CaptureFault = Err fault in failed_reads a)
    ≡ (let b : Result CaptureModel CaptureFault = Err fault in failed_reads b)
same_failed fault = grind (arith, common_steps, nat_tests)

abbrev pub told : Side → CaptureFault → Result (Unit {0}) Fault
told side fault = Err (Capture side fault)

same_by : (side other : Side) (fault : CaptureFault) → failed_by side other fault ≡ failed_readings side
    (told other fault)
same_by side other fault = grind (arith, common_steps, nat_tests, same_failed)

module _ {R Q : Type 0} {G : Ghosts R} {H : Ghosts Q} (begin end : StreamMerger R Q G H)
    (live : IsMergerLive begin) where
  -- The streams read from the same references, and this number of their reads failed.
  pub record ReadBy (read : Result (Unit {0}) Fault) : Type 0 where
    pub same : AreSame begin end
    pub inside_count : CountsFailures begin.inside (failed_readings sides.Inside read) end.inside
    pub outside_count : CountsFailures begin.outside (failed_readings sides.Outside read) end.outside

  none_more : (old new : ℕ) → new ≡ old → new ≡ old + 0
  none_more old new is = is ∙ sym (add-zero old)

  pub read_well : (inputs : List Arrival) → InputsCame HandsOutInputs MergeEndsWith begin inputs None end →
      ReadBy (Ok tt)
  read_well inputs came = grind (arith, common_steps, nat_tests, came_same, came_counts, none_more)

  read_some : (inputs : List Arrival) → HandsOutInputs begin inputs end → ReadBy (Ok tt)
  read_some inputs handed = grind (arith, common_steps, nat_tests, none_more)

  pub read_to_fault : (inputs : List Arrival) (stop : SideFault) → InputsCame HandsOutInputs
      MergeEndsWith begin inputs (Some stop) end → ReadBy (told stop.side stop.fault)
  read_to_fault inputs stop came = grind (arith, common_steps, nat_tests, came_failed, came_same, ℕ, same_by)

  pub read_somehow : (inputs : List Arrival) → HandsOutInputs begin inputs end ⊎
      ((stop : Option SideFault) × InputsCame HandsOutInputs
      MergeEndsWith begin inputs stop end) → (read : Result (Unit {0}) Fault) × IsOfReading read × ReadBy read
  read_somehow inputs (inl handed) = (Ok tt, tt, read_some inputs handed)
  read_somehow inputs (inr (None, came)) = (Ok tt, tt, read_well inputs came)
  read_somehow inputs (inr (Some stop, came)) = (told stop.side stop.fault, tt, read_to_fault inputs stop came)

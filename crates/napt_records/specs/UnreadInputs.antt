-- The unread parts of two captures that are read as they arrive.
use Rattle.std.specs.{Prelude.{◌≡◌, ⊤, ℕ, Bool, List, ◌++◌, Option, Some, None, Ok, option_to_list}, Option.option_map}
use Rattle.napt_capture.specs.{declared.{device.Source.Ghosts, record_reader.RecordReader.RecordReader}, Contents.RecordModel, Capture.CaptureReading, RecordReaders.{remaining_text, remaining_records}}
use Rattle.napt_rules.specs.Prelude.{Arrival}
use Rattle.napt_records.specs.{declared.{stream.RecordStream.RecordStream, stream_merger.StreamMerger.StreamMerger}, RecordMerging.{MergedInputs, inputs_from}}

-- Returns the records that were read but not returned, followed by those that the reader gets from the unread text.
abbrev pub reader_rest : RecordReader → List RecordModel → List ℕ → CaptureReading
reader_rest records firsts text = record {
  records = firsts ++ (remaining_records records text).records;
  end = (remaining_records records text).end;
}

-- Returns `known` or, if the end was reached already, the first records. `cut` is true if the end is inside a record.
abbrev pub holds_by : Option Bool → List RecordModel → Option CaptureReading → Option CaptureReading
holds_by (Some cut) firsts known = Some (record { records = firsts; end = Ok cut })
holds_by None firsts known = known

-- Returns the unread part of a stream, if its bytes are known.
abbrev pub stream_holds : {R : Type 0} {G : Ghosts R} → RecordStream R G → Option RecordModel → Option CaptureReading
stream_holds {R} {G} stream first =
    holds_by stream.cut (option_to_list first) (option_map (reader_rest stream.records (option_to_list first))
    (remaining_text stream.records (G.remaining stream.live.source.now)))

abbrev pub merger_rest : ℕ → Option CaptureReading → Option CaptureReading → Option MergedInputs
merger_rest clock (Some a) (Some b) = Some (inputs_from a.end b.end a.records clock b.records)
merger_rest clock _ _ = None

-- Returns the inputs that merging will return, if the bytes of both streams are known.
abbrev pub inputs_of : {R Q : Type 0} {G : Ghosts R} {H : Ghosts Q} → StreamMerger R Q G H → Option MergedInputs
inputs_of both =
    merger_rest both.clock (stream_holds both.inside both.inside_first) (stream_holds both.outside both.outside_first)

-- A known value does not change.
abbrev pub KnownStays : {X : Type 0} → Option X → Option X → Type 0
KnownStays None new = ⊤
KnownStays (Some x) None = ⊥
KnownStays (Some x) (Some y) = y ≡ x

-- These inputs were the first of the unread ones, and the others are still unread.
abbrev pub InputsCameFirst : Option MergedInputs → List Arrival → Option MergedInputs → Type 0
InputsCameFirst None arrivals later = ⊤
InputsCameFirst (Some inputs) arrivals None = ⊥
InputsCameFirst (Some inputs) arrivals (Some later) = inputs
    ≡ record { arrivals = arrivals ++ later.arrivals; end = later.end }

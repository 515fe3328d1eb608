-- The inputs from two captures that are merged as they arrive.
use Rattle.std.specs.Prelude.{◌≡◌, ◌⊎◌, ℕ, ◌+◌, max, Bool, false, All, List, Option, option_to_list, None, Some, IfSome, IsSome, unwrap_or, Result, Ok, Err}
use Rattle.napt_capture.specs.{declared.{device.Source.Ghosts, fault.CaptureFault.CaptureFault}, Contents.RecordModel, Text.IsWritable, Capture.failed_reads}
use Rattle.napt_capture.specs.{Reading.IsReadFault, RecordReaders.RecordsAskSource}
use Rattle.napt_records.specs.{declared.{stream.RecordStream.RecordStream, stream_merger.{StreamMerger.StreamMerger, SideFault.SideFault}}, Output.IsTimely}
use Rattle.napt_records.specs.{UnreadInputs.{InputsCameFirst, KnownStays, inputs_of, stream_holds}, RecordMerging.{TakesRecord, at_end, at_fault, input_of}}
use Rattle.napt_rules.specs.Prelude.{Arrival, Side, Inside, Outside}

-- ONE STREAM

-- No read of the stream failed.
abbrev pub IsStreamLive : {R : Type 0} {G : Ghosts R} → RecordStream R G → Type 0
IsStreamLive stream = stream.live.fault ≡ None

-- The stream still reads from the same reference.
abbrev pub HasSameSource : {R : Type 0} {G : Ghosts R} → RecordStream R G → RecordStream R G → Type 0
HasSameSource old new = new.live.source.ghost_name ≡ old.live.source.ghost_name

-- The number of failed reads of the stream grew by `more`.
abbrev pub CountsFailures : {R : Type 0} {G : Ghosts R} → RecordStream R G → ℕ → RecordStream R G → Type 0
CountsFailures {R} {G} old more new = G.failed new.live.source.now ≡ G.failed old.live.source.now + more

-- No further read of the stream failed.
abbrev pub NoneFailed : {R : Type 0} {G : Ghosts R} → RecordStream R G → RecordStream R G → Type 0
NoneFailed {R} {G} old new = G.failed new.live.source.now ≡ G.failed old.live.source.now

-- Returns whether the capture is known to end inside a record.
abbrev pub cut_of : {R : Type 0} {G : Ghosts R} → RecordStream R G → Bool
cut_of stream = unwrap_or stream.cut false

-- READS OF THE SOURCE

-- The next record of the stream is not known, so that its source must be read.
abbrev pub AsksSource : {R : Type 0} {G : Ghosts R} → RecordStream R G → Option RecordModel → Type 0
AsksSource stream first = ((first ≡ None) × (stream.cut ≡ None)) × RecordsAskSource stream.records

abbrev pub AsksDevice : {R Q : Type 0} {G : Ghosts R} {H : Ghosts Q} → StreamMerger R Q G H → Type 0
AsksDevice both = AsksSource both.inside both.inside_first ⊎ AsksSource both.outside both.outside_first

-- BOTH STREAMS

-- No read failed, and the records that were read but not returned can be written.
abbrev pub IsMergerLive : {R Q : Type 0} {G : Ghosts R} {H : Ghosts Q} → StreamMerger R Q G H → Type 0
IsMergerLive both = (IsStreamLive both.inside × IsStreamLive both.outside)
    × (All IsWritable (option_to_list both.inside_first) × All IsWritable (option_to_list both.outside_first))

abbrev pub AreSame : {R Q : Type 0} {G : Ghosts R} {H : Ghosts Q} → StreamMerger R Q G H → StreamMerger R Q G H →
    Type 0
AreSame old new = HasSameSource old.inside new.inside × HasSameSource old.outside new.outside

-- After both streams have read ahead, the unread inputs are unchanged, and the next record or the end of each is known.
pub record ReadAheadPost {R Q : Type 0} {G : Ghosts R} {H : Ghosts Q} (old new : StreamMerger R Q G H) : Type 0 where
  pub live : IsMergerLive new
  pub inside_count : NoneFailed old.inside new.inside
  pub outside_count : NoneFailed old.outside new.outside
  pub clock : new.clock ≡ old.clock
  pub inside_told : new.inside_first ≡ None → IsSome new.inside.cut
  pub outside_told : new.outside_first ≡ None → IsSome new.outside.cut
  pub inside_stays : KnownStays (stream_holds old.inside old.inside_first) (stream_holds new.inside new.inside_first)
  pub outside_stays : KnownStays (stream_holds old.outside old.outside_first)
      (stream_holds new.outside new.outside_first)

-- Returns the number of failed reads of a side, from a fault and the side of the fault.
abbrev pub failed_by : Side → Side → CaptureFault → ℕ
failed_by Inside Inside fault = let answer : Result (Unit {0}) CaptureFault = Err fault in failed_reads answer
failed_by Outside Outside fault = let answer : Result (Unit {0}) CaptureFault = Err fault in failed_reads answer
failed_by side other fault = 0

-- The next record has this fault, or it could not be read.
pub record NextFault {R Q : Type 0} {G : Ghosts R} {H : Ghosts Q} (old : StreamMerger R Q G H) (fault : SideFault)
    (new : StreamMerger R Q G H) : Type 0 where
  pub inside_count : CountsFailures old.inside (failed_by Inside fault.side fault.fault) new.inside
  pub outside_count : CountsFailures old.outside (failed_by Outside fault.side fault.fault) new.outside
  pub stops : IsReadFault fault.fault (IfSome (inputs_of old) (λ inputs. inputs ≡ at_fault fault.side fault.fault))

abbrev pub ReadsAheadOrMeets : {R Q : Type 0} {G : Ghosts R} {H : Ghosts Q} → StreamMerger R Q G H →
    Result (Unit {0}) SideFault → StreamMerger R Q G H → Type 0
ReadsAheadOrMeets old (Ok done) new = ReadAheadPost old new
ReadsAheadOrMeets old (Err fault) new = NextFault old fault new

-- The next of the records that were read became an input.
pub record NextOk (first other : Option RecordModel) (clock : ℕ) (input : Arrival)
    (first_left other_left : Option RecordModel)
    (now : ℕ) : Type 0 where
  pub side : Side
  pub entry : RecordModel
  pub taken : TakesRecord (option_to_list first) (option_to_list other) (Some (side, entry)) (option_to_list first_left)
      (option_to_list other_left)
  pub clock_is : now ≡ max clock entry.time
  pub input_is : input ≡ input_of side now entry

abbrev pub TakesAny : Option RecordModel → Option RecordModel → ℕ → Option Arrival → Option RecordModel →
    Option RecordModel → ℕ → Type 0
TakesAny first other clock None first_left other_left now = (first ≡ None) × (other ≡ None)
TakesAny first other clock (Some input) first_left other_left now =
    NextOk first other clock input first_left other_left now

-- THE INPUTS THAT ARE RETURNED

pub record Goes {R Q : Type 0} {G : Ghosts R} {H : Ghosts Q} (old : StreamMerger R Q G H) (inputs : List Arrival)
    (new : StreamMerger R Q G H) : Type 0 where
  pub live : IsMergerLive new
  pub inside_count : NoneFailed old.inside new.inside
  pub outside_count : NoneFailed old.outside new.outside
  pub timely : All IsTimely inputs
  pub takes : InputsCameFirst (inputs_of old) inputs (inputs_of new)

-- The merger returned these inputs.
abbrev pub HandsOutInputs : {R Q : Type 0} {G : Ghosts R} {H : Ghosts Q} → StreamMerger R Q G H → List Arrival →
    StreamMerger R Q G H → Type 0
HandsOutInputs old inputs new = AreSame old new × (IsMergerLive old → Goes old inputs new)

-- The end of both captures was reached, and no input remains.
pub record NextEnd {R Q : Type 0} {G : Ghosts R} {H : Ghosts Q} (old new : StreamMerger R Q G H) : Type 0 where
  pub inside_count : NoneFailed old.inside new.inside
  pub outside_count : NoneFailed old.outside new.outside
  pub stops : IfSome (inputs_of old) (λ inputs. inputs ≡ at_end (cut_of new.inside) (Ok (cut_of new.outside)))

-- The merger reported the end, or a fault.
abbrev pub MergeEndsWith : {R Q : Type 0} {G : Ghosts R} {H : Ghosts Q} → StreamMerger R Q G H → Option SideFault →
    StreamMerger R Q G H → Type 0
MergeEndsWith old None new = AreSame old new × (IsMergerLive old → NextEnd old new)
MergeEndsWith old (Some fault) new = AreSame old new × (IsMergerLive old → NextFault old fault new)

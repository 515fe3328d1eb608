-- Captures of which only the headers have been read.
use Rattle.std.specs.Prelude.{◌≡◌, ℕ, List, [], take, drop, Option, None, Some, Ok}
use Rattle.napt_capture.specs.{declared.device.Source.Ghosts, Capture.format_in, Reading.LeavesBytes}
use Rattle.napt_records.specs.declared.{stream.RecordStream.RecordStream, stream_merger.StreamMerger.StreamMerger}

-- The source had these bytes before the header was read, and nothing else has been read.
pub record IsStreamNew {R : Type 0} {G : Ghosts R} (stream : RecordStream R G) (bytes : Option (List ℕ)) : Type 0 where
  pub live : stream.live.fault ≡ None
  pub header : LeavesBytes bytes (G.remaining stream.live.source.now)
      (λ bytes left. (format_in (take 24 bytes) ≡ Ok stream.records.format) × (left ≡ drop 24 bytes))
  pub ahead : stream.records.ahead ≡ []
  pub number : stream.records.number ≡ 1
  pub cut : stream.cut ≡ None

-- Both captures are new, and no record has been read or returned.
pub record IsMergerNew {R Q : Type 0} {G : Ghosts R} {H : Ghosts Q} (both : StreamMerger R Q G H)
    (bytes others : List ℕ) : Type 0 where
  pub inside_begun : IsStreamNew both.inside (Some bytes)
  pub outside_begun : IsStreamNew both.outside (Some others)
  pub inside_first : both.inside_first ≡ None
  pub outside_first : both.outside_first ≡ None
  pub clock : both.clock ≡ 0

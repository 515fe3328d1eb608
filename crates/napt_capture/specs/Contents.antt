-- What contracts see of records and captures, which is everything but the memory that they lie in.
use Rattle.std.specs.Prelude.{ℕ, List, Bool}

-- A record: its time in nanoseconds, its captured bytes, and the original length of the packet.
pub record RecordModel : Type 0 where
  pub time : ℕ
  pub bytes : List ℕ
  pub original : ℕ

-- The records of a capture, and whether the file ends inside a further record.
pub record CaptureModel : Type 0 where
  pub records : List RecordModel
  pub cut : Bool

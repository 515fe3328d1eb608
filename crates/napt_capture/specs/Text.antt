-- The bytes of a capture as it is written: times in nanoseconds, numbers in little-endian order.
use Rattle.std.specs.{Prelude.{ℕ, ◌*◌, ◌/◌, ◌%◌, ◌<◌, ◌≤◌, ◌^◌, List, ◌++◌, length}, List.flat_map}
use Rattle.byteorder.specs.Endian.{little_bytes}
use Rattle.napt_capture.specs.{declared.TheConstants.LARGEST_RECORD, Contents.RecordModel}

-- The magic of nanoseconds, version 2.4, zone 0, significant figures 0, snapshot length, link type 101 (raw IP).
unfoldable pub file_header : List ℕ
file_header =
    little_bytes 4 0xa1b23c4d ++ little_bytes 2 2 ++ little_bytes 2 4 ++ little_bytes 4 0 ++ little_bytes 4 0
    ++ little_bytes 4 LARGEST_RECORD ++ little_bytes 4 101

-- The seconds, the nanoseconds, and the number of bytes twice: as the captured and as the original length.
unfoldable pub record_header : RecordModel → List ℕ
record_header r =
    little_bytes 4 (r.time / 1000000000) ++ little_bytes 4 (r.time % 1000000000)
    ++ little_bytes 4 (length r.bytes) ++ little_bytes 4 (length r.bytes)

unfoldable pub record_text : RecordModel → List ℕ
record_text r = record_header r ++ r.bytes

unfoldable pub text : List RecordModel → List ℕ
text records = file_header ++ flat_map record_text records

-- The record of a whole packet that arrived at this time, in nanoseconds.
abbrev pub entry_of_packet : ℕ → List ℕ → RecordModel
entry_of_packet time packet = record { time = time; bytes = packet; original = length packet }

-- The fields have room for the record: its time is below 2 ^ 32 seconds, and it has at most `LARGEST_RECORD` bytes.
pub record IsWritable (r : RecordModel) : Type 0 where
  pub time : r.time < 2 ^ 32 * 1000000000
  pub bytes : length r.bytes ≤ LARGEST_RECORD

-- The record as it reads back: its original length is the number of its bytes.
abbrev pub as_written : RecordModel → RecordModel
as_written r = record r { original = length r.bytes }

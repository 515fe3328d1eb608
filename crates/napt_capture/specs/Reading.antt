-- What the steps of reading a capture do, as relations of the bytes left in the source before and after them.
use Rattle.std.specs.Prelude.{ℕ, ◌+◌, ◌*◌, ◌^◌, ◌<◌, ◌≤◌, ◌≡◌, ◌⊎◌, ⊤, nat_lt, if◌then◌else◌, min, List, [], ◌++◌, length, take, drop, Option, Some, None, IfSome, Result, Ok, Err}
use Rattle.napt_capture.specs.declared.{TheConstants.{LARGEST_RECORD, MOST_ASKED}, fault.CaptureFault.{CaptureFault, TheVariants.{TooLarge, Read, Memory}}}
use Rattle.napt_capture.specs.declared.{reading.{NextRead.{NextRead, TheVariants.{Whole, End}}, RecordHeader.RecordHeader}, capture_format.CaptureFormat.CaptureFormat}
use Rattle.napt_capture.specs.{Contents.{CaptureModel, RecordModel}, Text.IsWritable}
use Rattle.napt_capture.specs.Capture.{bytes_asked_first, bytes_asked, bytes_asked_for_records, capture_of_bytes, next_in, original_length, read_whole, size_in, format_in, time_of}

-- The fact holds, unless the device or an allocation failed.
abbrev pub IsReadResult : {T : Type 0} → Result T CaptureFault → Type 0 → Type 0
IsReadResult (Err Read) fact = ⊤
IsReadResult (Err Memory) fact = ⊤
IsReadResult _ fact = fact

-- The fact holds, unless the fault is that the device or an allocation failed.
abbrev pub IsReadFault : CaptureFault → Type 0 → Type 0
IsReadFault Read fact = ⊤
IsReadFault Memory fact = ⊤
IsReadFault _ fact = fact

-- If the bytes of the source were known before, those left are known after, and the fact holds for both.
abbrev pub LeavesBytes : Option (List ℕ) → Option (List ℕ) → (List ℕ → List ℕ → Type 0) → Type 0
LeavesBytes None new fact = ⊤
LeavesBytes (Some bytes) None fact = ⊥
LeavesBytes (Some bytes) (Some left) fact = fact bytes left

-- The fields are those of this header, which has no fault, of the record with this number.
pub record HeaderShows (s : CaptureFormat) (number : ℕ) (header : List ℕ) (f : RecordHeader) : Type 0 where
  pub size : size_in s number header ≡ Ok f.captured
  pub time : f.time ≡ time_of s header
  pub original : f.original ≡ original_length s header

-- The bytes read ahead begin with the whole record of this number, and these are the fields of its header.
pub record RecordIsAhead (s : CaptureFormat) (number : ℕ) (ahead : List ℕ) (fields : RecordHeader) : Type 0 where
  pub next : next_in s number ahead
      ≡ Ok (Whole (record {
        time = fields.time;
        bytes = take fields.captured (drop 16 ahead);
        original = fields.original;
      }))
  pub time : fields.time < 2 ^ 32 * 1000000000
  pub captured : fields.captured ≤ LARGEST_RECORD
  pub whole : 16 + fields.captured ≤ length ahead

-- What comes next for a reader that has asked for `asked` bytes: as `next_in`, or `TooLarge` if the limit is exceeded.
abbrev pub next_within : CaptureFormat → ℕ → ℕ → List ℕ → Result NextRead CaptureFault
next_within s asked number text =
    if nat_lt MOST_ASKED (asked + bytes_asked_first s text) then Err TooLarge else next_in s number text

-- The number of header bytes read after `asked` bytes: 16 if these may be asked for, else 0.
abbrev pub header_within : ℕ → ℕ
header_within asked = if nat_lt MOST_ASKED (asked + 16) then 0 else 16

-- The number of bytes consumed is that of a whole record, of all bytes to the end, or of the header with the fault.
abbrev pub TakesBytes : ℕ → Result NextRead CaptureFault → List ℕ → ℕ → Type 0
TakesBytes asked (Ok (Whole entry)) text taken = taken ≡ 16 + length entry.bytes
TakesBytes asked (Ok (End cut)) text taken = drop taken text ≡ []
TakesBytes asked (Err fault) text taken = taken ≡ header_within asked

-- The reader returned what comes next, and consumed no more bytes than it asks for.
pub record NextPost (s : CaptureFormat) (asked number : ℕ) (result : Result NextRead CaptureFault)
    (text left : List ℕ) : Type
    0 where
  pub is : next_within s asked number text ≡ result
  pub taken : ℕ
  pub left_is : left ≡ drop taken text
  pub within : taken ≤ bytes_asked_first s text
  pub room : asked + taken ≤ MOST_ASKED
  pub takes : TakesBytes asked result text taken

-- A whole record lies within the limit of bytes asked for.
abbrev pub IsWithin : ℕ → NextRead → Type 0
IsWithin asked (Whole entry) = asked + (16 + length entry.bytes) ≤ MOST_ASKED
IsWithin asked (End cut) = ⊤

-- At most this many bytes were read.
abbrev pub TakesAtMost : ℕ → List ℕ → List ℕ → Type 0
TakesAtMost most bytes left = (taken : ℕ) × (taken ≤ most) × (left ≡ drop taken bytes)

-- Reading ended with a fault after `records`. These are all records of the file, or the next one would exceed
-- `MOST_ASKED`. The header after them was read, if it may be asked for.
pub record NextErr (s : CaptureFormat) (records more : List RecordModel) (asked : ℕ)
    (bytes left : List ℕ) : Type 0 where
  pub all : (capture_of_bytes bytes).records ≡ records ++ more
  pub asked_is : asked ≡ 24 + bytes_asked_for_records records
  pub last : (more ≡ []) ⊎ (MOST_ASKED < asked + bytes_asked_first s (drop asked bytes))
  pub left_is : left ≡ drop (asked + header_within asked) bytes

-- What is left of a file: nothing after success, and after a fault what follows the header with the fault.
abbrev pub LeavesRest : Result CaptureModel CaptureFault → Result CaptureFormat CaptureFault → List ℕ → List ℕ → Type 0
LeavesRest (Ok contents) header bytes left = left ≡ []
LeavesRest (Err fault) (Err refused) bytes left = left ≡ drop 24 bytes
LeavesRest (Err fault) (Ok s) bytes left =
    (records : List RecordModel) × (more : List RecordModel) ×
    (asked : ℕ) × NextErr s records more asked bytes left

-- The result is that of reading the whole file, and no more bytes were read than that takes.
pub record ReadCapturePost (result : Result CaptureModel CaptureFault) (bytes left : List ℕ) : Type 0 where
  pub is : read_whole bytes ≡ result
  pub takes : TakesAtMost (min MOST_ASKED (bytes_asked bytes)) bytes left
  pub leaves : LeavesRest result (format_in (take 24 bytes)) bytes left

-- Memory was requested for a record: it was granted or refused.
abbrev pub TakesMemory : Result NextRead CaptureFault → Type 0
TakesMemory (Ok (Whole entry)) = ⊤
TakesMemory (Err Memory) = ⊤
TakesMemory other = ⊥

-- Memory is refused only if a record header follows the file header, so that the file has 40 bytes or more.
abbrev pub IsForRecords : Option (List ℕ) → CaptureFault → Type 0
IsForRecords known Memory = IfSome known (λ bytes. 40 ≤ length bytes)
IsForRecords known other = ⊤

-- What comes next is not a record, or is a record that a writer accepts.
abbrev pub IsWritableNext : NextRead → Type 0
IsWritableNext (Whole entry) = IsWritable entry
IsWritableNext (End cut) = ⊤

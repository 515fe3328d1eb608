-- What a reader of records does. Its remaining text is the bytes read ahead, followed by those left in the source.
use Rattle.std.specs.{Prelude.{ℕ, ◌≡◌, Bool, true, false, List, Option, Result, Ok, Err}, Io.KnownBytes.{Keeps, prepend_known}}
use Rattle.napt_capture.specs.declared.{fault.CaptureFault.CaptureFault, reading.NextRead.{NextRead, TheVariants.{Whole, End}}, record_reader.RecordReader.RecordReader}
use Rattle.napt_capture.specs.{declared.capture_format.CaptureFormat.CaptureFormat, Capture.{CaptureReading, records_behind, records_from, next_in, number_behind}}

-- The text that remains, if the bytes left in the source are known.
abbrev pub remaining_text : RecordReader → Option (List ℕ) → Option (List ℕ)
remaining_text records remaining = prepend_known records.ahead remaining

-- What this reader finds next at the front of a text.
abbrev pub next_record : RecordReader → List ℕ → Result NextRead CaptureFault
next_record records text = next_in records.format records.number text

-- All records that this reader finds in a text, and how they end.
abbrev pub remaining_records : RecordReader → List ℕ → CaptureReading
remaining_records records text = records_from records.format records.number 0 text

abbrev pub is_end : Result NextRead CaptureFault → Bool
is_end (Ok (End cut)) = true
is_end _ = false

-- The bytes read ahead do not determine what comes next, so the source is asked.
abbrev pub RecordsAskSource : RecordReader → Type 0
RecordsAskSource records = is_end (next_record records records.ahead) ≡ true

-- The result is what comes next in the text, and it is removed from the text.
abbrev pub HandsOutNext : RecordReader → Result NextRead CaptureFault → List ℕ → List ℕ → Type 0
HandsOutNext records result text left = (next_record records text ≡ result) × (left ≡ records_behind result text)

-- The number of the next record after this result.
abbrev pub next_number : NextRead → ℕ → ℕ
next_number (Whole entry) number = number_behind number
next_number (End cut) number = number

-- The reader returned nothing of the text: what remains, the record number and the format are unchanged.
pub record HandsOutNothing (old : RecordReader) (before : Option (List ℕ)) (new : RecordReader)
    (after : Option (List ℕ)) : Type 0 where
  pub left : Keeps (remaining_text old before) (remaining_text new after)
  pub number : new.number ≡ old.number
  pub format : new.format ≡ old.format

-- The format of an opened reader, or the fault with which it could not be opened.
abbrev pub format_of_reader : Result RecordReader CaptureFault → Result CaptureFormat CaptureFault
format_of_reader (Ok records) = Ok records.format
format_of_reader (Err fault) = Err fault

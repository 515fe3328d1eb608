-- What contracts see of the devices that replace missing inputs and outputs.
use Rattle.std.specs.Prelude.{ℕ, Bool, List, drop}
use Rattle.napt_capture.specs.{Text.file_header, declared.empty_devices.{EmptySource.EmptySource, NullSink.NullSink}}

-- The bytes that reads of the empty capture will return.
abbrev pub bytes_left : EmptySource → List ℕ
bytes_left capture = drop capture.taken file_header

-- Whether nothing was written since the last flush, or at all.
abbrev pub flushed_of : NullSink → Bool
flushed_of nowhere = nowhere.is_flushed

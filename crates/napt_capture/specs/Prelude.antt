-- The definitions of this crate, for one import.
pub use Rattle.napt_capture.specs.Capture.{CaptureReading, bytes_asked_by, bytes_asked_first, bytes_asked, bytes_asked_for_records, capture_of_bytes, capture_by_format, contents_by, entry_in, next_in, number_behind, read_whole, format_in, announced_length, captured_length, fraction_field, records_after_skip, next_by, size_in, format_by, records_behind, original_length, time_of}
pub use Rattle.napt_capture.specs.{Contents.{RecordModel, CaptureModel}, Device.failed_writes, Writing.{PutPost, PutOk, PutErr}}
pub use Rattle.napt_capture.specs.Reading.{LeavesBytes, IsForRecords, LeavesRest, NextPost, ReadCapturePost, IsReadResult, NextErr, TakesAtMost, TakesMemory, next_within, HeaderShows}
pub use Rattle.napt_capture.specs.{RecordReaders.{RecordsAskSource, HandsOutNothing, HandsOutNext, is_end, remaining_text}, declared.reading.RecordHeader.RecordHeader}
pub use Rattle.napt_capture.specs.{CaptureFormats.{long_number, units_per_second}, declared.device.DeviceFault.DeviceFault}
pub use Rattle.napt_capture.specs.{Text.{IsWritable, entry_of_packet, as_written}, declared.fault.WriteFault.WriteFault}
pub use Rattle.napt_capture.specs.declared.{TheConstants.{MOST_ASKED, LARGEST_RECORD}, fault.CaptureFault.CaptureFault}
pub use Rattle.napt_capture.specs.declared.fault.CaptureFault.TheVariants.{NoHeader, TooLarge, Memory}
pub use Rattle.napt_capture.specs.declared.{reading.NextRead.{NextRead, TheVariants.{Whole, End}}, record_reader.RecordReader.RecordReader}
pub use Rattle.napt_capture.specs.declared.capture_format.{NumberOrder.TheVariants.Little, CaptureFormat.CaptureFormat}
pub use Rattle.napt_capture.specs.declared.capture_format.FractionUnit.TheVariants.{Nanosecond}
unfoldable pub use Rattle.napt_capture.specs.{
  Capture.records_from,
  Text.{file_header, record_header, record_text, text},
}

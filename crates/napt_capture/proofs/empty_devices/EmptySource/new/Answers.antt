-- new: the file header is the text of no records, so it has none and reads whole.
use Rattle.std.proofs.{lemmas.{Grind.common_steps, Bool.Decides.nat_tests, List.Elements.All-nil}, Common.{◌≡◌, List, [], subst, false, Ok, arith, append-nil}}
use Rattle.napt_capture.{specs.Prelude.{CaptureReading, capture_of_bytes, RecordModel, IsWritable, file_header, text}, proofs.ReadsBack.{captured_text, length-file_header, read_text}}
use Rattle.napt_capture.proofs.empty_devices.EmptySource.new.Goals as goal

text_of_none : (let none : List RecordModel = [] in text none) ≡ file_header
unfolding text
text_of_none = append-nil file_header

pub returns-clause-holds : goal.returns-clause-holds
returns-clause-holds c =
    let none : CaptureReading = record { records = []; end = Ok false } in
    subst (λ l. capture_of_bytes l ≡ none) text_of_none (captured_text [] (All-nil IsWritable))

pub returns-clause-reads : goal.returns-clause-reads
returns-clause-reads c = grind (arith, common_steps, nat_tests, text_of_none, length-file_header, read_text)

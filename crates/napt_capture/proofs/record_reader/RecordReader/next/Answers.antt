-- next: what comes next in the bytes read ahead comes next in the text.
use Rattle.napt_capture.proofs.NextRecord.{tells_known}
use Rattle.napt_capture.proofs.record_reader.RecordReader.next.Goals as goal

pub returns-clause-next : goal.returns-clause-next
returns-clause-next g c =
    tells_known c.args.self.now c.read_ahead.new.self c.consume.new.self _ _ c.consume.result c.read_ahead.ensures.kept
    c.in_ok-read_ahead.ensures.known c.consume.ensures.next

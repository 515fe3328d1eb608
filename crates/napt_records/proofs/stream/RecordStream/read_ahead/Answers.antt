-- read_ahead: the record that was read is the first of the unread ones, and a fault is that of the unread part.
use Rattle.std.proofs.lemmas.Result.{err_from_is_err_and}
use Rattle.napt_capture.specs.{declared.{fault.CaptureFault.CaptureFault, reading.NextRead.NextRead}, RecordReaders.remaining_text}
use Rattle.napt_records.proofs.ReaderRests.{StopsBy-says, held_refused, held_told, held_whole, untold}
use Rattle.napt_records.proofs.stream.RecordStream.read_ahead.Goals as goal

pub returns-in_err-record-clause-fault : goal.returns-in_err-record-clause-fault
returns-in_err-record-clause-fault g c live =
    let p = err_from_is_err_and c.from_residual.result c.from_residual.ensures.1 in
    let r = c.args.self.now in
    let fault : CaptureFault = c.in_err-record.field-0.0 in
    rw (p.1, p.2, untold c.args.first.now c.if-is_some.ensures, untold r.cut c.if-is_some-2.ensures)
    (StopsBy-says NextRead fault (held_refused r.records
    (remaining_text r.records (g.R.Source.remaining r.live.source.now))
    (remaining_text c.next.new.records (g.R.Source.remaining c.next.new.self.source.now)) fault)
    (c.in_err-record.ensures.next live))

pub returns-in-Whole-clause-rest : goal.returns-in-Whole-clause-rest
returns-in-Whole-clause-rest g c live =
    let told = rw c.in-Whole.is at c.in_ok-record.ensures.next live in
    let number = rw c.in-Whole.is at c.in_ok-record.ensures.number live in
    rw (untold c.args.first.now c.if-is_some.ensures, untold c.args.self.now.cut c.if-is_some-2.ensures)
    (held_whole c.args.self.now.records c.next.new.records _ _ c.in-Whole.record told number
    c.in_ok-record.ensures.format)

pub returns-in-End-clause-rest : goal.returns-in-End-clause-rest
returns-in-End-clause-rest g c live =
    let told = rw c.in-End.is at c.in_ok-record.ensures.next live in
    rw (untold c.args.first.now c.if-is_some.ensures, untold c.args.self.now.cut c.if-is_some-2.ensures)
    (held_told c.args.self.now.records _ _ c.in-End.cut told)

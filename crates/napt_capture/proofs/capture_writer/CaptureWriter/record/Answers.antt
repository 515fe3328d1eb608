-- record: the header is written and then the bytes, or a prefix of both.
use Rattle.std.proofs.lemmas.Result.{err_from_is_err_and}
use Rattle.napt_capture.{specs.Text.record_text, proofs.PutSteps.{Puts-append, PutsFront-longer}}
use Rattle.napt_capture.proofs.capture_writer.CaptureWriter.record.Goals as goal

pub returns-in_err-written-clause-puts : goal.returns-in_err-written-clause-puts
unfolding record_text
returns-in_err-written-clause-puts g c =
    let p = err_from_is_err_and c.from_residual.result c.from_residual.ensures.1 in
    rw (p.1, p.2, ← c.record_header.ensures)
    (PutsFront-longer c.record_header.result c.args.bytes.now c.in_err-written.ensures.puts)

pub returns-clause-puts : goal.returns-clause-puts
unfolding record_text
returns-clause-puts g c =
    rw (← c.record_header.ensures) (Puts-append _ _ _ c.record_header.result c.args.bytes.now c.write_record-2.result
    c.in_ok-written.ensures.puts c.write_record-2.ensures.puts)

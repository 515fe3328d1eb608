-- write_capture: the file header and the records so far are written, and no write failed.
use Rattle.std.proofs.Common.{◌≡◌}
use Rattle.napt_capture.{specs.Writing.PutOk, proofs.PutSteps.text_of_first}
use Rattle.napt_capture.proofs.writing.write_capture.Given as goal

abbrev pub invariant-loop-packet : goal.invariant-loop-packet
invariant-loop-packet g l =
    PutOk 0 (g.W.Sink.contents l.fn.writer) (g.W.Sink.contents l.writer) (text_of_first l.packet-index l.records)
    l.written × (g.W.Sink.failed l.writer ≡ g.W.Sink.failed l.fn.writer)

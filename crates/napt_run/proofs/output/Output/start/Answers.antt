-- start: after a fault of the flush the header has been written, or a prefix of it.
use Rattle.napt_capture.specs.Text.{file_header}
use Rattle.napt_run.proofs.LaterBreaks.{flush_breaks}
use Rattle.napt_run.proofs.output.Output.start.Goals as goal

pub returns-clause-err : goal.returns-clause-err
returns-clause-err g c =
    flush_breaks c.args.self.now c.begin.new.self c.flush.new.self file_header
    c.flush.result c.in_ok-begin.ensures.ok c.flush.ensures.err

-- write: the device gets the text, or some first bytes of it if the write fails.
use Rattle.std.proofs.Common.{List, ℕ, subst}
use Rattle.napt_run.{specs.Outputs.OutputGrows, proofs.InputRowWrites.write_adds}
use Rattle.napt_run.proofs.log_writer.LogWriter.write.Goals as goal

pub returns-in-Ok-clause-text : goal.returns-in-Ok-clause-text
returns-in-Ok-clause-text g c from before at =
    rw c.log_result.ensures (write_adds from before c.args.self.now c.args.text.now c.write_text.new.self
    c.flush.new.self
    c.flush.result at (subst (λ (l : List ℕ). OutputGrows c.args.self.now.output l c.write_text.new.self)
    c.as_bytes.ensures.value c.in-Ok.ensures.ok) c.flush.ensures.ok c.flush.ensures.flushed c.flush.ensures.err)

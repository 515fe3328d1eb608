-- write: the packet becomes a record of the output on its side, and the outcome is counted.
use Rattle.napt_run.proofs.OutcomeWrites.{leaves_inside, leaves_outside}
use Rattle.napt_run.proofs.outcome_writer.OutcomeWriter.write.Goals as goal

pub returns-in-ToOutside-clause-takes : goal.returns-in-ToOutside-clause-takes
returns-in-ToOutside-clause-takes g c =
    rw (c.in-ToOutside.is, ← c.bytes_of.ensures.value, c.result_of_output.ensures) (leaves_outside c.args.time
    c.bytes_of.result.now c.args.self.now c.write_record.new.self c.count.new.self c.write_record.result
    c.write_record.ensures.ok
    c.write_record.ensures.err (rw (c.in-ToOutside.is, ← c.bytes_of.ensures.value) at c.count.ensures))

pub returns-in-ToInside-clause-takes : goal.returns-in-ToInside-clause-takes
returns-in-ToInside-clause-takes g c =
    rw (c.in-ToInside.is, ← c.bytes_of-in-ToInside.ensures.value, c.result_of_output-in-ToInside.ensures)
    (leaves_inside c.args.time
    c.bytes_of-in-ToInside.result.now c.args.self.now c.write_record-in-ToInside.new.self c.count.new.self
    c.write_record-in-ToInside.result c.write_record-in-ToInside.ensures.ok c.write_record-in-ToInside.ensures.err
    (rw (c.in-ToInside.is, ← c.bytes_of-in-ToInside.ensures.value) at c.count.ensures))

-- write_record: a record without earlier bytes fits the greatest capture.
use Rattle.std.proofs.Common.{arith}
use Rattle.napt_records.proofs.Texts.{length-record}
use Rattle.napt_run.proofs.output.Output.write_record.Goals as goal

pub record-requires-clause-room : goal.record-requires-clause-room
record-requires-clause-room g c = omega (
  arith,
  c.requires,
  c.nothing.ensures,
  length-record c.min.result c.args.bytes.now,
)

-- put_record: a capture that is not too long so far has room for one more record.
use Rattle.std.proofs.Common.{arith}
use Rattle.napt_records.proofs.Texts.{length-record}
use Rattle.explain.proofs.follow_command.put_record.Goals as goal

pub record-requires-clause-room : goal.record-requires-clause-room
record-requires-clause-room g c = omega (
  arith,
  length-record c.input.inside.time c.deref.result.now,
  c.if-before-le-MOST_BEFORE.true,
  c.bytes-before.ensures,
  c.deref.type_inv,
)

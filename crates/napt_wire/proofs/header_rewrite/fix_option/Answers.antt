-- fix_option: without a change the checksum stays the same.
use Rattle.std.proofs.Common.{arith}
use Rattle.napt_wire.specs.Checksum.{canon}
use Rattle.napt_wire.proofs.header_rewrite.fix_option.Goals as goal

pub returns-in-None : goal.returns-in-None
unfolding canon
returns-in-None c = rw c.in-None.is (omega arith)

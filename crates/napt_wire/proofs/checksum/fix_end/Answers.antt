-- fix_end: the updates for the address and for the number are the update for an end.
use Rattle.std.proofs.Common.{arith}
use Rattle.napt_wire.specs.Checksum.{canon}
use Rattle.napt_wire.proofs.checksum.fix_end.Goals as goal

pub returns : goal.returns
unfolding canon
returns c = omega (arith, c.fix_check.ensures, c.fix_address-fixed.ensures)

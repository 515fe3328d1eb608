-- read: the bytes that were read satisfy the invariant of a packet.
use Rattle.std.proofs.{Common.arith, lemmas.{Grind.common_steps, Bool.Decides.nat_tests}}
use Rattle.napt_wire.proofs.ReadingChecks.{reads_again}
use Rattle.napt_wire.proofs.packet.Packet.read.Goals as goal

pub invariant_of-result : goal.invariant_of-result
invariant_of-result c = grind (arith, common_steps, nat_tests, reads_again)

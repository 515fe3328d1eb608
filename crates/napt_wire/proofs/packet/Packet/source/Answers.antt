-- source: the number of the source can be carried.
use Rattle.std.proofs.{Common.arith, lemmas.{Grind.common_steps, Bool.Decides.nat_tests}}
use Rattle.napt_wire.{specs.Prelude.source, proofs.PacketNumbers.source-carried}
use Rattle.napt_wire.proofs.packet.Packet.source.Goals as goal

-- A packet has a source number that its kind can carry.
pub returns-clause-carried : goal.returns-clause-carried
unfolding source
returns-clause-carried c = grind (arith, common_steps, nat_tests, source-carried)

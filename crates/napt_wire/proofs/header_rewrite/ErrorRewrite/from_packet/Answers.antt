-- from_packet: the words to replace are those of the definition.
use Rattle.std.proofs.{Common.arith, lemmas.{Grind.common_steps, Bool.Decides.nat_tests}}
use Rattle.napt_wire.specs.Rewriting.{reverted_changes}
use Rattle.napt_wire.proofs.header_rewrite.ErrorRewrite.from_packet.Goals as goal

pub returns : goal.returns
unfolding reverted_changes
returns c = grind (arith, common_steps, nat_tests)

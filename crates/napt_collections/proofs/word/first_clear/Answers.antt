-- first_clear: the trailing ones after the lower bits are set end at the first clear bit.
use Rattle.std.proofs.{lemmas.{Grind.common_steps, Bool.Decides.nat_tests}, Common.arith}
use Rattle.napt_collections.proofs.Words.{all_set, first_is, filled_small}
use Rattle.napt_collections.proofs.word.first_clear.Goals as goal

pub returns-then-filled : goal.returns-then-filled
returns-then-filled c = all_set c.args.word c.args.from c.requires (c.if-filled.true)

pub returns-else-filled : goal.returns-else-filled
returns-else-filled c = grind (arith, common_steps, nat_tests, first_is, filled_small)

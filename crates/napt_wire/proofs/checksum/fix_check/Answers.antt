-- fix_check: the folded sum of RFC 1624 is congruent to the sum modulo 65535, and the result is the least such number.
use Rattle.std.proofs.{lemmas.{Grind.common_steps, Bool.Decides.nat_tests, Nat.and_mask}, Common.{arith, bit_and}}
use Rattle.napt_wire.specs.Checksum.{canon}
use Rattle.napt_wire.proofs.checksum.fix_check.Goals as goal

pub returns-then-folded-eq0 : goal.returns-then-folded-eq0
unfolding canon
returns-then-folded-eq0 c = grind (arith, common_steps, nat_tests, bit_and, and_mask)

pub returns : goal.returns
unfolding canon
returns c = grind (arith, common_steps, nat_tests, bit_and, and_mask)

-- add_padded: the text gets zeros up to the width, and then the digits of the number.
use Rattle.std.proofs.{lemmas.{Grind.common_steps, Bool.Decides.nat_tests}, Common.{arith, append_assoc}}
use Rattle.napt_log_text.specs.Times.{padded}
use Rattle.napt_log_text.proofs.digits.add_padded.Goals as goal

pub returns : goal.returns
unfolding padded
returns c = grind (arith, common_steps, nat_tests, append_assoc)

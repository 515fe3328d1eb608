-- add_shortage: the text gets the row of a shortage.
use Rattle.std.proofs.{Common.{arith, append_assoc}, lemmas.{Grind.common_steps, Bool.Decides.nat_tests}}
use Rattle.napt_log_text.proofs.event.add_shortage.Goals as goal

pub returns : goal.returns
returns c = grind (arith, common_steps, nat_tests, append_assoc)

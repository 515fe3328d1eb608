-- add_binding: the text gets the fields of a binding, and a comma.
use Rattle.std.proofs.{Common.{arith, append_assoc}, lemmas.{Grind.common_steps, Bool.Decides.nat_tests}}
use Rattle.napt_log_text.proofs.event.add_binding.Goals as goal

pub returns : goal.returns
returns c = grind (arith, common_steps, nat_tests, append_assoc)

-- add_times: the text gets both times of a binding.
use Rattle.std.proofs.{Common.{arith, append_assoc}, lemmas.{Grind.common_steps, Bool.Decides.nat_tests}}
use Rattle.napt_log_text.proofs.holder.add_times.Goals as goal

pub returns : goal.returns
returns c = grind (arith, common_steps, nat_tests, append_assoc)

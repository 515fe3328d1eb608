-- add_binding: the text gets the line of a holder without its end.
use Rattle.std.proofs.{Common.{arith, append_assoc}, lemmas.{Grind.common_steps, Bool.Decides.nat_tests}}
use Rattle.napt_log_text.specs.Holders.{holder_text}
use Rattle.napt_log_text.proofs.holder.add_binding.Goals as goal

pub returns : goal.returns
unfolding holder_text
returns c = grind (arith, common_steps, nat_tests, append_assoc)

-- add_clock: the text gets hours, minutes and seconds with two digits each.
use Rattle.std.proofs.{Common.{arith, append_assoc}, lemmas.{Grind.common_steps, Bool.Decides.nat_tests}}
use Rattle.napt_log_text.specs.Times.{clock_text}
use Rattle.napt_log_text.proofs.time_stamp.add_clock.Goals as goal

pub returns : goal.returns
unfolding clock_text
returns c = grind (arith, common_steps, nat_tests, append_assoc)

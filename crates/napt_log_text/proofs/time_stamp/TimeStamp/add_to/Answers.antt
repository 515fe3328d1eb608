-- add_to: the text gets the seconds, and the date in brackets if there is one.
use Rattle.std.proofs.{Common.{arith, append_assoc}, lemmas.{Grind.common_steps, Bool.Decides.nat_tests}}
use Rattle.napt_log_text.specs.Times.{moment_text}
use Rattle.napt_log_text.proofs.time_stamp.TimeStamp.add_to.Goals as goal

pub returns : goal.returns
unfolding moment_text
returns c = grind (arith, common_steps, nat_tests, append_assoc)

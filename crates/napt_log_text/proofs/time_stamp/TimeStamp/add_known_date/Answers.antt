-- add_known_date: the text gets the date and the time of day.
use Rattle.std.proofs.{Common.{arith, append_assoc}, lemmas.{Grind.common_steps, Bool.Decides.nat_tests}}
use Rattle.napt_log_text.specs.Times.{date_text}
use Rattle.napt_log_text.proofs.time_stamp.TimeStamp.add_known_date.Goals as goal

pub returns : goal.returns
unfolding date_text
returns c = grind (arith, common_steps, nat_tests, append_assoc)

-- add_to: the text gets the year, the month and the day with hyphens between them.
use Rattle.std.proofs.{Common.{arith, append_assoc}, lemmas.{Grind.common_steps, Bool.Decides.nat_tests}}
use Rattle.napt_log_text.specs.Times.{day_text}
use Rattle.napt_log_text.proofs.date.Date.add_to.Goals as goal

pub returns : goal.returns
unfolding day_text
returns c = grind (arith, common_steps, nat_tests, append_assoc)

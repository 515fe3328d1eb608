-- from_year: counting month by month leads to the day of the definition.
use Rattle.std.proofs.{lemmas.{Grind.common_steps, Bool.Decides.nat_tests}, Common.{sym, arith}}
use Rattle.napt_log_text.proofs.Days.{lasts, to_month, to_year, left_over}
use Rattle.napt_log_text.proofs.date.Date.from_year.Goals as goal

pub loop-left-preserved-then-month-lt12 : goal.loop-left-preserved-then-month-lt12
loop-left-preserved-then-month-lt12 c = grind (arith, common_steps, nat_tests, to_month)

pub loop-left-preserved : goal.loop-left-preserved
loop-left-preserved c = grind (arith, common_steps, nat_tests, lasts, to_year)

pub returns : goal.returns
returns c begin is = sym (left_over begin c.args.days c.loop-left.left c.month_length.result c.loop-left.year
    c.loop-left.month c.month_length.ensures c.loop-left-test.false c.loop-left.invariant.fewer
    (c.loop-left.invariant.first begin is))

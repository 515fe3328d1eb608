-- from_year: the first day of the month is after the start by the number of days that were already subtracted.
use Rattle.std.proofs.Common.{ℕ, ◌≡◌, ◌+◌, ◌-◌, ◌≤◌}
use Rattle.napt_log_text.specs.Calendar as calendar
use Rattle.napt_log_text.proofs.date.Date.from_year.Given as goal

abbrev pub invariant-loop-left : goal.invariant-loop-left
invariant-loop-left l = record {
  months : (1 ≤ l.month) × (l.month ≤ 12);
  within : l.year + l.left ≤ l.fn.year + l.fn.days;
  fewer : l.left ≤ l.fn.days;
  first : (begin : ℕ) → calendar.date_on begin ≡ calendar.first_of_month l.fn.year 1 →
      calendar.date_on (begin + (l.fn.days - l.left)) ≡ calendar.first_of_month l.year l.month;
}

abbrev pub decreases-loop-left : goal.decreases-loop-left
decreases-loop-left l = l.left

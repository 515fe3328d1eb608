-- from_days: the year does not begin after the day, and the days since its beginning lead to the day.
use Rattle.std.proofs.Common.{ℕ, ◌≡◌, ◌+◌, ◌-◌, ◌*◌, ◌≤◌, ◌/◌, ◌∙◌, ap, sym, subst, arith}
use Rattle.napt_log_text.specs.Calendar as calendar
use Rattle.napt_log_text.proofs.Days.{new_years_day, no_longer}
use Rattle.napt_log_text.proofs.date.Date.from_days.Goals as goal

pub returns : goal.returns
returns c =
    let years : ℕ = c.args.days / 366 in
    let is : c.days_before.result ≡ calendar.days_before (1970 + years) = c.days_before.ensures in
    let few : c.days_before.result ≤ 366 * years =
    subst (λ (n : ℕ). n ≤ 366 * years) (sym is) (no_longer years) in
    let same : c.days_before.result + (c.args.days - c.days_before.result) ≡ c.args.days = omega arith in
    let begins : calendar.date_on c.days_before.result ≡ calendar.first_of_month (1970 + years) 1 =
    subst (λ (n : ℕ). calendar.date_on n ≡ calendar.first_of_month (1970 + years) 1) (sym is)
    (new_years_day years) in
    c.from_year.ensures c.days_before.result begins ∙ ap calendar.date_on same

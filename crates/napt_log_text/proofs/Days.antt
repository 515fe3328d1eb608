-- Steps from day to day: within a month, to the next month, and to the next year.
use Rattle.std.proofs.Common.{ℕ, zero, suc, ◌≡◌, ◌+◌, ◌-◌, ◌*◌, ◌≤◌, ◌<◌, ◌∙◌, Bool, true, false, cond, nat_lt, refl, ap, subst, arith, sym}
use Rattle.std.proofs.lemmas.Bool.{lt-ltb, le-ltb, Decides.nat_tests}
use Rattle.napt_log_text.specs.declared.date.Date.{Date}
use Rattle.napt_log_text.specs.Calendar.{is_leap, month_length, first_of_month, first_after, next_day, date_on, year_length, days_before}

pub lasts : (year month : ℕ) → 28 ≤ month_length year month
lasts year month = grind (arith, nat_tests)

step : (days : ℕ) (date : Date) → date_on days ≡ date → date_on (suc days) ≡ next_day date
unfolding date_on
step days date is = rw is refl

-- A later day of the same month.
pub same_month : (days year month more : ℕ) → date_on days ≡ first_of_month year month →
    more < month_length year month →
    date_on (days + more) ≡ record { year = year; month = month; day = more + 1 }
same_month days year month zero is within =
    let none : days + 0 ≡ days = omega arith in rw none is
same_month days year month (suc more) is within =
    let before : date_on (days + more) ≡ record { year = year; month = month; day = more + 1 } =
    same_month days year month more is (omega arith) in
    let after : days + suc more ≡ suc (days + more) = omega arith in
    let test : nat_lt (more + 1) (month_length year month) ≡ true = lt-ltb _ _ (omega arith) in
    let day : more + 1 + 1 ≡ suc more + 1 = omega arith in
    rw after (step (days + more) _ before ∙ rw (test, day) refl)

-- The first day of the next month.
pub next_month : (days year month : ℕ) → date_on days ≡ first_of_month year month →
    date_on (days + month_length year month) ≡ first_after year month
next_month days year month is =
    let long : 28 ≤ month_length year month = lasts year month in
    let before : date_on (days + (month_length year month - 1))
    ≡ record { year = year; month = month; day = (month_length year month - 1) + 1 } =
    same_month days year month (month_length year month - 1) is (omega arith) in
    let after : days + month_length year month ≡ suc (days + (month_length year month - 1)) = omega arith in
    let test : nat_lt ((month_length year month - 1) + 1) (month_length year month) ≡ false =
    le-ltb _ _ (omega arith) in
    subst (λ (n : ℕ). date_on n ≡ first_after year month) (sym after)
    (step (days + (month_length year month - 1)) _ before
    ∙ ap (λ (b : Bool). cond b
    (let d : Date = record { year = year; month = month; day = (month_length year month - 1) + 1 + 1 } in d)
    (first_after year month)) test)

-- The steps are the same over the days of a span of which some remain.
months_on : (begin days left long year month : ℕ) → long ≡ month_length year month → long ≤ left → left ≤ days →
    date_on (begin + (days - left)) ≡ first_of_month year month →
    date_on (begin + (days - (left - long))) ≡ first_after year month
months_on begin days left long year month is fits fewer first =
    let later : begin + (days - (left - long)) ≡ (begin + (days - left)) + long = omega arith in
    subst (λ (n : ℕ). date_on n ≡ first_after year month) (sym later)
    (subst (λ (n : ℕ). date_on ((begin + (days - left)) + n) ≡ first_after year month) (sym is)
    (next_month (begin + (days - left)) year month first))

pub to_month : (begin days left long year month : ℕ) → long ≡ month_length year month → long ≤ left → left ≤ days →
    month < 12 → date_on (begin + (days - left)) ≡ first_of_month year month →
    date_on (begin + (days - (left - long))) ≡ first_of_month year (month + 1)
to_month begin days left long year month is fits fewer within first =
    let test : nat_lt month 12 ≡ true = lt-ltb month 12 within in
    months_on begin days left long year month is fits fewer first
    ∙ ap (λ (b : Bool). cond b (first_of_month year (month + 1)) (first_of_month (year + 1) 1)) test

pub to_year : (begin days left long year month : ℕ) → long ≡ month_length year month → long ≤ left → left ≤ days →
    12 ≤ month → date_on (begin + (days - left)) ≡ first_of_month year month →
    date_on (begin + (days - (left - long))) ≡ first_of_month (year + 1) 1
to_year begin days left long year month is fits fewer behind first =
    let test : nat_lt month 12 ≡ false = le-ltb month 12 behind in
    months_on begin days left long year month is fits fewer first
    ∙ ap (λ (b : Bool). cond b (first_of_month year (month + 1)) (first_of_month (year + 1) 1)) test

-- The last days of a span, if they are all in one month.
pub left_over : (begin days left long year month : ℕ) → long ≡ month_length year month → left < long → left ≤ days →
    date_on (begin + (days - left)) ≡ first_of_month year month →
    date_on (begin + days) ≡ record { year = year; month = month; day = left + 1 }
left_over begin days left long year month is within fewer first =
    let same : begin + days ≡ (begin + (days - left)) + left = omega arith in
    subst (λ (n : ℕ). date_on n ≡ (let d : Date = record { year = year; month = month; day = left + 1 } in d))
    (sym same)
    (same_month (begin + (days - left)) year month left first (subst (λ (n : ℕ). left < n) is within))

months_together : (days : ℕ) (leap : Bool) → days + cond leap 366 365
    ≡ days + 31 + cond leap 29 28 + 31 + 30 + 31 + 30 + 31 + 31 + 30 + 31 + 30 + 31
months_together days true = omega arith
months_together days false = omega arith

pub next_year : (days year : ℕ) → date_on days ≡ first_of_month year 1 →
    date_on (days + year_length year) ≡ first_of_month (year + 1) 1
next_year days year is =
    let feb : ℕ = cond (is_leap year) 29 28 in
    let m2 : date_on (days + 31) ≡ first_of_month year 2 = next_month days year 1 is in
    let m3 : date_on (days + 31 + feb) ≡ first_of_month year 3 = next_month _ year 2 m2 in
    let m4 : date_on (days + 31 + feb + 31) ≡ first_of_month year 4 = next_month _ year 3 m3 in
    let m5 : date_on (days + 31 + feb + 31 + 30) ≡ first_of_month year 5 = next_month _ year 4 m4 in
    let m6 : date_on (days + 31 + feb + 31 + 30 + 31) ≡ first_of_month year 6 = next_month _ year 5 m5 in
    let m7 : date_on (days + 31 + feb + 31 + 30 + 31 + 30) ≡ first_of_month year 7 = next_month _ year 6 m6 in
    let m8 : date_on (days + 31 + feb + 31 + 30 + 31 + 30 + 31) ≡ first_of_month year 8 = next_month _ year 7 m7 in
    let m9 : date_on (days + 31 + feb + 31 + 30 + 31 + 30 + 31 + 31) ≡ first_of_month year 9 = next_month _ year 8 m8 in
    let m10 : date_on (days + 31 + feb + 31 + 30 + 31 + 30 + 31 + 31 + 30) ≡ first_of_month year 10 =
    next_month _ year 9 m9 in
    let m11 : date_on (days + 31 + feb + 31 + 30 + 31 + 30 + 31 + 31 + 30 + 31) ≡ first_of_month year 11 =
    next_month _ year 10 m10 in
    let m12 : date_on (days + 31 + feb + 31 + 30 + 31 + 30 + 31 + 31 + 30 + 31 + 30) ≡ first_of_month year 12 =
    next_month _ year 11 m11 in
    subst (λ (n : ℕ). date_on n ≡ first_of_month (year + 1) 1) (sym (months_together days (is_leap year)))
    (next_month _ year 12 m12)

longer : (more : ℕ) → days_before (1971 + more) ≡ days_before (1970 + more) + year_length (1970 + more)
longer more = grind (arith, nat_tests)

pub new_years_day : (more : ℕ) → date_on (days_before (1970 + more)) ≡ first_of_month (1970 + more) 1
unfolding date_on
new_years_day zero = refl
new_years_day (suc more) =
    let one : 1970 + suc more ≡ 1971 + more = omega arith in
    let other : (1970 + more) + 1 ≡ 1970 + suc more = omega arith in
    subst (λ (y : ℕ). date_on (days_before y) ≡ first_of_month (1970 + suc more) 1) (sym one)
    (subst (λ (n : ℕ). date_on n ≡ first_of_month (1970 + suc more) 1) (sym (longer more))
    (next_year (days_before (1970 + more)) (1970 + more) (new_years_day more)
    ∙ ap (λ (y : ℕ). first_of_month y 1) other))

pub no_longer : (more : ℕ) → days_before (1970 + more) ≤ 366 * more
no_longer more = omega arith

-- The Gregorian calendar (its leap years are in RFC 3339, appendix C), day by day from 1970-01-01.
use Rattle.std.specs.Prelude.{ℕ, zero, suc, ◌+◌, ◌-◌, ◌*◌, ◌/◌, ◌%◌, ◌==◌, nat_lt, Bool, not, ◌&&◌, ◌||◌, if◌then◌else◌}
use Rattle.napt_log_text.specs.declared.date.Date.{Date}

-- Returns whether a year has a leap day: every fourth year has one, except for years that 100 but not 400 divides.
abbrev pub is_leap : ℕ → Bool
is_leap year = (year % 4 == 0) && (not (year % 100 == 0) || (year % 400 == 0))

-- Returns the number of days of a month (RFC 3339, section 5.7).
abbrev pub month_length : ℕ → ℕ → ℕ
month_length year month =
    if month == 2 then (if is_leap year then 29 else 28)
    else (if (month == 4) || ((month == 6) || ((month == 9) || (month == 11))) then 30 else 31)

abbrev pub first_of_month : ℕ → ℕ → Date
first_of_month year month = record { year = year; month = month; day = 1 }

-- Returns the first day of the month after a month.
abbrev pub first_after : ℕ → ℕ → Date
first_after year month =
    if nat_lt month 12 then first_of_month year (month + 1) else first_of_month (year + 1) 1

-- Returns the day after a day.
abbrev pub next_day : Date → Date
next_day date = if nat_lt date.day (month_length date.year date.month) then
    record date { day = date.day + 1 } else first_after date.year date.month

-- Returns the day that is this number of days after 1970-01-01.
unfoldable pub date_on : ℕ → Date
date_on zero = first_of_month 1970 1
date_on (suc days) = next_day (date_on days)

abbrev pub year_length : ℕ → ℕ
year_length year = if is_leap year then 366 else 365

-- Returns the number of leap days in the years from 1 to a year.
abbrev pub leap_days_through : ℕ → ℕ
leap_days_through year = (year / 4 + year / 400) - year / 100

-- Returns the number of days between January 1st of 1970 and that of a later year.
abbrev pub days_before : ℕ → ℕ
days_before year = (365 * (year - 1970) + leap_days_through (year - 1)) - leap_days_through 1969

-- The number of days from 1970-01-01 to 10000-01-01; the years before it have four digits (RFC 3339, section 1).
abbrev pub dated_days : ℕ
dated_days = 2932897

-- The texts of times, given in ns since 1970-01-01 UTC.
use Rattle.std.specs.Prelude.{ℕ, ◌-◌, ◌*◌, ◌/◌, ◌%◌, nat_lt, Bool, List, [], ◌++◌, length, replicate, codes, decimal, if◌then◌else◌}
use Rattle.napt_log_text.specs.{declared.date.Date.Date, Calendar.{date_on, dated_days}}

abbrev pub TimeText : Type 0
TimeText = List ℕ

-- Returns a number in decimal, padded with zeros up to a width.
unfoldable pub padded : ℕ → ℕ → TimeText
padded width number = replicate (width - length (decimal number)) 48 ++ decimal number

abbrev pub ns_per_log_second : ℕ
ns_per_log_second = 1000000000

unfoldable pub day_text : Date → TimeText
day_text date = padded 4 date.year ++ codes "-" ++ padded 2 date.month ++ codes "-" ++ padded 2 date.day

-- Returns a second of the day as hours, minutes and seconds.
unfoldable pub clock_text : ℕ → TimeText
clock_text seconds =
    padded 2 (seconds / 3600) ++ codes ":" ++ padded 2 (seconds / 60 % 60) ++ codes ":" ++ padded 2 (seconds % 60)

-- Returns the date and the time of day in UTC (RFC 3339, section 5.6), always with nine decimals, so that texts are
-- ordered as times.
unfoldable pub date_text : ℕ → TimeText
date_text time =
    day_text (date_on (time / ns_per_log_second / 86400)) ++ codes "T"
    ++ clock_text (time / ns_per_log_second % 86400) ++ codes "."
    ++ padded 9 (time % ns_per_log_second)
    ++ codes "Z"

-- A year of RFC 3339 has four digits.
abbrev pub has_date : ℕ → Bool
has_date time = nat_lt time (dated_days * 86400 * ns_per_log_second)

abbrev pub date_if_any : ℕ → TimeText
date_if_any time = if has_date time then date_text time else []

unfoldable pub seconds_text : ℕ → TimeText
seconds_text time = decimal (time / ns_per_log_second) ++ codes "." ++ padded 9 (time % ns_per_log_second)

abbrev pub date_in_brackets : ℕ → TimeText
date_in_brackets time = if has_date time then codes " (" ++ date_text time ++ codes ")" else []

-- Returns a time in seconds, and its date.
unfoldable pub moment_text : ℕ → TimeText
moment_text time = seconds_text time ++ date_in_brackets time

-- The lines that say who had an external endpoint, and when.
use Rattle.std.specs.Prelude.{ℕ, ◌-◌, ◌==◌, nat_le, Bool, true, false, not, ◌&&◌, is_some, Option, Some, None, unwrap_or, [], ◌++◌, codes, decimal, if◌then◌else◌}
use Rattle.napt_wire.specs.declared.Protocol.{Protocol}
use Rattle.napt_config.specs.{Rules.{Rules, pool_place}, Text.address_text}
use Rattle.napt_records.specs.Report.{protocol_name, endpoint_text}
use Rattle.napt_account.specs.declared.{log.Entry.Entry, party.Party.Party}
use Rattle.napt_log_text.specs.{declared.request.{Request.Request, NearestEntries.NearestEntries, TimeSpan.TimeSpan}, Times.{TimeText, seconds_text, moment_text}}

-- An end after the last packet comes only if no packet does.
abbrev pub end_condition_text : ℕ → ℕ → TimeText
end_condition_text last end = if nat_le end last then [] else codes ", if no packet comes"

abbrev pub times_text : ℕ → ℕ → ℕ → TimeText
times_text last made end =
    codes " from " ++ moment_text made ++ codes " until " ++ moment_text end ++ end_condition_text last end

-- A binding has no end if it is a redirect, or if a saved log is incomplete and does not contain the end.
abbrev pub why_open : Bool → TimeText
why_open true = codes " on, a redirect"
why_open false = codes " on, with no end in the log"

-- The entry of a redirect begins later in a log that another run began.
abbrev pub open_text : Bool → ℕ → TimeText
open_text fixed made = if fixed && (made == 0) then codes " always, a redirect"
    else codes " from " ++ moment_text made ++ why_open fixed

-- Returns the times between which a binding had its endpoint.
abbrev pub span_text : ℕ → Bool → ℕ → Option ℕ → TimeText
span_text last fixed made None = open_text fixed made
span_text last fixed made (Some end) = times_text last made end

unfoldable pub holder_text : ℕ → Entry → TimeText
holder_text last entry =
    protocol_name entry.binding.protocol ++ codes " " ++ endpoint_text entry.binding.inside ++ codes " at "
    ++ endpoint_text entry.binding.external
    ++ span_text last entry.binding.fixed entry.made entry.end

abbrev pub holder_line : ℕ → Entry → TimeText
holder_line last entry = holder_text last entry ++ codes "\n"

-- Returns the beginning of each line of a request that is one of several.
abbrev pub mark_text : ℕ → TimeText
mark_text number = decimal number ++ codes ": "

-- NOBODY

abbrev pub number_text : Option ℕ → TimeText
number_text None = []
number_text (Some number) = codes ":" ++ decimal number

abbrev pub party_text : Party → TimeText
party_text party = address_text party.address ++ number_text party.number

abbrev pub protocol_text : Option Protocol → TimeText
protocol_text None = []
protocol_text (Some protocol) = protocol_name protocol ++ codes " "

-- Returns whether a span is one ns.
abbrev pub is_single : TimeSpan → Bool
is_single span = span.until - 1 == span.first

-- Returns a single ns, or the two times of the span.
abbrev pub asked_text : Option TimeSpan → TimeText
asked_text None = []
asked_text (Some span) = if is_single span then codes " at " ++ moment_text span.first
    else codes " from " ++ moment_text span.first ++ codes " until " ++ moment_text span.until

-- Returns the distance of a holder's entry from a span, in ns, and the entry.
abbrev pub near_text : ℕ → TimeText → ℕ → Entry → TimeText
near_text apart words last entry = codes "; " ++ seconds_text apart ++ words ++ holder_text last entry

-- Returns the last holder before a span, and how long before it the holder's binding had ended.
abbrev pub before_text : TimeSpan → ℕ → Option Entry → TimeText
before_text span last None = []
before_text span last (Some entry) =
    near_text (span.first - unwrap_or entry.end 0) (codes " s before: ") last entry

-- Returns the last time in the text of a span.
abbrev pub shown_last : TimeSpan → ℕ
shown_last span = if is_single span then span.first else span.until

-- Returns the first holder after a span, and how long after it the holder's binding was made.
abbrev pub after_text : TimeSpan → ℕ → Option Entry → TimeText
after_text span last None = []
after_text span last (Some entry) = near_text (entry.made - shown_last span) (codes " s after: ") last entry

abbrev pub nearest_text : Option TimeSpan → ℕ → NearestEntries → TimeText
nearest_text None last nearest = []
nearest_text (Some span) last nearest = before_text span last nearest.before ++ after_text span last nearest.after

-- Returns whether an address is known not to be in the pool; without a configuration none is.
abbrev pub is_foreign : Option Rules → ℕ → Bool
is_foreign None address = false
is_foreign (Some rules) address = not (is_some (pool_place rules address))

abbrev pub reason_text : Option Rules → ℕ → Request → NearestEntries → TimeText
reason_text rules last request nearest =
    if is_foreign rules request.party.address then codes ": it is no address of the pool"
    else asked_text request.at ++ nearest_text request.at last nearest

unfoldable pub nobody_line : Option Rules → ℕ → Request → NearestEntries → TimeText
nobody_line rules last request nearest =
    codes "nobody had " ++ protocol_text request.protocol ++ party_text request.party
    ++ reason_text rules last request nearest
    ++ codes "\n"

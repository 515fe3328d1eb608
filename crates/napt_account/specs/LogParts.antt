-- The part that each input adds to the log, and the entries that are open after it.
use Rattle.std.specs.Prelude.{◌≤◌, ℕ, ◌+◌, nat_lt, Bool, true, false, not, ◌&&◌, ◌||◌, cond, length, List, [], ◌∷◌, drop, filter, Option, Some, None}
use Rattle.napt_rules.specs.Prelude.{Each}
use Rattle.napt_binding.specs.Ends.{is_before}
use Rattle.napt_account.specs.{declared.log.{LogEntry.LogEntry, Shortage.Shortage}, Log.LogModel}

-- Returns whether the entry has not ended by a time.
abbrev pub is_open : ℕ → LogEntry → Bool
is_open now numbered = is_before now numbered.entry.end

-- Returns whether the entry ends after a time, and by another.
abbrev pub ends_within : ℕ → ℕ → LogEntry → Bool
ends_within was now numbered = is_open was numbered && not (is_open now numbered)

-- Returns whether an end is before another; a redirect has no end, so that it comes last.
abbrev pub is_sooner : Option ℕ → Option ℕ → Bool
is_sooner (Some end) (Some other) = nat_lt end other
is_sooner (Some end) None = true
is_sooner None other = false

-- Returns whether an entry is before another, by end and, at equal ends, by number.
abbrev pub ends_first : LogEntry → LogEntry → Bool
ends_first numbered other = is_sooner numbered.entry.end other.entry.end
    || (not (is_sooner other.entry.end numbered.entry.end) && nat_lt numbered.number other.number)

-- Inserts an entry before the first one that it is before.
abbrev pub placed : LogEntry → List LogEntry → List LogEntry
placed numbered [] = numbered ∷ []
placed numbered (other ∷ others) =
    cond (ends_first numbered other) (numbered ∷ other ∷ others) (other ∷ placed numbered others)

abbrev pub in_order_of_end : List LogEntry → List LogEntry
in_order_of_end [] = []
in_order_of_end (numbered ∷ more) = placed numbered (in_order_of_end more)

-- The part that an input adds to the log.
pub record LogDelta : Type 0 where
  -- The entries that ended since the time of the input before.
  pub ended : List LogEntry
  -- The entries that the input made.
  pub made : List LogEntry
  pub refused : List Shortage

-- Returns whether the number of an entry is above the number of earlier entries.
abbrev pub is_after : ℕ → LogEntry → Bool
is_after made numbered = nat_lt made numbered.number

-- Returns the part between the log at a time and the log after an input at a later time, both in ns.
abbrev pub part_between : ℕ → ℕ → LogModel → LogModel → LogDelta
part_between was now earlier later = record {
  ended = in_order_of_end (filter (ends_within was now) earlier.entries);
  made = filter (is_after earlier.made) later.entries;
  refused = drop (length earlier.shortages) later.shortages;
}

-- Returns the entries that have not ended by a time, in ns, sorted by end.
abbrev pub living_at : ℕ → LogModel → List LogEntry
living_at now log = in_order_of_end (filter (is_open now) log.entries)

-- Returns the log of the entries that are open at a time, in ns, with which a run can continue.
abbrev pub kept_at : ℕ → LogModel → LogModel
kept_at now log = record log { entries = filter (is_open now) log.entries; shortages = [] }

-- The numbers of the entries are among those that the log has assigned.
abbrev pub IsNumbered : LogModel → Type 0
IsNumbered log = Each (λ numbered. numbered.number ≤ log.made) log.entries

-- The numbers of the entries ascend, and are at least the given one.
abbrev pub NumbersAscend : ℕ → List LogEntry → Type 0
NumbersAscend number [] = Unit {0}
NumbersAscend number (numbered ∷ more) = (number ≤ numbered.number) × NumbersAscend (numbered.number + 1) more

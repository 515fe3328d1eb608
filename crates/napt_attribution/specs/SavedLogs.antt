-- The entries in the rows of a saved log: the bindings that rows make, each with the end that a row has for its number.
use Rattle.std.specs.{Prelude.{◌≡◌, ℕ, ◌==◌, ◌<◌, ◌≤◌, Bool, true, false, not, ◌&&◌, cond, List, [], ◌∷◌, ◌++◌, map, filter, Option, Some, None}, Option.{is_some, option_or}, BTreeMap.get, Ordering.nat_cmp}
use Rattle.napt_rules.specs.{Prelude.Each, declared.Row.Row}
use Rattle.napt_account.specs.{declared.log.{Entry.Entry, LogEntry.LogEntry}, Log.unused_entry, LogParts.NumbersAscend}
use Rattle.napt_log_text.specs.declared.event.LogEvent.{LogEvent, TheVariants.{Made, Repeated, Ended, Living, Refused}}
use Rattle.napt_attribution.specs.{RequestParties.{AreEndpointsAskedAbout, is_asked_about}, declared.{requests.HolderRequest.HolderRequest, kept_entries.KeptEntries.KeptEntries, saved_rows.SavedRows.SavedRows}}

-- Returns the entries of the bindings that rows make or repeat, in their order.
abbrev pub made_in : List LogEvent → List LogEntry
made_in [] = []
made_in (Made listed ∷ events) = listed ∷ made_in events
made_in (Repeated listed ∷ events) = listed ∷ made_in events
made_in (_ ∷ events) = made_in events

abbrev pub end_told : LogEntry → ℕ → Option ℕ → Option ℕ
end_told listed number later = cond (listed.number == number) (option_or listed.entry.end later) later

-- Returns the first end that a row records for a number, if there is one.
abbrev pub row_end_among : List LogEvent → ℕ → Option ℕ
row_end_among [] number = None
row_end_among (Ended listed ∷ events) number = end_told listed number (row_end_among events number)
row_end_among (Living listed ∷ events) number = end_told listed number (row_end_among events number)
row_end_among (_ ∷ events) number = row_end_among events number

-- Returns an entry without its counts, and with this end.
abbrev pub bare_entry : Option ℕ → LogEntry → LogEntry
bare_entry end listed = record listed { entry = unused_entry listed.entry.binding listed.entry.made end }

-- Returns the entries that rows record.
abbrev pub entries_in : List LogEvent → List LogEntry
entries_in events = map (λ listed. bare_entry (row_end_among events listed.number) listed) (made_in events)

-- Returns the entries that requests ask about.
abbrev pub asked_entries : List HolderRequest → List LogEntry → List Entry
asked_entries asked entries =
    map (λ listed. listed.entry) (filter (λ listed. is_asked_about asked listed.entry.binding.external) entries)

-- ENTRIES THAT ARE RETAINED while rows are read

-- Returns the entry of a number.
abbrev pub entry_of : List LogEntry → ℕ → Option Entry
entry_of [] number = None
entry_of (listed ∷ more) number = cond (listed.number == number) (Some listed.entry) (entry_of more number)

-- Returns an entry if it passes a test.
abbrev pub entry_if : (Entry → Bool) → Option Entry → Option Entry
entry_if test None = None
entry_if test (Some entry) = cond (test entry) (Some entry) None

abbrev pub has_no_end : Entry → Bool
has_no_end entry = not (is_some entry.end)

abbrev pub is_ended_and_asked : List HolderRequest → Entry → Bool
is_ended_and_asked asked entry = is_some entry.end && is_asked_about asked entry.binding.external

-- The maps contain exactly the entries without an end, and the ended entries that requests ask about.
pub record TracksEntries (asked : List HolderRequest) (kept : KeptEntries) (entries : List LogEntry) : Type 0 where
  pub wanted : AreEndpointsAskedAbout asked kept.wanted
  pub rising : NumbersAscend 1 entries
  pub unended : (number : ℕ) → get nat_cmp kept.unended number ≡ entry_if has_no_end (entry_of entries number)
  pub ended : (number : ℕ) → get nat_cmp kept.ended number ≡
      entry_if (is_ended_and_asked asked) (entry_of entries number)

-- Returns an entry, which gets this end if it has this number.
abbrev pub entry_with_end : ℕ → Option ℕ → LogEntry → LogEntry
entry_with_end number end listed =
    cond (number == listed.number) (record listed { entry = record listed.entry { end = end } }) listed

-- These entries are retained, their numbers are at most the last one, and no entry must still be repeated.
pub record RowsTrackEntries (asked : List HolderRequest) (rows : SavedRows) (entries : List LogEntry) : Type 0 where
  pub kept : TracksEntries asked rows.kept entries
  pub made : Each (λ listed. listed.number ≤ rows.made) entries
  pub repeated : rows.unrepeated.entries ≡ []

-- The rows of these events have been read.
pub record RowsTrackEvents (asked : List HolderRequest) (rows : SavedRows) (events : List LogEvent) : Type 0 where
  pub keeps : RowsTrackEntries asked rows (entries_in events)
  pub ends : (number : ℕ) → rows.made < number → row_end_among events number ≡ None

-- WHICH ROWS MAY FOLLOW: a new binding has a greater number than those before it, and a binding that ends, or is live
-- at the end of the log, was made before and has not ended.

abbrev pub HasBinding : Row → Option Entry → Type 0
HasBinding binding None = ⊥
HasBinding binding (Some entry) = entry.binding ≡ binding

abbrev pub HasOpenEntry : List LogEntry → LogEntry → Type 0
HasOpenEntry entries listed = HasBinding listed.entry.binding (entry_if has_no_end (entry_of entries listed.number))

abbrev pub EventFollows : List LogEntry → LogEvent → Type 0
EventFollows entries (Made listed) = Each (λ other. other.number < listed.number) entries
EventFollows entries (Repeated listed) = Each (λ other. other.number < listed.number) entries
EventFollows entries (Ended listed) = HasOpenEntry entries listed
EventFollows entries (Living listed) = HasOpenEntry entries listed
EventFollows entries (Refused shortage) = Unit {0}

abbrev pub unused : Row → ℕ → Entry
unused binding made = unused_entry binding made None

-- Each of the rows that come after these may follow those before it.
abbrev pub FollowAll : List LogEvent → List LogEvent → Type 0
FollowAll before [] = Unit {0}
FollowAll before (event ∷ events) = EventFollows (entries_in before) event × FollowAll (before ++ event ∷ []) events

-- The rows of the log of a run give its log.
use Rattle.std.specs.Prelude.{◌≡◌, false, List, map}
use Rattle.napt_config.specs.Rules.{Rules, RulesInvariant}
use Rattle.napt_rules.specs.Prelude.{Arrival, initial_state}
use Rattle.napt_account.specs.{declared.log.{Entry.Entry, LogEntry.LogEntry}, Log.{log_of, unnumbered, unused_entry}, OpenEntries.Has}
use Rattle.napt_log_text.specs.{LogReaders.log_events, Logs.log_anew, Requests.holders, declared.event.LogEvent.LogEvent}
use Rattle.napt_attribution.specs.{SavedLogs.{asked_entries, bare_entry, entries_in}, declared.requests.HolderRequest.HolderRequest}

-- Returns the events of the log of a new run, to its end.
abbrev pub whole_events : Rules → List Arrival → List LogEvent
whole_events rules inputs = log_events rules (initial_state rules) (log_anew rules) false inputs

-- The rows of a run's log give its entries, each with its end, in the order of making.
abbrev pub RowsDetermineTheLog : Type 0
RowsDetermineTheLog = (rules : Rules) → RulesInvariant rules → (inputs : List Arrival) →
    entries_in (whole_events rules inputs)
    ≡ map (λ listed. bare_entry listed.entry.end listed) (log_of rules inputs).entries

-- Returns an entry without its counts and last uses.
abbrev pub without_counts : Entry → Entry
without_counts entry = unused_entry entry.binding entry.made entry.end

-- The holders that a request finds among the entries that requests ask about are those that it finds in the log of the
-- run.
abbrev pub RowsNameTheHolders : Type 0
RowsNameTheHolders = (rules : Rules) → RulesInvariant rules → (inputs : List Arrival) →
    (asked : List HolderRequest) (one : HolderRequest) → Has asked one →
    holders one.request (asked_entries asked (entries_in (whole_events rules inputs)))
    ≡ map without_counts (holders one.request (unnumbered (log_of rules inputs)))

-- A log that is read back consists of its header, followed by the rows of its events.
use Rattle.std.specs.Prelude.{◌≡◌, Bool, if◌then◌else◌, List, [], ◌∷◌, ◌++◌, None, Result, Err, flat_map, map}
use Rattle.napt_config.specs.Rules.{Rules}
use Rattle.napt_rules.specs.Prelude.{Arrival, State}
use Rattle.napt_account.specs.{ResumedLogRuns.{left_of, part_of}, Log.LogModel, LogParts.{LogDelta, in_order_of_end}}
use Rattle.napt_log_text.specs.declared.{event.LogEvent.{LogEvent, TheVariants.{Made, Repeated, Ended, Living, Refused}}, log_reader.LogFileFault.{LogFileFault, TheVariants.Unread}}
use Rattle.napt_log_text.specs.{Logs.{LogOrigin, log_text}, Rows.{csv_row, csv_header}}

abbrev pub part_events : LogDelta → List LogEvent
part_events part = map Ended part.ended ++ (map Made part.made ++ map Refused part.refused)

-- Returns the events of the inputs that come after the given ones, in order.
abbrev pub events_after : Rules → State → LogModel → List Arrival → List Arrival → List LogEvent
events_after rules state log before [] = []
events_after rules state log before (input ∷ inputs) =
    part_events (part_of rules state log before input) ++ events_after rules state log (before ++ input ∷ []) inputs

-- Returns the events of the log of a run from a state: in a new text the saved bindings again; those before the
-- first input, and with the inputs; and if no other run continues the log, the bindings that are live at its end.
abbrev pub log_events : Rules → State → LogOrigin → Bool → List Arrival → List LogEvent
log_events rules state origin goes_on inputs =
    (if origin.is_new then map Repeated origin.before.entries else [])
    ++ (part_events origin.told ++ (events_after rules state origin.log [] inputs ++ (if goes_on then [] else
    map Living (in_order_of_end (left_of rules state origin.log inputs).entries))))

abbrev pub LogHasRows : Type 0
LogHasRows = (rules : Rules) (state : State) (origin : LogOrigin) (goes_on : Bool) (inputs : List Arrival) →
    log_text rules state origin None goes_on inputs ≡ (if origin.is_new then csv_header else [])
    ++ flat_map (csv_row rules) (log_events rules state origin goes_on inputs)

-- The fact is true, unless a read failed.
abbrev pub LogUnlessUnread : {A : Type 0} → Result A LogFileFault → Type 0 → Type 0
LogUnlessUnread (Err (Unread _)) fact = Unit {0}
LogUnlessUnread _ fact = fact

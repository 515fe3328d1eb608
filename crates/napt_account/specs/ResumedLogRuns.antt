-- A log that continues from a state.
use Rattle.std.specs.{Prelude.{◌≡◌, ℕ, ◌≤◌, max, List, [], ◌∷◌, ◌++◌, map}, List.Sorted.IsPermutation}
use Rattle.napt_config.specs.Rules.{Rules, RulesInvariant}
use Rattle.napt_rules.specs.Prelude.{Arrival, Each, last_clock, State, next_state, purge, with_redirects, TakesState, IsStateInOrder}
use Rattle.napt_table.specs.{declared.TimedRow.TimedRow, TimedRows.timed_row}
use Rattle.napt_account.specs.{declared.log.LogEntry.LogEntry, Log.{LogModel, log_on}, LogParts.{LogDelta, IsNumbered, kept_at, part_between}}

-- Returns the part that an input adds to the log after the given other inputs.
abbrev pub part_of : Rules → State → LogModel → List Arrival → Arrival → LogDelta
part_of rules state log before input =
    let was : ℕ = last_clock state.clock before in
    part_between was (max was input.clock) (log_on rules state log before)
    (log_on rules state log (before ++ input ∷ []))

abbrev pub left_of : Rules → State → LogModel → List Arrival → LogModel
left_of rules state log inputs = kept_at (last_clock state.clock inputs) (log_on rules state log inputs)

-- LAWS: a run that continues the open log adds what the run over all inputs adds, and ends with the same open log
pub record LogGoesOn (rules : Rules) (state later : State) (log : LogModel) (first rest : List Arrival) : Type 0 where
  pub told : (input : Arrival) → part_of rules state log (first ++ rest) input
      ≡ part_of rules later (left_of rules state log first) rest input
  pub left : left_of rules state log (first ++ rest) ≡ left_of rules later (left_of rules state log first) rest

abbrev pub LogsGoOn : Type 0
LogsGoOn = (rules : Rules) (state : State) (log : LogModel) → IsNumbered log → (first rest : List Arrival) →
    LogGoesOn rules state (next_state rules state first) log first rest

-- If the state after the first inputs was saved and read, the log of a run from there goes on in the same way.
abbrev pub SavedLogsGoOn : Type 0
SavedLogsGoOn = (rules : Rules) → RulesInvariant rules → (state saved : State) → TakesState rules state →
    (log : LogModel) →
    IsNumbered log → (first rest : List Arrival) →
    IsStateInOrder rules (next_state rules (with_redirects rules state) first) saved →
    LogGoesOn rules (with_redirects rules state) (with_redirects rules saved) log first rest

-- THE LOG OF A STATE

abbrev pub timed_by : LogEntry → TimedRow
timed_by numbered = record { row = numbered.entry.binding; end = numbered.entry.end }

-- The log is that of the state: its entries are those of the live bindings, each with its row and its end.
pub record IsLogOf (rules : Rules) (state : State) (log : LogModel) : Type 0 where
  pub kept : kept_at state.clock log ≡ log
  pub numbered : IsNumbered log
  pub made : Each (λ n. n.entry.made ≤ state.clock) log.entries
  pub rows : IsPermutation (map timed_by log.entries)
      (map (timed_row rules.timers) (purge rules.timers state.clock state.list))

-- LAW: the open log at the end of a run is the log of the state at the end, also after this was saved and read
abbrev pub LogsAreOfTheirStates : Type 0
LogsAreOfTheirStates = (rules : Rules) → RulesInvariant rules → (state : State) → TakesState rules state →
    (log : LogModel) →
    IsLogOf rules (with_redirects rules state) log → (inputs : List Arrival) (saved : State) →
    IsStateInOrder rules (next_state rules (with_redirects rules state) inputs) saved →
    IsLogOf rules (with_redirects rules saved) (left_of rules (with_redirects rules state) log inputs)

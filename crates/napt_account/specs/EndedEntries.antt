-- An entry that has ended is final.
use Rattle.std.specs.{Prelude.{◌≡◌, ℕ, max, false, List, ◌∷◌, ◌++◌, Some}, List.slice_get}
use Rattle.napt_rules.specs.Prelude.{Arrival, last_clock, Rules, State}
use Rattle.napt_account.specs.{declared.log.LogEntry.LogEntry, Log.{LogModel, log_on}, LogParts.is_open}

-- An entry whose end is not after the time of the next input is unchanged, at its index, in the log of each longer run.
abbrev pub EndedEntriesStay : Type 0
EndedEntriesStay = (rules : Rules) (state : State) (log : LogModel) (front : List Arrival) (next : Arrival)
    (rest : List Arrival) (place : ℕ) (numbered : LogEntry) →
    slice_get (log_on rules state log front).entries place ≡ Some numbered →
    is_open (max (last_clock state.clock front) next.clock) numbered ≡ false →
    slice_get (log_on rules state log (front ++ next ∷ rest)).entries place ≡ Some numbered

-- The parts that the inputs of a run add, with the entries that are open at the end, make up its log.
use Rattle.std.specs.{Prelude.{◌≡◌, ℕ, true, List, [], ◌∷◌, ◌++◌, map}, List.Sorted.IsPermutation}
use Rattle.napt_config.specs.Rules.{Rules, RulesInvariant}
use Rattle.napt_rules.specs.{Prelude.{Arrival, Each, State, last_clock}, declared.Row.Row}
use Rattle.napt_account.specs.{declared.log.{LogEntry.LogEntry}, Log.{LogModel, log_on}, LogParts.{LogDelta, IsNumbered, is_open, living_at}, ResumedLogRuns.part_of}

-- Returns the lists from the parts of all inputs, joined in order.
abbrev pub parts_joined : {X : Type 0} → (List Arrival → Arrival → List X) → List Arrival → List Arrival → List X
parts_joined part before [] = []
parts_joined part before (input ∷ inputs) = part before input ++ parts_joined part (before ++ input ∷ []) inputs

abbrev pub all_parts : {X : Type 0} → (LogDelta → List X) → Rules → State → LogModel → List Arrival → List X
all_parts of_part rules state log inputs =
    parts_joined (λ before input. of_part (part_of rules state log before input)) [] inputs

-- Returns the fields of an entry that are final when its binding is made: its number, its binding, and the time.
abbrev pub origin : LogEntry → ℕ × (Row × ℕ)
origin numbered = (numbered.number, (numbered.entry.binding, numbered.entry.made))

-- The entries that end in the parts, with those that are open at the end, are the entries of the log, each once, with
-- its number. The entries made in the parts, after the first, and the refused packets are those of the log, in order.
pub record ArePartsOfLog (rules : Rules) (state : State) (log : LogModel) (inputs : List Arrival) : Type 0 where
  pub entries : IsPermutation (all_parts (λ part. part.ended) rules state log inputs
      ++ living_at (last_clock state.clock inputs) (log_on rules state log inputs))
      (log_on rules state log inputs).entries
  pub made : map origin (log.entries ++ all_parts (λ part. part.made) rules state log inputs)
      ≡ map origin (log_on rules state log inputs).entries
  pub refused : log.shortages ++ all_parts (λ part. part.refused) rules state log inputs
      ≡ (log_on rules state log inputs).shortages

abbrev pub PartsAreTheLog : Type 0
PartsAreTheLog = (rules : Rules) → RulesInvariant rules → (state : State) (log : LogModel) → IsNumbered log →
    Each (λ numbered. is_open state.clock numbered ≡ true) log.entries → (inputs : List Arrival) →
    ArePartsOfLog rules state log inputs

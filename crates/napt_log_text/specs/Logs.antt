-- The text of the log of a run, as it grows while packets come. It begins by repeating each live binding. Each input
-- adds the bindings that ended before it, the bindings that it made, and itself if it got no binding. The live bindings
-- come last. A row contains the counts and the last use up to its event.
use Rattle.std.specs.Prelude.{◌≡◌, ℕ, ◌*◌, ◌/◌, ◌^◌, nat_lt, max, Bool, true, false, if◌then◌else◌, List, [], ◌∷◌, ◌++◌, flat_map, Option, Some, None}
use Rattle.napt_config.specs.Rules.{Rules, RulesInvariant}
use Rattle.napt_rules.specs.Prelude.{Arrival, IsStateInOrder, State, TakesState, initial_state, last_clock, next_state, with_redirects}
use Rattle.napt_account.specs.{declared.log.{LogEntry.LogEntry, Shortage.Shortage}, Log.{LogModel, after_input, begun_after}}
use Rattle.napt_account.specs.{ResumedLogRuns.{left_of, part_of}, LogParts.{IsNumbered, LogDelta, in_order_of_end, kept_at, part_between}}
use Rattle.napt_sequential.specs.{Traces.traces_of, declared.passage.Trace.Trace}
use Rattle.napt_log_text.specs.{declared.event.LogEvent.TheVariants.{Made, Repeated, Ended, Living, Refused}, Rows.{csv_row, csv_header}, Times.TimeText}

abbrev pub made_rows : Rules → List LogEntry → TimeText
made_rows rules made = flat_map (λ numbered. csv_row rules (Made numbered)) made

abbrev pub repeated_rows : Rules → List LogEntry → TimeText
repeated_rows rules repeated = flat_map (λ numbered. csv_row rules (Repeated numbered)) repeated

abbrev pub ended_rows : Rules → List LogEntry → TimeText
ended_rows rules ended = flat_map (λ numbered. csv_row rules (Ended numbered)) ended

abbrev pub living_rows : Rules → List LogEntry → TimeText
living_rows rules living = flat_map (λ numbered. csv_row rules (Living numbered)) living

abbrev pub refused_rows : Rules → List Shortage → TimeText
refused_rows rules refused = flat_map (λ shortage. csv_row rules (Refused shortage)) refused

-- Returns the rows that an input adds.
abbrev pub part_rows : Rules → LogDelta → TimeText
part_rows rules part = ended_rows rules part.ended ++ (made_rows rules part.made ++ refused_rows rules part.refused)

-- Returns the beginning of a log or of a piece: the names of the fields, and the repeated row of each binding that is
-- live there.
abbrev pub opening_text : Rules → LogModel → TimeText
opening_text rules log = csv_header ++ repeated_rows rules log.entries

-- The origin of a log: the log as it was saved, the log with which the run begins, the part that is added before the
-- first input, and whether a new text begins there.
pub record LogOrigin : Type 0 where
  pub before : LogModel
  pub log : LogModel
  pub told : LogDelta
  pub is_new : Bool

-- Returns the part before the first input: the entries that end there, and the new entries.
abbrev pub first_part : List LogEntry → List LogEntry → LogDelta
first_part ended made = record { ended = ended; made = made; refused = [] }

-- Returns the beginning of the text. A new text begins with the log as it was saved, as a piece does.
abbrev pub first_text : Rules → LogOrigin → TimeText
first_text rules origin =
    (if origin.is_new then opening_text rules origin.before else []) ++ part_rows rules origin.told

-- Returns whether a piece of this many seconds begins: the clock has passed a multiple of them since the last input.
abbrev pub begins_piece : Option ℕ → Option ℕ → ℕ → Bool
begins_piece (Some seconds) (Some last) now = nat_lt (last / (seconds * 10 ^ 9)) (now / (seconds * 10 ^ 9))
begins_piece each last now = false

abbrev pub piece_opening : Rules → Option ℕ → Option ℕ → ℕ → LogModel → TimeText
piece_opening rules each last now log = if begins_piece each last now then opening_text rules log else []

-- INPUT BY INPUT

-- Returns the text of the inputs that come after the given ones, in order, from the text that each adds.
abbrev pub log_added : {X : Type 0} → (List X → X → TimeText) → List X → List X → TimeText
log_added adds before [] = []
log_added adds before (next ∷ more) = adds before next ++ log_added adds (before ++ next ∷ []) more

-- Returns the clock after these inputs, if there are any.
abbrev pub clock_after : ℕ → List Arrival → Option ℕ
clock_after clock [] = None
clock_after clock (input ∷ inputs) = Some (last_clock clock (input ∷ inputs))

-- Returns the text that an input adds after the inputs before it, to a log in pieces of this many seconds, or in one.
abbrev pub text_of : Rules → State → Option ℕ → LogModel → List Arrival → Arrival → TimeText
text_of rules state each log before input = piece_opening rules each (clock_after state.clock before)
    (max (last_clock state.clock before) input.clock) (left_of rules state log before)
    ++ part_rows rules (part_of rules state log before input)

unfoldable pub rows_from : Rules → State → Option ℕ → LogModel → List Arrival → TimeText
rows_from rules state each log inputs = log_added (text_of rules state each log) [] inputs

-- Returns the text of a run from a state, after these inputs.
unfoldable pub log_so_far : Rules → State → LogOrigin → Option ℕ → List Arrival → TimeText
log_so_far rules state origin each inputs = first_text rules origin ++ rows_from rules state each origin.log inputs

-- Returns the text at the end of the run: if no other run continues it, it has rows of the live bindings.
unfoldable pub log_text : Rules → State → LogOrigin → Option ℕ → Bool → List Arrival → TimeText
log_text rules state origin each goes_on inputs = log_so_far rules state origin each inputs
    ++ (if goes_on then [] else living_rows rules
    (in_order_of_end (left_of rules state origin.log inputs).entries))

abbrev pub empty_part : LogDelta
empty_part = record { ended = []; made = []; refused = [] }

-- Returns a new log of a configuration before any input.
abbrev pub log_anew : Rules → LogOrigin
log_anew rules =
    let log : LogModel = begun_after 0 rules (initial_state rules) in
    let none : LogModel = record { made = 0; entries = []; shortages = [] } in
    record { before = none; log = log; told = first_part [] log.entries; is_new = true }

-- Returns the origin of a log that another run continues where a run left it.
abbrev pub grown_log : Rules → State → LogOrigin → List Arrival → LogOrigin
grown_log rules state origin inputs =
    let log : LogModel = left_of rules state origin.log inputs in
    record { before = log; log = log; told = empty_part; is_new = false }

-- LAWS

-- The log of a longer run begins with the log of a shorter one.
abbrev pub LogGrows : Type 0
LogGrows = (rules : Rules) (state : State) (origin : LogOrigin) (each : Option ℕ) (inputs more : List Arrival) →
    log_so_far rules state origin each (inputs ++ more)
    ≡ log_so_far rules state origin each inputs ++ log_added (text_of rules state each origin.log) inputs more

-- The text of a run, and then that of the run that continues from its state, are the text of the run over all inputs.
abbrev pub Join : Rules → State → State → LogOrigin → List Arrival → List Arrival → Type 0
Join rules state later origin first rest = (goes_on : Bool) →
    log_text rules state origin None goes_on (first ++ rest)
    ≡ log_text rules state origin None true first
    ++ log_text rules later (grown_log rules state origin first) None goes_on rest

abbrev pub LogsJoin : Type 0
LogsJoin = (rules : Rules) (state : State) (origin : LogOrigin) → IsNumbered origin.log → (first rest : List Arrival) →
    Join rules state (next_state rules state first) origin first rest

abbrev pub SavedLogsJoin : Type 0
SavedLogsJoin = (rules : Rules) → RulesInvariant rules → (state saved : State) → TakesState rules state →
    (origin : LogOrigin) →
    IsNumbered origin.log → (first rest : List Arrival) →
    IsStateInOrder rules (next_state rules (with_redirects rules state) first) saved →
    Join rules (with_redirects rules state) (with_redirects rules saved) origin first rest

-- From the beginning of a piece, the text is that of a run that continues there with a new log.
abbrev pub PiecesStandAlone : Type 0
PiecesStandAlone = (rules : Rules) (state : State) (origin : LogOrigin) → IsNumbered origin.log → (each : Option ℕ)
    (first : List Arrival) (input : Arrival) (rest : List Arrival) →
    begins_piece each (clock_after state.clock first) (max (last_clock state.clock first) input.clock) ≡ true →
    (goes_on : Bool) →
    log_text rules state origin each goes_on (first ++ input ∷ rest)
    ≡ log_text rules state origin each true first ++ log_text rules (next_state rules state first)
    (record (grown_log rules state origin first) { is_new = true }) each goes_on (input ∷ rest)

-- BY THE EFFECTS, as the code writes it: from a log and a time, the time of the last input if there was one

abbrev pub rows_by : Rules → Option ℕ → Option ℕ → ℕ → LogModel → List Trace → TimeText
rows_by rules each last was log [] = []
rows_by rules each last was log (effects ∷ more) =
    let later : LogModel = after_input log effects in
    (piece_opening rules each last effects.now (kept_at was log)
    ++ part_rows rules (part_between was effects.now log later))
    ++ rows_by rules each (Some effects.now) effects.now later more

abbrev pub EffectsHaveTheRows : Type 0
EffectsHaveTheRows = (rules : Rules) (state : State) (log : LogModel) (each : Option ℕ) (inputs : List Arrival) →
    rows_by rules each None state.clock log (traces_of rules state inputs) ≡ rows_from rules state each log inputs

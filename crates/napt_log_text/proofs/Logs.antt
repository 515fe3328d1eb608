-- The log of a run grows by the rows of the inputs that come.
use Rattle.std.proofs.lemmas.{Grind.common_steps, Bool.Decides.nat_tests}
use Rattle.std.proofs.Common.{◌≡◌, ℕ, ◌+◌, max, length, arith, Bool, true, List, [], ◌∷◌, ◌++◌, Option, Some, None, refl, sym, ◌∙◌, ap, ap₂, append-nil, append_assoc, length-append}
use Rattle.std.specs.Prelude.{if◌then◌else◌}
use Rattle.napt_config.specs.Rules.{Rules}
use Rattle.napt_rules.specs.Prelude.{Arrival, Binding, RunEffect, State, effect_from, last_clock, next_state, step, with_redirects}
use Rattle.napt_sequential.{specs.{Traces.{trace_of, traces_from, traces_of}, declared.passage.Trace.Trace}, proofs.StepTraceSteps.traces_grow}
use Rattle.napt_account.specs.{declared.log.LogEntry.LogEntry, Effects.{EffectsAreTheLog, log_after}, Log.{LogModel, after_input, log_on}}
use Rattle.napt_account.specs.{ResumedLogRuns.{LogGoesOn, LogsGoOn, SavedLogsGoOn, left_of, part_of}, LogParts.{LogDelta, in_order_of_end, kept_at, part_between}}
use Rattle.napt_account.proofs.ContinuedLogs.{fold_joined}
use Rattle.napt_laws.proofs.OneMoreInput.{clock_more, clock_on, grows as run_grows}
use Rattle.napt_log_text.specs.Logs.{EffectsHaveTheRows, Join, LogGrows, LogOrigin, LogsJoin, PiecesStandAlone, SavedLogsJoin, log_added, begins_piece, clock_after, first_text, living_rows, grown_log, log_so_far}
use Rattle.napt_log_text.specs.{Logs.{log_text, opening_text, part_rows, piece_opening, rows_by, rows_from, text_of}, Times.TimeText}

module _ {X : Type 0} where
  pub added-append : (adds : List X → X → TimeText) (before xs ys : List X) →
      log_added adds before (xs ++ ys) ≡ log_added adds before xs ++ log_added adds (before ++ xs) ys
  added-append adds before [] ys = ap (λ (l : List X). log_added adds l ys) (sym (append-nil before))
  added-append adds before (x ∷ xs) ys =
      grind (arith, common_steps, nat_tests, append_assoc, added-append adds (before ++ x ∷ []) xs ys)

  -- If inputs add the same text after other inputs, their texts are the same.
  added_as : (adds others : List X → X → TimeText) (front also all : List X) →
      ((more : List X) (x : X) → adds (front ++ more) x ≡ others (also ++ more) x) →
      log_added adds front all ≡ log_added others also all
  added_as adds others front also [] same = refl
  added_as adds others front also (x ∷ all) same =
      ap₂ (λ (a b : TimeText). a ++ b)
      (ap (λ (l : List X). adds l x) (sym (append-nil front))
      ∙ (same [] x ∙ ap (λ (l : List X). others l x) (append-nil also)))
      (added_as adds others (front ++ x ∷ []) (also ++ x ∷ []) all (λ more y.
      ap (λ (l : List X). adds l y) (append_assoc front (x ∷ []) more)
      ∙ (same (x ∷ more) y ∙ ap (λ (l : List X). others l y) (sym (append_assoc also (x ∷ []) more)))))

pub grows : LogGrows
unfolding log_so_far rows_from
grows rules state origin each inputs more = grind (arith, common_steps, nat_tests, added-append, append_assoc)

-- JOINED LOGS

joined_parts : (a b c d : TimeText) → (a ++ (b ++ c)) ++ d ≡ ((a ++ b) ++ []) ++ (c ++ d)
joined_parts a b c d = simp (append_assoc, append-nil)

-- The first input of a run begins no piece.
none_first : (rules : Rules) (each : Option ℕ) (now : ℕ) (log : LogModel) → piece_opening rules each None now log ≡ []
none_first rules None now log = refl
none_first rules (Some seconds) now log = refl

some_behind : (clock : ℕ) (before : List Arrival) (input : Arrival) (more : List Arrival) →
    clock_after clock (before ++ input ∷ more) ≡ Some (last_clock clock (before ++ input ∷ more))
some_behind clock [] input more = refl
some_behind clock (x ∷ before) input more = refl

module _ (rules : Rules) (state later : State) (origin : LogOrigin) (first : List Arrival)
    (on : (rest : List Arrival) → LogGoesOn rules state later origin.log first rest) where
  abbrev left : LogModel
  left = left_of rules state origin.log first

  abbrev adds : Option ℕ → List Arrival → Arrival → TimeText
  adds each = text_of rules state each origin.log

  abbrev adds_later : Option ℕ → List Arrival → Arrival → TimeText
  adds_later each = text_of rules later each left

  rows_on : (rest : List Arrival) → log_added (adds None) [] (first ++ rest)
      ≡ log_added (adds None) [] first ++ log_added (adds_later None) [] rest
  rows_on rest =
      added-append (adds None) [] first rest
      ∙ ap (λ (l : TimeText). log_added (adds None) [] first ++ l)
      (added_as (adds None) (adds_later None) first [] rest
      (λ more input. ap (part_rows rules) ((on more).told input)))

  abbrev ending : Bool → LogModel → TimeText
  ending goes_on log = if goes_on then [] else living_rows rules (in_order_of_end log.entries)

  join : (rest : List Arrival) → Join rules state later origin first rest
  unfolding log_so_far log_text rows_from
  join rest goes_on =
      ap₂ (λ (x y : TimeText). (first_text rules origin ++ x) ++ y) (rows_on rest) (ap (ending goes_on) (on rest).left)
      ∙ joined_parts (first_text rules origin) (log_added (adds None) [] first)
      (log_added (adds_later None) [] rest) (ending goes_on (left_of rules later left rest))

  module _ (clock : later.clock ≡ last_clock state.clock first) (each : Option ℕ) (input : Arrival)
      (begins : begins_piece each (clock_after state.clock first) (max (last_clock state.clock first) input.clock)
      ≡ true) where
    opens : adds each first input ≡ opening_text rules left ++ adds_later each [] input
    opens =
        ap₂ (λ (is : Bool) (told : LogDelta).
        (if is then opening_text rules left else []) ++ part_rows rules told)
        begins (ap (λ (l : List Arrival). part_of rules state origin.log l input) (sym (append-nil first))
        ∙ (on []).told input)
        ∙ ap (λ (l : TimeText). opening_text rules left
        ++ (l ++ part_rows rules (part_of rules later left [] input)))
        (sym (none_first rules each (max later.clock input.clock) (left_of rules later left [])))

    behind : (more : List Arrival) (next : Arrival) →
        adds each (first ++ input ∷ more) next ≡ adds_later each (input ∷ more) next
    behind more next =
        ap₂ (λ (x y : TimeText). x ++ y)
        (ap (λ (o : Option ℕ). piece_opening rules each o
        (max (last_clock state.clock (first ++ input ∷ more)) next.clock)
        (left_of rules state origin.log (first ++ input ∷ more))) (some_behind state.clock first input more)
        ∙ ap₂ (λ (t : ℕ) (log : LogModel). piece_opening rules each (Some t) (max t next.clock) log)
        (clock_on state.clock first (input ∷ more) ∙ ap (λ (t : ℕ). last_clock t (input ∷ more)) (sym clock))
        (on (input ∷ more)).left)
        (ap (part_rows rules) ((on (input ∷ more)).told next))

    rows_alone : (rest : List Arrival) → log_added (adds each) [] (first ++ input ∷ rest)
        ≡ log_added (adds each) [] first
        ++ (opening_text rules left ++ log_added (adds_later each) [] (input ∷ rest))
    rows_alone rest =
        added-append (adds each) [] first (input ∷ rest)
        ∙ ap (λ (l : TimeText). log_added (adds each) [] first ++ l)
        (ap₂ (λ (x y : TimeText). x ++ y) opens
        (added_as (adds each) (adds_later each) (first ++ input ∷ []) (input ∷ []) rest
        (λ more next. ap (λ (l : List Arrival). adds each l next) (append_assoc first (input ∷ []) more)
        ∙ behind more next))
        ∙ append_assoc (opening_text rules left) (adds_later each [] input) _)

    alone : (rest : List Arrival) (goes_on : Bool) →
        log_text rules state origin each goes_on (first ++ input ∷ rest)
        ≡ log_text rules state origin each true first ++ log_text rules later
        (record (grown_log rules state origin first) { is_new = true }) each goes_on (input ∷ rest)
    unfolding log_so_far log_text rows_from
    alone rest goes_on =
        ap₂ (λ (x y : TimeText). (first_text rules origin ++ x) ++ y) (rows_alone rest)
        (ap (ending goes_on) (on (input ∷ rest)).left)
        ∙ (joined_parts (first_text rules origin) (log_added (adds each) [] first)
        (opening_text rules left ++ log_added (adds_later each) [] (input ∷ rest))
        (ending goes_on (left_of rules later left (input ∷ rest)))
        ∙ ap (λ (opening : TimeText). ((first_text rules origin ++ log_added (adds each) [] first) ++ [])
        ++ ((opening ++ log_added (adds_later each) [] (input ∷ rest))
        ++ ending goes_on (left_of rules later left (input ∷ rest))))
        (sym (append-nil (opening_text rules left))))

pub logs_join : LogsGoOn → LogsJoin
logs_join on rules state origin numbered first =
    join rules state (next_state rules state first) origin first (on rules state origin.log numbered first)

pub pieces_stand_alone : LogsGoOn → PiecesStandAlone
pieces_stand_alone on rules state origin numbered each first input rest begins =
    alone rules state (next_state rules state first) origin first (on rules state origin.log numbered first) refl each
    input
    begins rest

pub saved_logs_join : SavedLogsGoOn → SavedLogsJoin
saved_logs_join on rules keeps state saved takes origin numbered first rest in_order =
    join rules (with_redirects rules state) (with_redirects rules saved) origin first
    (λ more. on rules keeps state saved takes origin.log numbered first more in_order) rest

-- BY THE EFFECTS

module _ (are : EffectsAreTheLog) (rules : Rules) (state : State) (log : LogModel) (each : Option ℕ) where
  abbrev at : List Arrival → LogModel
  at inputs = log_on rules state log inputs

  abbrev text_at : List Arrival → Arrival → TimeText
  text_at before input = text_of rules state each log before input

  module _ (before : List Arrival) (input : Arrival) where
    abbrev was : ℕ
    was = last_clock state.clock before

    abbrev now : ℕ
    now = max was input.clock

    abbrev course : RunEffect
    course = step rules (length before) now input (effect_from rules state before).list

    abbrev effects : Trace
    effects = trace_of rules.timers now course

    log_next : after_input (at before) effects ≡ at (before ++ input ∷ [])
    log_next =
        ap (λ (l : LogModel). after_input l effects) (sym (are rules state log before))
        ∙ (sym (fold_joined after_input (traces_of rules state before) (effects ∷ []) log)
        ∙ (ap (log_after log) (sym (traces_grow rules 0 state.clock before input state.list (length before)
        (omega arith)))
        ∙ are rules state log (before ++ input ∷ [])))

    list_next : (effect_from rules state (before ++ input ∷ [])).list ≡ course.list
    list_next = ap (λ (c : RunEffect). c.list)
        (run_grows rules 0 state.clock before input state.list (length before) (omega arith))

    clock_next : last_clock state.clock (before ++ input ∷ []) ≡ now
    clock_next = clock_more state.clock before input

    length_next : length (before ++ input ∷ []) ≡ length before + 1
    length_next = length-append before (input ∷ [])

  abbrev by_rest : List Arrival → List Arrival → TimeText
  by_rest before more = rows_by rules each (clock_after state.clock before) (last_clock state.clock before) (at before)
      (traces_from rules (length before) (last_clock state.clock before) more (effect_from rules state before).list)

  rows_same : (before more : List Arrival) → by_rest before more ≡ log_added text_at before more
  rows_same before [] = refl
  rows_same before (input ∷ more) =
      ap₂ (λ (x y : TimeText). x ++ y)
      (ap (λ (l : LogModel). piece_opening rules each (clock_after state.clock before) (now before input)
      (kept_at (was before input) (at before))
      ++ part_rows rules (part_between (was before input) (now before input) (at before) l)) (log_next before input))
      ((λ i. rows_by rules each (sym (some_behind state.clock before input [] ∙ ap Some (clock_next before input)) i)
      (sym (clock_next before input) i) (log_next before input i)
      (traces_from rules (sym (length_next before input) i) (sym (clock_next before input) i) more
      (sym (list_next before input) i)))
      ∙ rows_same (before ++ input ∷ []) more)

pub effects_have_the_rows : EffectsAreTheLog → EffectsHaveTheRows
unfolding rows_from log_on
effects_have_the_rows are rules state log each inputs = rows_same are rules state log each [] inputs

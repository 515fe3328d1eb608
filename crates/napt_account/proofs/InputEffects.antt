-- From a state and its log, the effects of each input are possible.
use Rattle.std.proofs.Common.{◌≡◌, ℕ, ◌≤◌, max, List, [], ◌∷◌, ◌++◌, length, map, filter, Option, refl, sym, ◌∙◌, ap, subst, arith, append-nil}
use Rattle.std.{specs.List.{fold, Sorted.IsPermutation}, proofs.lemmas.List.{append_cancel_left, Sorted.{IsPermutation-map, IsPermutation-sym, IsPermutation-trans}}}
use Rattle.napt_config.specs.declared.settings.Timers.{Timers}
use Rattle.napt_binding.{specs.Ends.is_before, proofs.FirstEnds.ends_are_first}
use Rattle.napt_table.specs.{declared.TimedRow.TimedRow, TimedRows.timed_row}
use Rattle.napt_rules.specs.{declared.Row.Row, Prelude.{Binding, Each, AlikeStatesGoOn, AreAlike, SavedRunsGoOn, TakenStatesAreSound, LegAct, Arrival, RunEffect, AlikeRunGoesOn, IsPaired, IsSound, Rules, RulesInvariant, State, effect_from, is_live, last_clock, next_state, pair_of, purge, row, step, live_and_held, with_redirects}}
use Rattle.napt_laws.proofs.{AlikeLists.alike_moved, OneMoreInput.{grows, step_one}, SeenElements.purge_taken, Permutations.{apart_moved, each_moved}, RunInduction.{InTurn, run_turn}}
use Rattle.napt_sequential.{specs.{Traces.{trace_of, traces_of}, declared.passage.Trace.Trace}, proofs.StepTraceSteps.traces_grow}
use Rattle.napt_account.specs.{declared.log.{Entry.Entry, LogEntry.LogEntry}, Attribution.AreInOrderOf, Effects.{EffectsCome, AreNextEffects}, ResumedLogRuns.{IsLogOf, LogsAreOfTheirStates, left_of, timed_by}, Log.{LogModel, after_record, log_on, unnumbered}, LogParts.{IsNumbered, is_open, kept_at}}
use Rattle.napt_account.proofs.{Effects.{acts_come, step_turn}, Entries.{Tells, apart_differ, hold, hold_of, living, purge_holds, tells_later, told_turn}, ContinuedLogs.{each_kept, filter_again, numbered_all}, Lists.{each_mapped, each_shown, filter_seen, map_twice}, UnnumberedEntries.{plain_acts}, ReorderedLists.reordered}

-- The row and the end in what a table returns of a binding.
abbrev hold_by : TimedRow → Row × Option ℕ
hold_by told = (told.row, told.end)

abbrev timed_as : Row × Option ℕ → TimedRow
timed_as held = record { row = held.0; end = held.1 }

-- THE STATE IN THE ORDER OF THE LOG

module _ (alike_go_on : AlikeStatesGoOn) (rules : Rules) (keeps : RulesInvariant rules) (state : State)
    (sound : IsSound (pair_of rules) state.list) (log : LogModel) (is : IsLogOf rules state log) where
  abbrev timers : Timers
  timers = rules.timers

  abbrev entries : List Entry
  entries = unnumbered log

  abbrev held : List (Row × Option ℕ)
  held = map hold entries

  all_open : filter (λ e. is_before state.clock e.end) entries ≡ entries
  all_open = filter_seen (λ (e : Entry). is_before state.clock e.end) (λ (n : LogEntry). n.entry) log.entries
      ∙ ap (λ (l : LogModel). unnumbered l) is.kept

  kept : map hold_by (map timed_by log.entries) ≡ held
  kept = map_twice hold_by timed_by log.entries ∙ sym (map_twice hold (λ (n : LogEntry). n.entry) log.entries)

  rows : map hold_by (map (timed_row timers) (purge timers state.clock state.list))
      ≡ map (hold_of timers) (living timers state.clock state.list)
  rows = map_twice hold_by (timed_row timers) (purge timers state.clock state.list)
      ∙ purge_holds timers keeps.timers state.clock state.list

  are_held : IsPermutation (map (hold_of timers) (living timers state.clock state.list)) held
  are_held = IsPermutation-sym _ _ (subst (λ (xs : List (Row × Option ℕ)). IsPermutation xs
      (map (hold_of timers) (living timers state.clock state.list))) kept
      (subst (IsPermutation (map hold_by (map timed_by log.entries))) rows (IsPermutation-map hold_by _ _ is.rows)))

  pub order : (list : List Binding) × IsPermutation state.list list
      × (map (hold_of timers) (filter (is_live timers state.clock) list) ≡ held)
  order = reordered (hold_of timers) (is_live timers state.clock) state.list held are_held

  abbrev pub list : List Binding
  list = order.0

  abbrev pub other : State
  other = record { clock = state.clock; list = list }

  rows_moved : IsPermutation (map row state.list) (map row list)
  rows_moved = IsPermutation-map row state.list list order.1

  pub other_sound : IsSound (pair_of rules) list
  other_sound = record {
    apart = apart_moved _ _ rows_moved sound.apart;
    each = each_moved (IsPaired (pair_of rules)) _ _ rows_moved sound.each;
  }

  -- What it tells of bindings that are in its order.
  tells_of : (ordered : List Binding) → IsSound (pair_of rules) ordered →
      map (hold_of timers) (living timers state.clock ordered) ≡ held → Tells timers state.clock ordered entries
  tells_of ordered apart same = record {
    made = each_mapped (λ (e : Entry). e.made ≤ state.clock) (λ (n : LogEntry). n.entry) log.entries is.made;
    holds = ap (map hold) all_open ∙ sym same;
    differ = apart_differ (map row ordered) apart.apart;
  }

  pub tells : Tells timers state.clock list entries
  tells = tells_of list other_sound order.2

  -- And of those of the state, where they are.
  pub tells_state : AreInOrderOf rules state log → Tells timers state.clock state.list entries
  tells_state same = tells_of state.list sound (sym rows ∙ (ap (map hold_by) (sym same) ∙ kept))

  pub goes : (inputs : List Arrival) → AlikeRunGoesOn rules state other inputs
  goes inputs = alike_go_on rules keeps state other sound other_sound refl
      (alike_moved timers state.clock state.list list order.1) inputs

  -- THE ACTS FROM IT ARE THE SAME

  abbrev next_of : State → List Arrival → Arrival → RunEffect
  next_of from front input = step rules (length front) (max (last_clock from.clock front) input.clock) input
      (effect_from rules from front).list

  acts_grow : (from : State) (front : List Arrival) (input : Arrival) →
      (effect_from rules from (front ++ input ∷ [])).acts
      ≡ (effect_from rules from front).acts ++ (next_of from front input).acts
  acts_grow from front input = ap (λ (c : RunEffect). c.acts)
      (grows rules 0 from.clock front input from.list (length front) (omega arith))

  same_next : (front : List Arrival) (input : Arrival) →
      (next_of other front input).acts ≡ (next_of state front input).acts
  same_next front input = append_cancel_left (effect_from rules other front).acts _ _
      (sym (acts_grow other front input) ∙ ((goes (front ++ input ∷ [])).acts ∙ (acts_grow state front input
      ∙ ap (λ (acts : List LegAct). acts ++ (next_of state front input).acts) (sym (goes front).acts))))

  module _ (before : List Arrival) where
    abbrev was : ℕ
    was = last_clock state.clock before

    abbrev new : List Binding
    new = (effect_from rules other before).list

    turn : InTurn rules state.clock list (effect_from rules other before).acts was new
    turn = run_turn rules 0 state.clock before list

    tells_then : Tells timers was new (unnumbered (log_on rules state log before))
    unfolding log_on
    tells_then =
        subst (λ (acts : List LegAct). Tells timers was new (unnumbered (fold (after_record timers) log acts)))
        (goes before).acts
        (subst (Tells timers was new)
        (sym (plain_acts rules keeps.timers state.clock list (effect_from rules other before).acts was new turn log))
        (told_turn ends_are_first rules keeps.timers state.clock list (effect_from rules other before).acts was new
        entries turn tells))

    module _ (input : Arrival) (effects : Trace)
        (more : traces_of rules state (before ++ input ∷ []) ≡ traces_of rules state before ++ effects ∷ []) where
      abbrev now : ℕ
      now = max was input.clock

      effects_are : effects ≡ trace_of timers now (next_of state before input)
      effects_are = head_is effects _ (append_cancel_left (traces_of rules state before) (effects ∷ []) _
          (sym more ∙ traces_grow rules 0 state.clock before input state.list (length before) (omega arith)))
        where
          head_is : (x y : Trace) → x ∷ [] ≡ y ∷ [] → x ≡ y
          head_is x y e = ap (λ (l : List Trace). first x l) e
            where
              first : Trace → List Trace → Trace
              first d [] = d
              first d (z ∷ zs) = z

      same : trace_of timers now (next_of other before input) ≡ effects
      same = ap (λ (acts : List LegAct). trace_of timers now (record (next_of state before input) { acts = acts }))
          (same_next before input) ∙ sym effects_are

      come : AreNextEffects was (log_on rules state log before) effects
      come =
          let course : RunEffect = next_of other before input in
          let pair = acts_come ends_are_first rules keeps.timers now new course.acts course.list
          (step_one rules (length before) now input new).1
          (step_turn rules (length before) now input (omega arith) new) (log_on rules state log before)
          (tells_later ends_are_first timers keeps.timers was now (omega arith) new
          (unnumbered (log_on rules state log before)) tells_then) in
          subst (AreNextEffects was (log_on rules state log before)) same
          (record { later = omega arith; first = pair.0; second = pair.1 })

    -- THE LOG THAT IS LEFT IS OF THE STATE THAT IS LEFT

    abbrev grown : LogModel
    grown = log_on rules state log before

    abbrev left : LogModel
    left = left_of rules state log before

    made_left : Each (λ n. n.entry.made ≤ was) left.entries
    made_left = each_kept (λ n. n.entry.made ≤ was) (is_open was) grown.entries
        (each_shown (λ (e : Entry). e.made ≤ was) (λ (n : LogEntry). n.entry) grown.entries tells_then.made)

    rows_are : map timed_by left.entries ≡ map (timed_row timers) (purge timers was new)
    rows_are =
        let holds : map hold (map (λ (n : LogEntry). n.entry) left.entries)
        ≡ map (hold_of timers) (purge timers was new) =
        ap (map hold) (sym (filter_seen (λ (e : Entry). is_before was e.end) (λ (n : LogEntry). n.entry)
        grown.entries))
        ∙ (tells_then.holds ∙ sym (purge_holds timers keeps.timers was new)) in
        sym (map_twice timed_as (λ (n : LogEntry). hold n.entry) left.entries)
        ∙ (ap (map timed_as) (sym (map_twice hold (λ (n : LogEntry). n.entry) left.entries) ∙ holds)
        ∙ map_twice timed_as (hold_of timers) (purge timers was new))

    pub rows_left : IsPermutation (map timed_by left.entries)
        (map (timed_row timers) (purge timers was (next_state rules state before).list))
    rows_left =
        let live : IsPermutation (purge timers was (next_state rules state before).list) (purge timers was new) =
        subst (IsPermutation (purge timers was (next_state rules state before).list)) (purge_taken timers was new)
        (goes before).left.live in
        subst (λ (ts : List TimedRow). IsPermutation ts
        (map (timed_row timers) (purge timers was (next_state rules state before).list))) (sym rows_are)
        (IsPermutation-map (timed_row timers) _ _ (IsPermutation-sym _ _ live))

    numbered_left : IsNumbered left
    unfolding log_on
    numbered_left = each_kept (λ n. n.number ≤ grown.made) (is_open was) grown.entries
        (numbered_all timers (effect_from rules state before).acts log is.numbered)

    -- The same for each state that is alike.
    left_is_of : (then : State) → then.clock ≡ was → AreAlike timers was (next_state rules state before).list
        (live_and_held timers then.clock then.list) → IsLogOf rules then left
    left_is_of then clock alike = record {
      kept = subst (λ (now : ℕ). kept_at now left ≡ left) (sym clock)
          (let again = filter_again (is_open was) grown.entries in
          λ i. record { made = grown.made; entries = again i; shortages = [] });
      numbered = numbered_left;
      made = subst (λ (now : ℕ). Each (λ n. n.entry.made ≤ now) left.entries) (sym clock) made_left;
      rows = subst (λ (now : ℕ). IsPermutation (map timed_by left.entries)
          (map (timed_row timers) (purge timers now then.list))) (sym clock)
          (IsPermutation-trans _ _ _ rows_left (IsPermutation-map (timed_row timers) _ _
          (subst (IsPermutation (purge timers was (next_state rules state before).list))
          (purge_taken timers was then.list)
          (subst (λ (now : ℕ). IsPermutation (purge timers was (next_state rules state before).list)
          (purge timers was (live_and_held timers now then.list))) clock alike.live))));
    }

pub effects_come : AlikeStatesGoOn → TakenStatesAreSound → EffectsCome
effects_come alike_go_on taken_sound rules keeps state takes log is before input effects more =
    come alike_go_on rules keeps (with_redirects rules state) (taken_sound rules keeps state takes []) log is before
    input effects
    more

pub logs_are_of_their_states : TakenStatesAreSound → AlikeStatesGoOn → SavedRunsGoOn → LogsAreOfTheirStates
logs_are_of_their_states taken_sound alike_go_on saved_go_on rules keeps state takes log is inputs saved order =
    let went = saved_go_on rules keeps state saved takes inputs [] order in
    left_is_of alike_go_on rules keeps (with_redirects rules state) (taken_sound rules keeps state takes []) log is
    inputs
    (with_redirects rules saved) order.clock
    (subst (λ (xs : List Arrival). AreAlike rules.timers (last_clock state.clock xs)
    (next_state rules (with_redirects rules state) xs).list (next_state rules (with_redirects rules saved) []).list)
    (append-nil inputs)
    went.left)

-- At each time the log of a whole run names the bindings that are live then.
use Rattle.std.{proofs.Common.{◌≡◌, ℕ, suc, ◌+◌, ◌<◌, ◌≤◌, max, List, [], ◌∷◌, ◌++◌, map, length, refl, sym, ◌∙◌, ap, subst, arith}, specs.Prelude.filter}
use Rattle.std.{specs.List.{fold, Sorted.IsPermutation}, proofs.lemmas.List.Sorted.{IsPermutation-map, list_any-IsPermutation}}
use Rattle.napt_rules.specs.Prelude.{AlikeStatesGoOn, TakenStatesAreSound, Arrival, Binding, IsSound, LegAct, RunEffect, State, effect_from, effect_then, hold_ago, is_live, last_clock, live_and_held, next_state, pair_of, purge, row, run_from, step, with_redirects, Rules, RulesInvariant, Timers}
use Rattle.napt_rules.specs.declared.Row.{Row}
use Rattle.napt_laws.proofs.{AlikeLists.alike_later, OneMoreInput.run_append, Purges.purge_purge, RunInduction.run_turn}
use Rattle.napt_account.specs.{declared.log.Entry.Entry, Log.{LogModel, after_record, log_on, stands_at, unnumbered}, ResumedLogRuns.IsLogOf}
use Rattle.napt_account.specs.Attribution.{AreInOrderOf, IsBeforeNext, has_ends, LogNamesTheHolders, LogListsTheLiving}
use Rattle.napt_account.proofs.{InputEffects.{goes, other, tells, tells_state}, Lists.{any_seen_of, any_among}, ContinuedLogs.fold_joined, UnnumberedEntries.{logged, plain_acts}}
use Rattle.napt_account.proofs.Entries.{Tells, living, named, tells_later, named_now, rows_purge, told_turn, past_turn}
use Rattle.napt_binding.proofs.FirstEnds.{ends_are_first}

-- Acts of inputs after a time do not change what was named then.
rest_stays : (rules : Rules) → RulesInvariant rules → (at number clock : ℕ) (rest : List Arrival) → clock ≤ at →
    IsBeforeNext at rest → (list : List Binding) (entries : List Entry) →
    named at (fold (logged rules.timers) entries (run_from rules number clock rest list).acts) ≡ named at entries
rest_stays rules keeps at number clock [] le lt list entries = refl
rest_stays rules keeps at number clock (input ∷ rest) le lt list entries =
    let before : at < input.clock = lt in
    let same : max clock input.clock ≡ max (suc at) input.clock = omega arith in
    let whole : RunEffect = run_from rules number (suc at) (input ∷ rest) list in
    subst (λ (now : ℕ). named at (fold (logged rules.timers) entries
    (effect_then (step rules number now input list)
    (run_from rules (number + 1) now rest (step rules number now input list).list)).acts)
    ≡ named at entries) (sym same)
    (past_turn ends_are_first rules keeps.timers at (suc at) (omega arith) list whole.acts
    (last_clock (suc at) (input ∷ rest)) whole.list entries (run_turn rules number (suc at) (input ∷ rest) list))

-- WHERE A LOG IS IN THE ORDER OF ITS LIST

module _ (rules : Rules) (keeps : RulesInvariant rules) (clock : ℕ) (list : List Binding) (log : LogModel)
    (tells : Tells rules.timers clock list (unnumbered log)) (front rest : List Arrival) (at : ℕ)
    (le : last_clock clock front ≤ at) (lt : IsBeforeNext at rest) where
  abbrev from : State
  from = record { clock = clock; list = list }

  names_living : named at (unnumbered (log_on rules from log (front ++ rest)))
      ≡ map row (living rules.timers at (effect_from rules from front).list)
  unfolding log_on
  names_living =
      let entries : List Entry = unnumbered log in
      let whole : RunEffect = effect_from rules from (front ++ rest) in
      let first : RunEffect = effect_from rules from front in
      let was : ℕ = last_clock clock front in
      let later : RunEffect = run_from rules (length front) was rest first.list in
      let told : List Entry = fold (logged rules.timers) entries first.acts in
      ap (named at) (plain_acts rules keeps.timers clock list whole.acts (last_clock clock (front ++ rest)) whole.list
      (run_turn rules 0 clock (front ++ rest) list) log)
      ∙ (ap (λ (c : RunEffect). named at (fold (logged rules.timers) entries c.acts))
      (run_append rules 0 clock front rest list (length front) (omega arith))
      ∙ (ap (named at) (fold_joined (logged rules.timers) first.acts later.acts entries)
      ∙ (rest_stays rules keeps at (length front) was rest le lt first.list told
      ∙ named_now ends_are_first rules.timers keeps.timers at first.list told
      (tells_later ends_are_first rules.timers keeps.timers was at le first.list told
      (told_turn ends_are_first rules keeps.timers clock list first.acts was first.list entries
      (run_turn rules 0 clock front list) tells)))))

-- FROM A STATE

module _ (alike_go_on : AlikeStatesGoOn) (rules : Rules) (keeps : RulesInvariant rules) (state : State)
    (sound : IsSound (pair_of rules) state.list) (log : LogModel) (is : IsLogOf rules state log)
    (front rest : List Arrival) (at : ℕ) (le : last_clock state.clock front ≤ at) (lt : IsBeforeNext at rest) where
  abbrev timers : Timers
  timers = rules.timers

  abbrev rows_from : State → List Row
  rows_from begun = map row (living timers at (effect_from rules begun front).list)

  abbrev rows_named : State → List Row
  rows_named begun = named at (unnumbered (log_on rules begun log (front ++ rest)))

  abbrev ordered : State
  ordered = other alike_go_on rules keeps state sound log is

  -- What lives is what lives of the list that is taken.
  taken_rows : (list : List Binding) →
      map row (purge timers at (live_and_held timers (last_clock state.clock front) list)) ≡
      map row (living timers at list)
  taken_rows list = ap (map row) (purge_purge timers (hold_ago timers (last_clock state.clock front)) at
      (omega (arith, le)) list) ∙ rows_purge timers at list

  same_living : IsPermutation (rows_from state) (rows_from ordered)
  same_living =
      let was : ℕ = last_clock state.clock front in
      let then = alike_later timers was at le _ _ (goes alike_go_on rules keeps state sound log is front).left in
      subst (λ (rs : List Row). IsPermutation rs (rows_from ordered)) (taken_rows (effect_from rules state front).list)
      (subst (IsPermutation (map row (purge timers at (next_state rules state front).list)))
      (taken_rows (effect_from rules ordered front).list) (IsPermutation-map row _ _ then.live))

  same_log : rows_named ordered ≡ rows_named state
  unfolding log_on
  same_log = ap (λ (acts : List LegAct). named at (unnumbered (fold (after_record timers) log acts)))
      (goes alike_go_on rules keeps state sound log is (front ++ rest)).acts

  lists : IsPermutation (rows_from state) (rows_named state)
  lists = subst (IsPermutation (rows_from state)) (sym (names_living rules keeps state.clock ordered.list log
      (tells alike_go_on rules keeps state sound log is) front rest at le lt) ∙ same_log) same_living

  lists_in_order : AreInOrderOf rules state log → rows_from state ≡ rows_named state
  lists_in_order same = sym (names_living rules keeps state.clock state.list log
      (tells_state alike_go_on rules keeps state sound log is same) front rest at le lt)

pub log_lists : TakenStatesAreSound → AlikeStatesGoOn → LogListsTheLiving
log_lists taken_sound alike_go_on rules keeps state takes log is front rest now le lt =
    let sound = taken_sound rules keeps state takes [] in (
      lists alike_go_on rules keeps (with_redirects rules state) sound log is front rest now le lt,
      lists_in_order alike_go_on rules keeps (with_redirects rules state) sound log is front rest now le lt,
    )

pub log_names : LogListsTheLiving → LogNamesTheHolders
log_names all rules keeps state takes log is front rest now le lt protocol inside external =
    let begun : State = with_redirects rules state in
    let list : List Binding = (effect_from rules begun front).list in
    let entries : List Entry = unnumbered (log_on rules begun log (front ++ rest)) in
    sym (any_among (λ b. has_ends protocol inside external (row b)) (is_live rules.timers now) list)
    ∙ (sym (any_seen_of (has_ends protocol inside external) row (living rules.timers now list))
    ∙ (list_any-IsPermutation (has_ends protocol inside external) _ _
    (all rules keeps state takes log is front rest now le lt).0
    ∙ (any_seen_of (has_ends protocol inside external) (λ (e : Entry). e.binding) (filter (stands_at now) entries)
    ∙ any_among (λ (e : Entry). has_ends protocol inside external e.binding) (stands_at now) entries)))

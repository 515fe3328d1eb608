-- The workers at their end have the bindings and the state after the run.
use Rattle.std.proofs.lemmas.{Grind.common_steps, Bool.Decides.nat_tests, Option.get_or_from_slice_get}
use Rattle.std.proofs.Common.{◌≡◌, ℕ, zero, suc, ◌+◌, ◌<◌, ◌≤◌, max, List, [], ◌∷◌, ◌++◌, length, map, Result, Ok, refl, sym, ◌∙◌, ap, subst, arith, append-nil}
use Rattle.std.{proofs.lemmas.List.{length-map, Folds.flat_map-map}, specs.Prelude.{slice_index, slice_index_or, flat_map, OnOk}}
use Rattle.napt_config.specs.Rules.{Rules}
use Rattle.napt_rules.specs.{declared.Row.Row, Prelude.{next_state as run_left_by, Binding, bindings_at, hold_ago, opening, initial_state, with_redirects, Arrival, rows_of, rows, RunEffect, State, effect_from, last_clock, legs_at, RunResult, run_result_from, LocalState, local_after_all}}
use Rattle.napt_rules.specs.declared.{Leg.Leg, Outcome.Outcome}
use Rattle.napt_translate.specs.Translators.{TranslatorModel, initial_translator, local_state, with_local_state, translator_after}
use Rattle.napt_pool.specs.{declared.closing.Ended.Ended, Pools.zip_with}
use Rattle.napt_laws.{specs.LocalAgreement.IsTranslatorCurrent, proofs.{Purges.of_purge, RunsLocal.seen_from}}
use Rattle.napt_dispatch.specs.{declared.workers.RunSummary.RunSummary, RunsThrough.LeavesState}
use Rattle.napt_dispatch.{specs.Dispatch.{started_from, started_translators, of_worker, local_bindings, rows_after, IsDispatchedFrom}, proofs.{Lanes.place_within, DispatchEnds.{zip_index, zip_long, length_started, started_at}}}

-- LISTS

map_index : {X : Type 0} (f : ℕ → List X) (pool : List ℕ) (w : ℕ) → w < length pool → of_worker (map f pool) w
    ≡ f (slice_index pool w)
map_index f [] w lt = absurd (omega arith)
map_index f (a ∷ pool) zero lt = refl
map_index f (a ∷ pool) (suc w) lt = map_index f pool w (omega arith)

flat_each : (h : TranslatorModel → List Row) (k : ℕ → List Row) (xs : List TranslatorModel) (pool : List ℕ)
    (d : TranslatorModel) → length xs ≡ length pool → ((w : ℕ) → w < length pool → h (slice_index_or xs w d)
    ≡ k (slice_index pool w)) → flat_map h xs ≡ flat_map k pool
flat_each h k [] [] d e same = refl
flat_each h k [] (a ∷ pool) d e same = absurd (omega arith)
flat_each h k (x ∷ xs) [] d e same = absurd (omega arith)
flat_each h k (x ∷ xs) (a ∷ pool) d e same =
    rw (same zero (omega arith), flat_each h k xs pool d (omega arith) (λ w lt. same (suc w) (omega arith))) refl

-- WORKERS

latest : (last clock at : ℕ) → last ≡ clock → at ≤ clock → max last at ≡ clock
latest last clock at e le = omega arith

module _ (f : TranslatorModel → List Leg → TranslatorModel) where
  after_kept : ((s : TranslatorModel) → f s [] ≡ s) →
      ((s : TranslatorModel) (leg : Leg) (legs : List Leg) → f s (leg ∷ legs) ≡ f (translator_after leg s) legs) →
      (s : TranslatorModel) (legs : List Leg) →
      f s legs ≡ with_local_state s (local_after_all s.rules s.table.address legs (local_state s.table))
  after_kept none more s [] = none s
  after_kept none more s (leg ∷ legs) = more s leg legs ∙ after_kept none more (translator_after leg s) legs

  module _ (rules : Rules) (start : State) (inputs : List Arrival) (starts : List TranslatorModel)
      (accepts : List (List Leg)) (machines : List TranslatorModel) (outcomes : List Outcome) (numbers : List ℕ)
      (began : starts ≡ started_from rules start (length rules.pool)) (left : machines ≡ zip_with f starts accepts)
      (done : IsDispatchedFrom rules start inputs accepts outcomes numbers) (last : ℕ)
      (clock : last ≡ last_clock start.clock inputs) (none : (s : TranslatorModel) → f s [] ≡ s)
      (more : (s : TranslatorModel) (leg : Leg) (legs : List Leg) →
      f s (leg ∷ legs) ≡ f (translator_after leg s) legs) where
    abbrev course : RunEffect
    course = effect_from rules start inputs

    abbrev legs_of : ℕ → List Leg
    legs_of address = legs_at address course.acts

    abbrev kept_at : ℕ → LocalState
    kept_at address = local_after_all rules address (legs_of address) (local_bindings start address)

    states_are : machines ≡ zip_with f (started_from rules start (length rules.pool)) (map legs_of rules.pool)
    states_are = rw (left, began, done.legs) refl

    many_ended : length machines ≡ length rules.pool
    many_ended = let long = length-map rules.pool legs_of in
        ap length states_are
        ∙ (zip_long f (started_from rules start (length rules.pool)) (map legs_of rules.pool)
        (length_started rules start (length rules.pool) ∙ sym long) ∙ long)

    ended_at : (w : ℕ) → w < length rules.pool → slice_index_or machines w (initial_translator 0 rules)
        ≡ with_local_state (initial_translator w rules) (kept_at (slice_index rules.pool w))
    ended_at w lt =
        let n : ℕ = length rules.pool in
        let long : length (started_from rules start n) ≡ n = length_started rules start n in
        let long_legs : length (map legs_of rules.pool) ≡ n = length-map rules.pool legs_of in
        let begins : TranslatorModel = with_local_state (initial_translator w rules)
        (local_bindings start (slice_index rules.pool w)) in
        rw (
          states_are,
          zip_index f (started_from rules start n) (map legs_of rules.pool) w (initial_translator 0 rules)
              (initial_translator 0 rules)
              (omega arith) (omega arith),
          started_at rules start n w (initial_translator 0 rules) lt,
          map_index legs_of rules.pool w lt,
        )
        (after_kept none more begins (legs_of (slice_index rules.pool w)))

    at_once : (address : ℕ) → IsTranslatorCurrent rules address (last_clock start.clock inputs) (kept_at address)
        course.list
    at_once address = (seen_from rules start inputs address).leaves

    latest_at : (address : ℕ) → max last (kept_at address).at ≡ last_clock start.clock inputs
    latest_at address = latest last (last_clock start.clock inputs) (kept_at address).at clock (at_once address).past

    pub workers_shown : (bindings : List Row) → bindings ≡ flat_map (rows_after last) machines →
        (let r : RunResult = record { outcomes = outcomes; bindings = bindings; legs = numbers } in
        r ≡ run_result_from rules start inputs)
    workers_shown bindings shown =
        let rows_at : ℕ → List Row =
        λ address. rows rules.timers (last_clock start.clock inputs) (bindings_at address course.list) in
        let all : flat_map (rows_after last) machines ≡ flat_map rows_at rules.pool =
        flat_each (rows_after last) rows_at machines rules.pool (initial_translator 0 rules) many_ended (λ w lt.
        let address : ℕ = slice_index rules.pool w in
        ap (rows_after last) (ended_at w lt)
        ∙ (ap (λ (t : ℕ). rows rules.timers t (kept_at address).list) (latest_at address)
        ∙ ap rows_of (at_once address).agrees.same)) in
        rw (done.outcomes_are, shown, done.numbers_are, all) refl

    -- Their translators are those of the state after the run.
    pub workers_left : (passed : RunSummary) → passed.translators.items ≡ machines → passed.clock ≡ last →
        LeavesState rules (run_left_by rules start inputs) passed
    workers_left passed are at_last = record {
      clock = at_last ∙ clock;
      many = ap length are ∙ many_ended;
      each = λ place address translator at there.
          let p = place_within rules.pool place address at in
          let is : translator ≡ with_local_state (initial_translator place rules) (kept_at address) =
          sym (get_or_from_slice_get machines place translator (initial_translator 0 rules) (rw are at there))
          ∙ (ended_at place p.0 ∙ ap (λ (a : ℕ). with_local_state (initial_translator place rules) (kept_at a)) p.1) in
          rw is
          (record {
            timers = refl;
            past = (at_once address).past;
            taken_are = (at_once address).agrees.taken
                ∙ sym (of_purge rules.timers (hold_ago rules.timers (last_clock start.clock inputs)) address
                course.list);
          });
    }

pub started_more : (rules : Rules) (start : State) (n : ℕ) → started_from rules start (n + 1)
    ≡ started_from rules start n ++ with_local_state (initial_translator n rules)
    (local_bindings start (slice_index rules.pool n)) ∷ []
started_more rules start n = let e : n + 1 ≡ suc n = omega arith in ap (started_from rules start) e

-- A STATE WITHOUT BINDINGS: a run from it is the run from the redirects alone

nothing : (state : State) → state.clock ≡ 0 → state.list ≡ [] → state ≡ record { clock = 0; list = [] }
nothing state at none = λ i. record { clock = at i; list = none i }

pub under_nothing : (rules : Rules) (state : State) → state.clock ≡ 0 → state.list ≡ [] →
    with_redirects rules state ≡ initial_state rules
under_nothing rules state at none = ap (with_redirects rules) (nothing state at none)
    ∙ ap (λ (list : List Binding). record { clock = 0; list = list }) (append-nil (opening rules))

pub started_anew : (rules : Rules) (state : State) (starts : List TranslatorModel) → state.clock ≡ 0 →
    state.list ≡ [] → starts ≡ started_from rules (with_redirects rules state) (length rules.pool) →
    starts ≡ started_translators rules (length rules.pool)
started_anew rules state starts at none is =
    is ∙ ap (λ (start : State). started_from rules start (length rules.pool)) (under_nothing rules state at none)

-- The rows of the ended workers are those of their translators.
pub rows_shown : {A : Type 0} (last : ℕ) (bindings : List Row) (ended lent : List (Ended TranslatorModel Leg A)) →
    bindings ≡ flat_map (λ e. rows_after last e.machine) lent → lent ≡ ended →
    bindings ≡ flat_map (rows_after last) (map (λ e. e.machine) ended)
rows_shown last bindings ended lent is same = grind (arith, common_steps, nat_tests, flat_map-map)

-- FAULTS

pub on_ok_at : {T E P : Type 0} (result : Result T E) (value : T) → result ≡ Ok value → OnOk result P → P
on_ok_at {P = P} result value is holds = subst (λ (r : Result _ _). OnOk r P) is holds

-- A run that gets one input at a time: one more input, and the state after all inputs.
use Rattle.std.proofs.lemmas.{Grind.common_steps, Bool.Decides.nat_tests}
use Rattle.std.{proofs.Common.{◌≡◌, ℕ, ◌+◌, ◌^◌, ◌<◌, ◌≤◌, max, List, [], ◌∷◌, ◌++◌, length, map, refl, ◌∙◌, ap, arith}, specs.Prelude.flat_map}
use Rattle.napt_config.specs.Rules.{Rules}
use Rattle.napt_rules.specs.{declared.{Outcome.Outcome, Row.Row}, Prelude.{Arrival, step, last_clock, RunResult, State, effect_from, run_result_from}}
use Rattle.napt_sequential.specs.declared.{counted_translator.CountedTranslator.CountedTranslator, outcome.StepResult.StepResult}
use Rattle.napt_sequential.specs.{declared.sequential_run.SequentialRun.SequentialRun, CountedTranslators.{CanTake, StepTraces, rows_at, state_from}}
use Rattle.napt_sequential.{specs.SequentialRuns.{SequentialRunInvariant, StepPost}, proofs.{StepTraceSteps.traces_grow, RunModels.run_shown, RunsSoFar.{RunSoFar, after_one}}}
use Rattle.napt_laws.proofs.OneMoreInput.{acts_few}

-- ONE MORE INPUT

module _ (rules : Rules) (state : State) (before : List Arrival) (input : Arrival) (it : SequentialRun)
    (stands : SequentialRunInvariant rules state before it) (now : ℕ) (clock : now ≡ max it.clock input.clock) where
  pub is_later : last_clock state.clock before ≤ now
  is_later = let was = stands.clock in omega arith

  pub has_room : length before + 1 < 2 ^ 32 → CanTake rules now 2 it.translators.items
  has_room few = grind (arith, common_steps, nat_tests, acts_few, is_later)

  module _ (translators : List CountedTranslator) (told : StepResult)
      (steps : StepTraces rules now (step rules it.many now input (state_from rules state before).list)
      (state_from rules state before) translators told) where
    at : now ≡ max (last_clock state.clock before) input.clock
    at = clock ∙ ap (λ (t : ℕ). max t input.clock) stands.clock

    pub goes_on : RunSoFar rules state (before ++ input ∷ []) now
        ((effect_from rules state before).outcomes ++ told.outcome ∷ []) translators
    goes_on = after_one rules state before input it.many now stands.many at (effect_from rules state before).outcomes
        translators told.outcome refl steps.0

    pub tells_last : StepPost rules state before input told
    tells_last = grind (arith, common_steps, nat_tests, goes_on, traces_grow, at)

-- AFTER ALL INPUTS

module _ (rules : Rules) (state : State) (inputs : List Arrival) (it : SequentialRun)
    (stands : SequentialRunInvariant rules state inputs it) where
  pub bindings_shown : (bindings : List Row) → bindings ≡ flat_map (rows_at it.clock) it.translators.items →
      bindings ≡ (run_result_from rules state inputs).bindings
  bindings_shown bindings shown = grind (arith, common_steps, nat_tests, run_shown)

  pub legs_shown : (legs : List ℕ) → legs ≡ map (λ (s : CountedTranslator). s.legs) it.translators.items →
      legs ≡ (run_result_from rules state inputs).legs
  legs_shown legs shown = grind (arith, common_steps, nat_tests, run_shown)

pub is_ran : (rules : Rules) (state : State) (inputs : List Arrival) (outcomes : List Outcome) (bindings : List Row)
    (legs : List ℕ) →
    outcomes ≡ (effect_from rules state inputs).outcomes → bindings ≡ (run_result_from rules state inputs).bindings →
    legs ≡ (run_result_from rules state inputs).legs →
    (let r : RunResult = record { outcomes = outcomes; bindings = bindings; legs = legs } in r
    ≡ run_result_from rules state inputs)
is_ran rules state inputs outcomes bindings legs told shown counts = rw (told, shown, counts) refl

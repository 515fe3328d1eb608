-- A run that gets one input at a time.
use Rattle.std.specs.Prelude.{◌≡◌, List, [], ◌∷◌, ◌++◌, length}
use Rattle.napt_config.specs.Rules.{Rules}
use Rattle.napt_rules.specs.Prelude.{Arrival, last_clock, State, initial_state, effect_from}
use Rattle.napt_sequential.specs.declared.{outcome.StepResult.StepResult, sequential_run.SequentialRun.SequentialRun}
use Rattle.napt_sequential.specs.{CountedTranslators.{AreCountedTranslators, state_from}, Traces.traces_of}

-- The run had these inputs from a state, and its translators are those after these inputs.
pub record SequentialRunInvariant (rules : Rules) (state : State) (inputs : List Arrival) (it : SequentialRun) : Type
    0 where
  pub many : it.many ≡ length inputs
  pub clock : it.clock ≡ last_clock state.clock inputs
  pub translators : AreCountedTranslators rules (state_from rules state inputs) it.translators.items

-- The result of an input after these: the last outcome and the last trace of the run over all of them, and their time.
pub record StepPost (rules : Rules) (state : State) (before : List Arrival) (input : Arrival)
    (result : StepResult) : Type 0 where
  pub outcome : (effect_from rules state (before ++ input ∷ [])).outcomes
      ≡ (effect_from rules state before).outcomes ++ result.outcome ∷ []
  pub time : result.trace.now ≡ last_clock state.clock (before ++ input ∷ [])
  pub trace : traces_of rules state (before ++ input ∷ []) ≡ traces_of rules state before ++ result.trace ∷ []

-- The run has had these inputs, and began with the redirects of the configuration.
abbrev pub IsRunFromOpening : Rules → List Arrival → SequentialRun → Type 0
IsRunFromOpening rules inputs it = SequentialRunInvariant rules (initial_state rules) inputs it

abbrev pub StepFromOpeningPost : Rules → List Arrival → Arrival → StepResult → Type 0
StepFromOpeningPost rules before input result = StepPost rules (initial_state rules) before input result

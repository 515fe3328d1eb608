-- The result of each input of a run: its outcome, and the effects of its legs on the bindings.
use Rattle.std.specs.{Prelude.{ℕ, List, [], ◌∷◌}, List.scan}
use Rattle.napt_config.specs.Rules.{Rules}
use Rattle.napt_rules.specs.{Prelude.{Arrival, State, effect_from, LocalState, local_after}, declared.{Leg.Leg, Outcome.Outcome}}
use Rattle.napt_sequential.specs.{declared.{outcome.StepResult.StepResult, passage.{Passage.Passage, Trace.Trace}, leg_trace.TracedAnswer.TracedAnswer}, CountedTranslators.traced_by}
use Rattle.napt_sequential.specs.Traces.{traces_of}

-- Returns each outcome with its trace, in the same order.
abbrev pub steps_joined : List Outcome → List Trace → List StepResult
steps_joined (outcome ∷ outcomes) (trace ∷ traces) = record { outcome = outcome; trace = trace }
    ∷ steps_joined outcomes traces
steps_joined _ _ = []

-- Returns the results of the inputs of a run from a state, in the order of the inputs.
abbrev pub steps_of : Rules → State → List Arrival → List StepResult
steps_of rules state inputs = steps_joined (effect_from rules state inputs).outcomes (traces_of rules state inputs)

-- Returns the traced answers of a translator to a list of legs, one after another.
abbrev pub traced_replies : {P : Type 0} → (Passage → P) → Rules → ℕ → List Leg → LocalState → List (TracedAnswer P)
traced_replies tells rules address legs kept =
    scan (λ own leg. local_after rules address leg own) (λ own leg. traced_by tells rules address leg own) kept legs

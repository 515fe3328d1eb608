-- The outcomes of a run in a list.
use Rattle.std.specs.Prelude.{◌≡◌, ℕ, List, ◌++◌, map}
use Rattle.napt_rules.specs.declared.Outcome.{Outcome}
use Rattle.napt_sequential.specs.declared.leg_trace.NoTrace.{NoTrace}
use Rattle.napt_dispatch.specs.declared.{outcome_list.OutcomeList.OutcomeList, outcome_sink.InputResult.InputResult}

abbrev pub collected_outcome : {P : Type 0} → ℕ × InputResult P → Outcome
collected_outcome pair = pair.1.outcome

-- The outcomes of these results were appended to the list.
abbrev pub CollectsOutcomes : OutcomeList → List (ℕ × InputResult NoTrace) → OutcomeList → Type 0
CollectsOutcomes before pairs after = after.outcomes.items ≡ before.outcomes.items ++ map collected_outcome pairs

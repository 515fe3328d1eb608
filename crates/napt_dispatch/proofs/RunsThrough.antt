-- The result of a run, from the ending of dispatching and the right answers of the workers.
use native.Mathlib.Omega.{arith}
use Rattle.std.{proofs.lemmas.{Grind.common_steps, Bool.Decides.nat_tests}, specs.Prelude.{IfOk, OnErr}}
use Rattle.std.proofs.Common.{◌≡◌, ℕ, List, [], ◌++◌, length, map, Option, None, Some, Result, Ok, Err, ◌∙◌, ap, subst, append-nil, inl, inr}
use Rattle.napt_config.specs.Rules.{Rules}
use Rattle.napt_rules.specs.{declared.Leg.Leg, Prelude.{Arrival, RunResult, State, next_state, run_result_from}}
use Rattle.napt_pool.specs.{declared.pool.Pool.Pool, Pools.{accepted_items, taken_answers as taken}}
use Rattle.napt_sequential.{proofs.Inputs.came_whole, specs.declared.{fault.RunFault.RunFault, leg_trace.{TracedAnswer.TracedAnswer, NoTrace.NoTrace}, passage.Passage.Passage}}
use Rattle.napt_dispatch.specs.declared.{outcome_list.OutcomeList.OutcomeList, dispatcher.{DispatchResult.DispatchResult, DispatchEnd.DispatchEnd}, workers.RunSummary.RunSummary}
use Rattle.napt_dispatch.specs.{OutcomeLists.{collected_outcome, CollectsOutcomes}, Dispatch.{IsDispatchedFrom, AnswersAreRight}, declared.outcome_sink.InputResult.InputResult}
use Rattle.napt_dispatch.specs.RunsThrough.{LeavesState, DispatchOk, DispatchDeparturesErr, DispatchErr, DispatchPost, RunThroughEnd, RunThroughOk, RunThroughDeparturesErr, RunThroughErr}
use Rattle.napt_dispatch.specs.declared.dispatcher.DispatchEnd.TheVariants as endings

module _ {P : Type 0} {tells : Passage → P} {A F S B M G : Type 0} {rules : Rules} {start : State}
    {hands : A → List Arrival → A → Type 0} {ends : A → Option F → A → Type 0}
    {takes : S → List (ℕ × InputResult P) → S → Type 0} {fails : S → List (ℕ × InputResult P) → B → S → Type 0}
    {is_settled : S → Type 0} {from : A} {before : S} (pool : Pool M G Leg (TracedAnswer P)) {left : A} {after : S}
    (right : length (accepted_items pool) ≡ length rules.pool →
    AnswersAreRight tells rules start (accepted_items pool) (taken pool)) where
  pub passes_to : (end : Option F) (done : DispatchResult F B) →
      DispatchOk tells rules start hands ends takes fails is_settled from before pool left after end done →
      RunThroughEnd tells rules start hands ends takes fails is_settled from before left after end
  passes_to end done e = record {
    inputs = e.inputs;
    came = e.came;
    took = subst (λ (pairs : List (ℕ × InputResult P)). takes before pairs after) (e.right (right e.offered_many)).0
        e.took;
    settled = e.settled;
    few = e.few;
  }

  pub passes_well : (done : DispatchResult F B) (passed : RunSummary)
      (e : DispatchOk tells rules start hands ends takes fails is_settled from before pool left after None done) →
      passed.legs.items ≡ done.legs.items →
      (let r : RunResult = record {
        outcomes = map collected_outcome e.went;
        bindings = passed.bindings.items;
        legs = done.legs.items;
      } in r ≡ run_result_from rules start e.inputs) → LeavesState rules (next_state rules start e.inputs) passed →
      RunThroughOk tells rules start hands ends takes fails is_settled from before left after passed
  unfolding passes_to
  passes_well done passed e legs is leaves = record {
    whole = passes_to None done e;
    bindings = ap (λ (r : RunResult). r.bindings) is;
    legs = legs ∙ ap (λ (r : RunResult). r.legs) is;
    leaves = leaves;
  }

  pub passes_early : (fault : B) →
      DispatchDeparturesErr tells rules start hands ends takes fails is_settled from before pool left after fault →
      RunThroughDeparturesErr tells rules start hands ends takes fails is_settled from before left after fault
  passes_early fault e = record {
    inputs = e.inputs;
    went = e.went;
    come = e.come;
    front = e.right (right e.offered_many);
    failed = e.failed;
  }

  -- The result if the run itself failed, however dispatching ended.
  passes_late : (end : Option F) (done : DispatchResult F B) →
      DispatchOk tells rules start hands ends takes fails is_settled from before pool left after end done →
      RunThroughErr tells rules start hands ends takes fails is_settled from before left after
  passes_late end done e = record {
    inputs = e.inputs;
    went = e.went;
    come = inr (end, e.came);
    front = ([], append-nil e.went ∙ (e.right (right e.offered_many)).0);
    took = inl e.took;
  }

  pub passes_ended : (done : DispatchResult F B) (ending : DispatchEnd F B) →
      DispatchPost tells rules start hands ends takes fails is_settled from before pool left after done ending →
      RunThroughErr tells rules start hands ends takes fails is_settled from before left after
  passes_ended done endings.Whole e = passes_late None done e
  passes_ended done (endings.Arrival fault) e = passes_late (Some fault) done e
  passes_ended done (endings.Departure fault) e =
      let early = passes_early fault e in
      record {
        inputs = early.inputs;
        went = early.went;
        come = early.come;
        front = early.front;
        took = inr (fault, early.failed);
      }

  pub passes_closed : (clock : ℕ) → start.clock ≡ clock → (result : Result (DispatchResult F B) RunFault) → IfOk result
      (λ done. (own : State) → own.clock ≡ clock →
      DispatchPost tells rules own hands ends takes fails is_settled from before pool left after done done.ending) →
      OnErr result ((own : State) → own.clock ≡ clock →
      DispatchErr tells rules own hands ends takes fails is_settled from before pool left after) →
      RunThroughErr tells rules start hands ends takes fails is_settled from before left after
  passes_closed clock at (Ok done) ended halted = passes_ended done done.ending (ended start at)
  passes_closed clock at (Err fault) ended halted = let early = halted start at in record {
    inputs = early.inputs;
    went = early.went;
    come = early.come;
    front = early.right (right early.offered_many);
    took = inl early.took;
  }

-- INPUTS FROM A LIST

module _ {tells : Passage → NoTrace} {A F B M G : Type 0} (rules : Rules) (start : State) (list : A → List Arrival)
    (fails : OutcomeList → List (ℕ × InputResult NoTrace) → B → OutcomeList → Type 0) (is_settled : OutcomeList →
    Type 0)
    (from : A) (none : OutcomeList) (pool : Pool M G Leg (TracedAnswer NoTrace)) (left : A) (some : OutcomeList)
    (done : DispatchResult F B) (e : DispatchOk tells rules start (λ x xs y. list x ≡ xs ++ list y)
    (λ x end y. list x ≡ [])
    CollectsOutcomes fails is_settled from none pool left some None done) where
  pub answered_whole : map length (taken pool) ≡ map length (accepted_items pool)
  answered_whole = e.answered

  pub dispatched_whole : none.outcomes.items ≡ [] →
      (length (accepted_items pool) ≡ length rules.pool →
      AnswersAreRight tells rules start (accepted_items pool) (taken pool)) →
      IsDispatchedFrom rules start (list from) (accepted_items pool) some.outcomes.items done.legs.items
  dispatched_whole empty right = grind (arith, common_steps, nat_tests, came_whole)

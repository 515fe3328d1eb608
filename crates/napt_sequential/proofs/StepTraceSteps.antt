-- The traces with one more input, and the result of a step.
use Rattle.std.{proofs.lemmas.{Grind.common_steps, Bool.Decides.nat_tests, Option.slice_get-get_or}, specs.List.slice_get}
use Rattle.std.proofs.Common.{◌≡◌, ℕ, ◌+◌, ◌<◌, ◌≤◌, ◌^◌, max, List, [], ◌∷◌, ◌++◌, length, get_or, Some, sym, ◌∙◌, ap, subst, arith, length-append}
use Rattle.napt_wire.specs.{declared.{Cause.Cause, Way.TheVariants.Incoming}, Fields.destination}
use Rattle.napt_config.specs.Rules.{Rules}
use Rattle.napt_rules.specs.Prelude.{Binding, act, Arrival, RunEffect, outcome_of, leg_effect, with_second_leg, refused_effect, admitted_effect, step, run_from, last_clock}
use Rattle.napt_rules.specs.declared.{Leg.Leg, End.{End, TheVariants.Onward}, Outcome.Outcome}
use Rattle.napt_sequential.specs.declared.{counted_translator.CountedTranslator.CountedTranslator, outcome.StepResult.StepResult, passage.Passage.Passage}
use Rattle.napt_sequential.specs.declared.{leg_trace.TracedAnswer.TracedAnswer, passage.Trace.Trace}
use Rattle.napt_sequential.specs.CountedTranslators.{SequentialRunModel, AreCountedTranslators, CanTake, TracesLeg, StepFollows, StepTraces, act_of, traced_act, state_after}
use Rattle.napt_sequential.{specs.Traces.{trace_of, traces_from}, proofs.Steps.{follows_once, follows_twice, follows_none}}
use Rattle.napt_rules.specs.declared.Outcome.TheVariants as outcomes
use Rattle.napt_sequential.specs.declared.passage.Passage.TheVariants as passages
use Rattle.napt_laws.proofs.{Pools.stands_at, OnwardLegs.onward_place}

-- ONE MORE INPUT

pub traces_grow : (rules : Rules) (number clock : ℕ) (inputs : List Arrival) (input : Arrival) (list : List Binding)
    (at : ℕ) → number + length inputs ≡ at →
    (let now : ℕ = max (last_clock clock inputs) input.clock in
    traces_from rules number clock (inputs ++ input ∷ []) list ≡ traces_from rules number clock inputs list
    ++ trace_of rules.timers now (step rules at now input (run_from rules number clock inputs list).list) ∷ [])
traces_grow rules number clock [] input list at e =
    let here : number ≡ at = omega arith in
    let now : ℕ = max clock input.clock in
    ap (λ (n : ℕ). trace_of rules.timers now (step rules n now input list) ∷ []) here
traces_grow rules number clock (i ∷ inputs) input list at e =
    let now : ℕ = max clock i.clock in
    let first : RunEffect = step rules number now i list in
    ap (λ (ts : List Trace). trace_of rules.timers now first ∷ ts)
    (traces_grow rules (number + 1) now inputs input first.list at (omega arith))

-- STEPS

-- If a first leg goes onward, the translators after it can translate the second leg at the address that it goes to.
pub goes_onward : (rules : Rules) (place : ℕ) (leg : Leg) (before after : List CountedTranslator)
    (passed : TracedAnswer Passage) → place < length rules.pool → CanTake rules leg.now 2 before →
    TracesLeg rules place leg before after passed → (to : ℕ) (packet : List ℕ) → passed.answer.end ≡ Onward to packet →
    CanTake rules leg.now 1 after × (slice_get rules.pool to ≡ Some (destination packet).address)
goes_onward rules place leg before after passed within can_take takes to packet is =
    let state : SequentialRunModel = can_take.0 in
    let address : ℕ = get_or rules.pool place 0 in
    let at : slice_get rules.pool place ≡ Some address = slice_get-get_or rules.pool place 0 within in
    let room : length state.acts + 2 < 2 ^ 64 = can_take.3 in
    let next : SequentialRunModel = state_after rules address leg state in
    let long : length next.acts ≡ length state.acts + 1 = length-append state.acts _ in
    let took = takes state address can_take.1 can_take.2 at in
    let acted : (act rules address leg state.list).end ≡ Onward to packet =
    sym (ap (λ (p : TracedAnswer Passage). p.answer.end) took.0) ∙ is in (
      (next, took.1, omega arith, omega arith),
      stands_at rules.pool (destination packet).address to (onward_place rules address leg state.list to packet acted),
    )

-- A first leg with this end, which is the only leg of its input.
pub steps_once : (rules : Rules) (address : ℕ) (leg : Leg) (state : SequentialRunModel)
    (translators : List CountedTranslator)
    (passed : TracedAnswer Passage) (last : End) →
    passed ≡ traced_act (λ passage. passage) rules.timers (act_of address leg (act rules address leg state.list)) →
    passed.answer.end ≡ last → with_second_leg rules address leg (act rules address leg state.list) last
    ≡ leg_effect address leg (act rules address leg state.list) →
    AreCountedTranslators rules (state_after rules address leg state) translators → (stepped : StepResult) →
    stepped.outcome ≡ outcome_of last →
    stepped.trace ≡ record { now = leg.now; first = passed.passage; second = passages.Nothing } →
    StepTraces rules leg.now (admitted_effect rules address leg state.list) state translators stepped
steps_once rules address leg state translators passed last passes is alone are stepped told trace =
    grind (arith, common_steps, nat_tests, follows_once)

pub steps_twice : (rules : Rules) (address : ℕ) (leg : Leg) (state : SequentialRunModel)
    (translators : List CountedTranslator)
    (place : ℕ) (packet : List ℕ) (passed : TracedAnswer Passage) →
    passed ≡ traced_act (λ passage. passage) rules.timers (act_of address leg (act rules address leg state.list)) →
    passed.answer.end ≡ Onward place packet →
    (let next : Leg = record leg { way = Incoming; packet = packet } in
    let to : ℕ = (destination packet).address in
    let between : SequentialRunModel = state_after rules address leg state in
    AreCountedTranslators rules (state_after rules to next between) translators → (second : TracedAnswer Passage) →
    second ≡ traced_act (λ passage. passage) rules.timers (act_of to next (act rules to next between.list)) →
    (outcome : Outcome) → outcome ≡ outcome_of second.answer.end → (let stepped : StepResult = record {
      outcome = outcome;
      trace = record { now = leg.now; first = passed.passage; second = second.passage };
    } in StepTraces rules leg.now (admitted_effect rules address leg state.list) state translators stepped))
steps_twice rules address leg state translators place packet passed passes is =
    grind (arith, common_steps, nat_tests, follows_twice)

pub steps_none : (rules : Rules) (now : ℕ) (state : SequentialRunModel) (translators : List CountedTranslator) →
    state.clock ≤ now → AreCountedTranslators rules state translators → (cause : Cause) (stepped : StepResult) →
    stepped.outcome ≡ outcomes.Dropped cause →
    stepped.trace ≡ record { now = now; first = passages.Nothing; second = passages.Nothing } →
    StepTraces rules now (refused_effect cause state.list) state translators stepped
steps_none rules now state translators later are cause stepped told trace = (
  subst (λ (o : Outcome). StepFollows rules now (refused_effect cause state.list) state translators o) (sym told)
      (follows_none rules now state translators later are cause),
  trace,
)

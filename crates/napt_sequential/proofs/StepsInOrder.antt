-- The steps of a run: one for each input, in their order.
use Rattle.std.proofs.lemmas.{Grind.common_steps, Bool.Decides.nat_tests}
use Rattle.std.{proofs.Common.{◌≡◌, ℕ, zero, suc, ◌+◌, max, List, [], ◌∷◌, ◌++◌, length, map, Some, Err, refl, sym, ◌∙◌, ap, arith}, specs.List.slice_get}
use Rattle.napt_wire.specs.declared.Cause.{Cause}
use Rattle.napt_config.specs.Rules.{Rules}
use Rattle.napt_rules.specs.{Prelude.{Binding, admission, Arrival, RunEffect, first_leg, step_as, step, last_clock, State, effect_from}, declared.Outcome.Outcome}
use Rattle.napt_laws.{specs.Dispatching.IsFrontOf, proofs.OneMoreInput.outcomes_long}
use Rattle.napt_sequential.specs.{declared.passage.{Passage.TheVariants.Nothing, Trace.Trace}, Steps.{steps_joined, steps_of}}
use Rattle.napt_sequential.{specs.Traces.{trace_of, traces_from, traces_of}, proofs.StepTraceSteps.traces_grow}

-- LISTS

pub joined_get : (os : List Outcome) (ts : List Trace) (n : ℕ) (o : Outcome) (t : Trace) → slice_get os n ≡ Some o →
    slice_get ts n ≡ Some t → slice_get (steps_joined os ts) n ≡ Some (record { outcome = o; trace = t })
joined_get [] ts n o t h g = cc
joined_get (x ∷ os) [] n o t h g = cc
joined_get (x ∷ os) (y ∷ ts) zero o t h g = grind (arith, common_steps, nat_tests)
joined_get (x ∷ os) (y ∷ ts) (suc n) o t h g = joined_get os ts n o t h g

joined_long : (os : List Outcome) (ts : List Trace) (n : ℕ) → length os ≡ n → length ts ≡ n →
    length (steps_joined os ts) ≡ n
joined_long [] ts n h g = h
joined_long (o ∷ os) [] n h g = absurd (omega arith)
joined_long (o ∷ os) (t ∷ ts) zero h g = absurd (omega arith)
joined_long (o ∷ os) (t ∷ ts) (suc n) h g = ap suc (joined_long os ts n (omega arith) (omega arith))

joined_outcomes : (os : List Outcome) (ts : List Trace) → length os ≡ length ts →
    map (λ s. s.outcome) (steps_joined os ts) ≡ os
joined_outcomes [] ts e = refl
joined_outcomes (o ∷ os) [] e = absurd (omega arith)
joined_outcomes (o ∷ os) (t ∷ ts) e = ap (λ (l : List Outcome). o ∷ l) (joined_outcomes os ts (omega arith))

get_at : {X : Type 0} (xs : List X) (x : X) (rest : List X) (n : ℕ) → length xs ≡ n →
    slice_get ((xs ++ x ∷ []) ++ rest) n ≡ Some x
get_at [] x rest zero e = refl
get_at [] x rest (suc n) e = absurd (omega arith)
get_at (y ∷ xs) x rest zero e = absurd (omega arith)
get_at (y ∷ xs) x rest (suc n) e = get_at xs x rest n (omega arith)

-- RUNS

pub traces_long : (rules : Rules) (number clock : ℕ) (inputs : List Arrival) (list : List Binding) →
    length (traces_from rules number clock inputs list) ≡ length inputs
traces_long rules number clock [] list = refl
traces_long rules number clock (input ∷ inputs) list =
    let now : ℕ = max clock input.clock in
    ap suc (traces_long rules (number + 1) now inputs (step rules number now input list).list)

pub traces_begin : (rules : Rules) (number clock : ℕ) (xs ys : List Arrival) (list : List Binding) →
    IsFrontOf (traces_from rules number clock xs list) (traces_from rules number clock (xs ++ ys) list)
traces_begin rules number clock [] ys list = (traces_from rules number clock ys list, refl)
traces_begin rules number clock (x ∷ xs) ys list =
    let now : ℕ = max clock x.clock in
    let first : RunEffect = step rules number now x list in
    let more = traces_begin rules (number + 1) now xs ys first.list in
    (more.0, ap (λ (l : List Trace). trace_of rules.timers now first ∷ l) more.1)

pub steps_long : (rules : Rules) (state : State) (inputs : List Arrival) → length
    (steps_of rules state inputs) ≡ length inputs
steps_long rules state inputs = grind (arith, common_steps, nat_tests, joined_long, outcomes_long, traces_long)

pub steps_outcomes : (rules : Rules) (state : State) (inputs : List Arrival) →
    map (λ s. s.outcome) (steps_of rules state inputs) ≡ (effect_from rules state inputs).outcomes
steps_outcomes rules state inputs = grind (arith, common_steps, nat_tests, joined_outcomes, outcomes_long, traces_long)

pub steps_get : (rules : Rules) (state : State) (inputs : List Arrival) (n : ℕ) (o : Outcome) (t : Trace) →
    slice_get (effect_from rules state inputs).outcomes n ≡ Some o → slice_get
    (traces_of rules state inputs) n ≡ Some t → slice_get (steps_of rules state inputs) n ≡ Some
    (record { outcome = o; trace = t })
steps_get rules state inputs n o t = joined_get (effect_from rules state inputs).outcomes
    (traces_of rules state inputs) n o t

-- The trace of an input that is dropped before any leg.
pub refused_trace : (rules : Rules) (state : State) (done rest : List Arrival) (input : Arrival) (number now : ℕ) →
    length done ≡ number → max (last_clock state.clock done) input.clock ≡ now → (cause : Cause) →
    admission rules input ≡ Err cause → slice_get (traces_of rules state ((done ++ input ∷ []) ++ rest)) number
    ≡ Some (record { now = now; first = Nothing; second = Nothing })
refused_trace rules state done rest input number now long clock cause is =
    let list : List Binding = (effect_from rules state done).list in
    let none : Trace = record { now = now; first = Nothing; second = Nothing } in
    let grown : traces_of rules state (done ++ input ∷ []) ≡ traces_of rules state done ++ none ∷ [] =
    traces_grow rules 0 state.clock done input state.list number (omega arith)
    ∙ (ap (λ (t : ℕ). traces_of rules state done ++ trace_of rules.timers t (step rules number t input list) ∷ []) clock
    ∙ ap (λ a. traces_of rules state done ++ trace_of rules.timers now
    (step_as rules (first_leg number now input.side) a list) ∷ []) is) in
    let front = traces_begin rules 0 state.clock (done ++ input ∷ []) rest state.list in
    ap (λ (ts : List Trace). slice_get ts number) (sym front.1 ∙ ap (λ (ts : List Trace). ts ++ front.0) grown)
    ∙ get_at (traces_of rules state done) none front.0 number (traces_long rules 0 state.clock done state.list ∙ long)

pub input_there : (done rest : List Arrival) (input : Arrival) (number : ℕ) → length done ≡ number →
    slice_get ((done ++ input ∷ []) ++ rest) number ≡ Some input
input_there done rest input number long = get_at done input rest number long

joined_traces : (os : List Outcome) (ts : List Trace) → length os ≡ length ts →
    map (λ s. s.trace) (steps_joined os ts) ≡ ts
joined_traces [] [] e = refl
joined_traces [] (t ∷ ts) e = absurd (omega arith)
joined_traces (o ∷ os) [] e = absurd (omega arith)
joined_traces (o ∷ os) (t ∷ ts) e = ap (λ (l : List Trace). t ∷ l) (joined_traces os ts (omega arith))

-- The traces of the steps are those of the run.
pub steps_traces : (rules : Rules) (state : State) (inputs : List Arrival) →
    map (λ s. s.trace) (steps_of rules state inputs) ≡ traces_of rules state inputs
steps_traces rules state inputs = grind (arith, common_steps, nat_tests, joined_traces, outcomes_long, traces_long)

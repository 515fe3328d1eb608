-- step: the effects of one more input are possible, so that the builder takes them, and the invariant is preserved.
use Rattle.std.proofs.lemmas.{Grind.common_steps, Bool.Decides.nat_tests}
use Rattle.std.proofs.Common.{◌≡◌, ◌+◌, ◌^◌, ◌<◌, false, inl, inr, List, [], ◌∷◌, ◌++◌, length, sym, ◌∙◌, ap, subst, arith}
use Rattle.std.proofs.lemmas.{Bool.cases_lt, Result.err_from_is_err_and, List.length-append}
use Rattle.napt_rules.specs.Prelude.{Arrival, Rules, State, last_clock}
use Rattle.napt_sequential.specs.{SequentialRuns.{SequentialRunInvariant, StepPost}, declared.passage.Trace.Trace}
use Rattle.napt_account.specs.{declared.logged_run.LogStep.LogStep, BindingTallies.use_of, Effects.AreNextEffects, Log.{LogModel, after_input, log_on}, LogBuilders.{LogBuilderModel, taken_in}, LogParts.part_between}
use Rattle.napt_account.specs.LoggedRuns.{IsLoggedRun, IsStepFault, LoggedRunModel, LoggedStepPost, log_begun, state_begun}
use Rattle.napt_account.proofs.LoggedRuns.{log_fault, log_next, not_many, part_next, taken_more}
use Rattle.napt_account.proofs.logged_run.LoggedRun.step.Goals as goal

pub step-requires : goal.step-requires
step-requires c = grind (arith, common_steps, nat_tests)

pub returns-in_err-part : goal.returns-in_err-part
returns-in_err-part c =
    let it = c.self.inside in
    let rules : Rules = it.log.rules in
    let state : State = state_begun rules it.begun.items in
    let first : LogModel = log_begun rules it.begun.items it.saved.items in
    let before : List Arrival = taken_in it.past.items in
    let input : Arrival = c.args.input.now in
    let trace : Trace = c.in_ok-stepped.stepped.trace in
    let is = c.self.invariant c.if-self.false in
    let stands = subst (λ (r : Rules). SequentialRunInvariant r state before it.run) (sym c.config-config.ensures)
    is.stands in
    let tells = subst (λ (r : Rules). StepPost r state before input c.in_ok-stepped.stepped)
    c.config-config.ensures (c.in_ok-stepped.ensures.tells state before stands) in
    let few : length before + 1 < 2 ^ 32 = elim (cases_lt (length before + 1) (2 ^ 32)) [
      | inl lt ↦ lt
      | inr ge ↦ let never = (c.in_ok-stepped.ensures.too_many state before stands).1 ge in cc
    ] in
    let next : AreNextEffects it.log.clock it.log.log trace =
    subst (λ (l : LogModel). AreNextEffects it.log.clock l trace) (sym is.log_is)
    (subst (λ n. AreNextEffects n (log_on rules state first before) trace) (sym is.clock)
    (is.come before input trace tells.trace)) in
    let p = err_from_is_err_and c.from_residual-in_err-part.result c.from_residual-in_err-part.ensures.1 in
    let memory = log_fault it.log (length before) is.taken few trace next c.in_err-part.field-0.0
    (c.in_err-part.ensures.err is.goes_on) in
    rw (p.1, p.2) (record {
      tells = λ going. tt;
      goes = λ going. tt;
      err = λ going. subst (IsStepFault (c.args.self.now.inputs ++ input ∷ [])) (sym memory) tt;
      too_many = λ going. not_many c.args.self.now.inputs
          (subst (λ (v : LoggedRunModel). length v.inputs + 1 < 2 ^ 32) c.self.view_is few) c.in_err-part.field-0.0
          memory;
    })

pub returns-clause-tells : goal.returns-clause-tells
returns-clause-tells c = λ going.
    let it = c.self.inside in
    let rules : Rules = it.log.rules in
    let state : State = state_begun rules it.begun.items in
    let first : LogModel = log_begun rules it.begun.items it.saved.items in
    let before : List Arrival = taken_in it.past.items in
    let input : Arrival = c.args.input.now in
    let trace : Trace = c.in_ok-stepped.stepped.trace in
    let is = c.self.invariant (ap (λ (v : LoggedRunModel). v.is_stopped) c.self.view_is ∙ going) in
    let stands = subst (λ (r : Rules). SequentialRunInvariant r state before it.run) (sym c.config-config.ensures)
    is.stands in
    let tells = subst (λ (r : Rules). StepPost r state before input c.in_ok-stepped.stepped)
    c.config-config.ensures (c.in_ok-stepped.ensures.tells state before stands) in
    let part = c.in_ok-part.ensures in
    let step : LogStep = record { outcome = c.in_ok-stepped.stepped.outcome; part = c.in_ok-part.part } in
    subst (λ (v : LoggedRunModel). LoggedStepPost v input step) c.self.view_is (record {
      outcome = tells.outcome;
      effects = trace;
      trace = tells.trace;
      used = part.uses is.goes_on ∙ ap (λ (l : LogModel). use_of l trace) is.log_is;
      part = part.tells is.goes_on
          ∙ (ap (λ n. part_between n trace.now it.log.log (after_input it.log.log trace)) is.clock
          ∙ (ap (λ (l : LogModel). part_between (last_clock state.clock before) trace.now l (after_input l trace))
          is.log_is
          ∙ part_next c.effects_are_the_log.ensures.log rules state first before input trace tells.trace tells.time));
    })

pub returns-clause-goes : goal.returns-clause-goes
returns-clause-goes c = λ going.
    let it = c.self.inside in
    let is = c.self.invariant c.if-self.false in
    let goes = c.in_ok-part.ensures.goes is.goes_on in
    let inputs = ap taken_in c.and-self-inside.ensures ∙ taken_more it.past.items 0 c.args.input.now in
    let running = sym c.if-self.false in
    subst (λ (v : LoggedRunModel). (let next : LoggedRunModel = record {
      rules = c.enter.new.self.rules;
      state = state_begun c.enter.new.self.rules it.begun.items;
      log = log_begun c.enter.new.self.rules it.begun.items it.saved.items;
      inputs = taken_in c.and-self-inside.result.items;
      is_stopped = false;
    } in next ≡ record v { inputs = v.inputs ++ c.args.input.now ∷ [] })) c.self.view_is (λ i. record {
      rules = (goes i).rules;
      state = state_begun (goes i).rules it.begun.items;
      log = log_begun (goes i).rules it.begun.items it.saved.items;
      inputs = inputs i;
      is_stopped = running i;
    })

pub returns-in_err-stepped-clause-err : goal.returns-in_err-stepped-clause-err
returns-in_err-stepped-clause-err c =
    let many = c.in_err-stepped.ensures.too_many (state_begun c.self.inside.log.rules c.self.inside.begun.items) in
    grind (arith, common_steps, nat_tests)

pub returns-in_err-stepped-clause-too_many : goal.returns-in_err-stepped-clause-too_many
returns-in_err-stepped-clause-too_many c =
    let many = c.in_err-stepped.ensures.too_many (state_begun c.self.inside.log.rules c.self.inside.begun.items) in
    grind (arith, common_steps, nat_tests)

pub returns-clause-too_many : goal.returns-clause-too_many
returns-clause-too_many c =
    let many = c.in_ok-stepped.ensures.too_many (state_begun c.self.inside.log.rules c.self.inside.begun.items) in
    grind (arith, common_steps, nat_tests)

pub invariant_of-self-2 : goal.invariant_of-self-2
invariant_of-self-2 c = λ going.
    let it = c.self.inside in
    let before : List Arrival = taken_in it.past.items in
    let input : Arrival = c.args.input.now in
    let trace : Trace = c.in_ok-stepped.stepped.trace in
    let is = c.self.invariant c.if-self.false in
    let rules : Rules = it.log.rules in
    let state : State = state_begun rules it.begun.items in
    let first : LogModel = log_begun rules it.begun.items it.saved.items in
    let stands = subst (λ (r : Rules). SequentialRunInvariant r state before it.run) (sym c.config-config.ensures)
    is.stands in
    let tells = subst (λ (r : Rules). StepPost r state before input c.in_ok-stepped.stepped)
    c.config-config.ensures (c.in_ok-stepped.ensures.tells state before stands) in
    let many : length (before ++ input ∷ []) ≡ length before + 1 = length-append before (input ∷ []) in
    subst (λ (xs : List Arrival). IsLoggedRun (state_begun c.enter.new.self.rules it.begun.items)
    (log_begun c.enter.new.self.rules it.begun.items it.saved.items) xs c.step.new.self
    c.enter.new.self) (sym (ap taken_in c.and-self-inside.ensures ∙ taken_more it.past.items 0 input))
    (subst (λ (log : LogBuilderModel). IsLoggedRun (state_begun log.rules it.begun.items)
    (log_begun log.rules it.begun.items it.saved.items) (before ++ input ∷ []) c.step.new.self
    log) (sym (c.in_ok-part.ensures.goes is.goes_on)) (record {
      keeps = is.keeps;
      stands = subst (λ (r : Rules). SequentialRunInvariant r state (before ++ input ∷ []) c.step.new.self)
          c.config-config.ensures
          (c.in_ok-stepped.ensures.stands state before stands);
      come = is.come;
      clock = tells.time;
      log_is = ap (λ (l : LogModel). after_input l trace) is.log_is
          ∙ log_next c.effects_are_the_log.ensures.log rules state first before input trace tells.trace;
      taken = ap (λ n. n + 1) is.taken ∙ sym many;
      goes_on = is.goes_on;
    }))

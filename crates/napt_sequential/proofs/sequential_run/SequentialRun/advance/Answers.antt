-- advance: the legs can be counted, and the invariant and the result hold with one more input.
use Rattle.std.proofs.{Common.{◌≡◌, ℕ, max, List, [], ◌∷◌, ◌++◌, length, length-append, sym, ◌∙◌, ap, subst, arith}, lemmas.List.with_items_is}
use Rattle.napt_config.specs.Rules.{Rules}
use Rattle.napt_rules.specs.Prelude.{Arrival}
use Rattle.napt_sequential.specs.declared.counted_translator.CountedTranslator.{CountedTranslator}
use Rattle.napt_sequential.specs.CountedTranslators.{AreCountedTranslators, CanTake, state_from}
use Rattle.napt_sequential.proofs.SequentialRuns.{is_later, has_room, goes_on, tells_last}
use Rattle.napt_sequential.proofs.sequential_run.SequentialRun.advance.Goals as goal

pub step-requires-clause-can_take : goal.step-requires-clause-can_take
step-requires-clause-can_take c =
    let input : Arrival = c.args.input.now in
    let clock : c.max-now.result ≡ max c.args.self.now.clock input.clock = c.max-now.ensures
    ∙ ap (λ (a : Arrival). max c.args.self.now.clock a.clock) c.input.view_is in
    subst (CanTake c.args.config.now c.max-now.result 2) (sym c.deref_mut.ensures.value)
    (has_room c.args.config.now c.requires.few.0 c.requires.few.1.0 input c.args.self.now
    c.requires.few.1.1 c.max-now.result clock c.requires.few.1.2)

pub returns-clause-tells : goal.returns-clause-tells
returns-clause-tells c = λ state before stands.
    let rules : Rules = c.args.config.now in
    let input : Arrival = c.args.input.now in
    let now : ℕ = c.max-now.result in
    let clock : now ≡ max c.args.self.now.clock input.clock = c.max-now.ensures
    ∙ ap (λ (a : Arrival). max c.args.self.now.clock a.clock) c.input.view_is in
    tells_last rules state before input c.args.self.now stands now clock c.step.new.translators c.in_ok-stepped.stepped
    (c.in_ok-stepped.ensures (state_from rules state before)
    (subst (AreCountedTranslators rules (state_from rules state before))
    (sym c.deref_mut.ensures.value) stands.translators)
    (is_later rules state before input c.args.self.now stands now clock))

pub returns-clause-stands : goal.returns-clause-stands
returns-clause-stands c = λ state before stands.
    let rules : Rules = c.args.config.now in
    let input : Arrival = c.args.input.now in
    let now : ℕ = c.max-now.result in
    let clock : now ≡ max c.args.self.now.clock input.clock = c.max-now.ensures
    ∙ ap (λ (a : Arrival). max c.args.self.now.clock a.clock) c.input.view_is in
    let left : List CountedTranslator = c.step.new.translators in
    let after = goes_on rules state before input c.args.self.now stands now clock left c.in_ok-stepped.stepped
    (c.in_ok-stepped.ensures (state_from rules state before)
    (subst (AreCountedTranslators rules (state_from rules state before))
    (sym c.deref_mut.ensures.value) stands.translators)
    (is_later rules state before input c.args.self.now stands now clock)) in
    let own = c.args.self.now.translators.ok.0 in
    let pool = after.translators.many in
    let was = stands.translators.many in
    let long : length left ≡ c.args.self.now.translators.len = omega arith in
    record {
      many =
          let one = length-append before (input ∷ []) in
          let many = stands.many in
          omega arith;
      clock = after.clock;
      translators = subst (AreCountedTranslators rules (state_from rules state (before ++ input ∷ [])))
          (sym (with_items_is c.args.self.now.translators left long)) after.translators;
    }

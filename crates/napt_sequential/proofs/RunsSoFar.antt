-- A run with the translators so far, and after one more input.
use Rattle.std.proofs.Common.{◌≡◌, ℕ, max, List, [], ◌∷◌, ◌++◌, length, sym, ◌∙◌, ap, subst, arith}
use Rattle.napt_config.specs.Rules.{Rules}
use Rattle.napt_rules.specs.{Prelude.{Arrival, RunEffect, effect_then, step, last_clock, State, effect_from}, declared.Outcome.Outcome}
use Rattle.napt_sequential.specs.declared.counted_translator.CountedTranslator.{CountedTranslator}
use Rattle.napt_sequential.specs.CountedTranslators.{AreCountedTranslators, StepFollows, state_from}
use Rattle.napt_laws.proofs.OneMoreInput.{grows, clock_more}

-- ONE MORE INPUT

-- A run so far: its clock, its outcomes, and the translators of its state.
pub record RunSoFar (rules : Rules) (state : State) (done : List Arrival) (now : ℕ) (told : List Outcome)
    (left : List CountedTranslator) : Type 0 where
  pub clock : now ≡ last_clock state.clock done
  pub outcomes : told ≡ (effect_from rules state done).outcomes
  pub translators : AreCountedTranslators rules (state_from rules state done) left

pub after_one : (rules : Rules) (state : State) (done : List Arrival) (input : Arrival) (number now : ℕ) →
    number ≡ length done → now ≡ max (last_clock state.clock done) input.clock → (outcomes : List Outcome)
    (translators : List CountedTranslator) (outcome : Outcome) → outcomes ≡ (effect_from rules state done).outcomes →
    StepFollows rules now (step rules number now input (state_from rules state done).list)
    (state_from rules state done) translators outcome →
    RunSoFar rules state (done ++ input ∷ []) now (outcomes ++ outcome ∷ []) translators
after_one rules state done input number now many clock outcomes translators outcome told follows =
    let course : RunEffect = effect_from rules state done in
    let stepped : RunEffect = step rules number now input course.list in
    let here : step rules (length done) (max (last_clock state.clock done) input.clock) input course.list ≡ stepped =
    ap (λ (n : ℕ). step rules n (max (last_clock state.clock done) input.clock) input course.list) (sym many)
    ∙ ap (λ (t : ℕ). step rules number t input course.list) (sym clock) in
    let more : effect_from rules state (done ++ input ∷ []) ≡ effect_then course stepped =
    grows rules 0 state.clock done input state.list (length done) (omega arith) ∙ ap (effect_then course) here in
    let last : now ≡ last_clock state.clock (done ++ input ∷ []) = clock ∙ sym (clock_more state.clock done input) in
    record {
      clock = last;
      outcomes = ap (λ (os : List Outcome). os ++ outcome ∷ []) told
          ∙ (ap (λ (os : List Outcome). course.outcomes ++ os) (sym follows.0)
          ∙ ap (λ (k : RunEffect). k.outcomes) (sym more));
      translators =
          let held : AreCountedTranslators rules (record {
            clock = now;
            acts = (effect_then course stepped).acts;
            list =
                (effect_then course stepped).list;
          }) translators = follows.1 in
          subst (λ (t : ℕ). AreCountedTranslators rules
          (record {
            clock = t;
            acts = (effect_from rules state (done ++ input ∷ [])).acts;
            list =
                (effect_from rules state (done ++ input ∷ [])).list;
          }) translators) last
          (subst (λ (k : RunEffect). AreCountedTranslators rules (record { clock = now; acts = k.acts; list = k.list })
          translators) (sym more) held);
    }

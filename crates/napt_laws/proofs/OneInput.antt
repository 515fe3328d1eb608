-- A run over one more input.
use Rattle.std.proofs.Common.{◌≡◌, ℕ, zero, suc, ◌+◌, ◌<◌, max, List, [], ◌∷◌, ◌++◌, length, Some, Result, refl, sym, ◌∙◌, ap, arith, get_or, take, drop, slice_get}
use Rattle.std.proofs.lemmas.List.{take_more, take-append-drop}
use Rattle.napt_rules.specs.Prelude.{Binding, Arrival, admission, RunEffect, effect_then, first_leg, step_as, step, run_from, last_clock, State, effect_from, Cause, Rules}
use Rattle.napt_rules.specs.declared.Outcome.{Outcome}
use Rattle.napt_laws.{specs.Dispatching.IsFrontOf, proofs.{OneMoreInput.run_append, DispatchLaws.runs_grow}}

-- A RUN BEGINS WITH THE RUN OVER ITS FIRST INPUTS

pub acts_begin : (rules : Rules) (number clock : ℕ) (xs ys : List Arrival) (list : List Binding) →
    IsFrontOf (run_from rules number clock xs list).acts (run_from rules number clock (xs ++ ys) list).acts
acts_begin rules number clock xs ys list =
    (_, sym (ap (λ (r : RunEffect). r.acts) (run_append rules number clock xs ys list _ refl)))

pub outcomes_begin : (rules : Rules) (number clock : ℕ) (xs ys : List Arrival) (list : List Binding) →
    IsFrontOf (run_from rules number clock xs list).outcomes (run_from rules number clock (xs ++ ys) list).outcomes
outcomes_begin rules number clock xs ys list =
    (_, sym (ap (λ (r : RunEffect). r.outcomes) (run_append rules number clock xs ys list _ refl)))

pub get_at : (xs : List Outcome) (o : Outcome) (rest : List Outcome) (n : ℕ) → length xs ≡ n →
    slice_get ((xs ++ o ∷ []) ++ rest) n ≡ Some o
get_at [] o rest zero e = refl
get_at [] o rest (suc n) e = absurd (omega arith)
get_at (x ∷ xs) o rest zero e = absurd (omega arith)
get_at (x ∷ xs) o rest (suc n) e = get_at xs o rest n (omega arith)

module _ (rules : Rules) (state : State) (done rest : List Arrival) (input : Arrival) (number now : ℕ)
    (long : length done ≡ number)
    (clock : max (last_clock state.clock done) input.clock ≡ now) where
  -- The effect of the run over one more input.
  pub grown : (admitted_as : Result (List ℕ) Cause) → admission rules input ≡ admitted_as →
      effect_from rules state (done ++ input ∷ []) ≡ effect_then (effect_from rules state done)
      (step_as rules (first_leg number now input.side) admitted_as (effect_from rules state done).list)
  grown admitted_as is =
      let r : RunEffect = effect_from rules state done in
      runs_grow rules state done input
      ∙ (ap (λ (n : ℕ). effect_then r (step rules n (max (last_clock state.clock done) input.clock) input r.list)) long
      ∙ (ap (λ (t : ℕ). effect_then r (step rules number t input r.list)) clock
      ∙ ap (λ (a : Result (List ℕ) Cause). effect_then r (step_as rules (first_leg number now input.side) a r.list))
      is))

-- ONE ROUND OF THE LOOP

module _ (inputs : List Arrival) (n : ℕ) (lt : n < length inputs) (none : Arrival) where
  pub whole : (take n inputs ++ get_or inputs n none ∷ []) ++ drop (n + 1) inputs ≡ inputs
  whole = ap (λ (l : List Arrival). l ++ drop (n + 1) inputs) (sym (take_more inputs n none lt))
      ∙ take-append-drop (n + 1) inputs

-- The traced answers of one address's translator are those of the whole run.
use Rattle.std.proofs.lemmas.{Grind.common_steps, Bool.{Decides.nat_tests, eqb-true, eqb-false}}
use Rattle.std.proofs.Common.{◌≡◌, ℕ, ◌≤◌, true, false, cond, List, [], ◌∷◌, ◌++◌, map, refl, sym, ◌∙◌, ap, subst, arith, eqb, append_assoc}
use Rattle.napt_config.specs.Rules.{Rules}
use Rattle.napt_rules.specs.{Prelude.{Binding, bindings_at, LegEffect, act, Arrival, LegAct, last_clock, State, effect_from, acts_at, legs_at, LocalState, local_after}, declared.Leg.Leg}
use Rattle.napt_laws.{specs.{LocalAgreement.IsTranslatorCurrent, Dispatching.IsFrontOf}, proofs.LegsLocal.alike}
use Rattle.napt_laws.proofs.{RunsLocal.{on_time, leg_at_once, other_at_once}, RunInduction.{InTurn, run_turn}}
use Rattle.napt_sequential.specs.{declared.{passage.Passage.Passage, leg_trace.TracedAnswer.TracedAnswer}, CountedTranslators.{act_of, act_there, traced_act}, Steps.traced_replies}

-- A leg acts at the translator as in the run.
pub acts_same : {X : Type 0} (f : LegAct → X) (rules : Rules) (address clock : ℕ) (own : LocalState)
    (list : List Binding) →
    IsTranslatorCurrent rules address clock own list → (leg : Leg) → clock ≤ leg.now →
    f (act_there rules address leg own) ≡ f (act_of address leg (act rules address leg list))
acts_same f rules address clock own list once leg later = grind (arith, common_steps, nat_tests, on_time, alike)

module _ {P : Type 0} (tells : Passage → P) (rules : Rules) (address : ℕ) where
  alone : (clock : ℕ) (own : LocalState) (list : List Binding) (acts : List LegAct) (last : ℕ) (new : List Binding) →
      IsTranslatorCurrent rules address clock own list → InTurn rules clock list acts last new →
      traced_replies tells rules address (map (λ a. a.leg) (acts_at address acts)) own
      ≡ map (traced_act tells rules.timers) (acts_at address acts)
  alone clock own list [] last new once p = refl
  alone clock own list (a ∷ acts) last new once p =
      elim (eqb a.address address) as (λ v. eqb a.address address ≡ v →
      traced_replies tells rules address (map (λ (b : LegAct). b.leg) (cond v (a ∷ acts_at address acts)
      (acts_at address acts))) own
      ≡ map (traced_act tells rules.timers) (cond v (a ∷ acts_at address acts) (acts_at address acts))) [
        | true ↦ λ h.
            let at : a.address ≡ address = eqb-true a.address address h in
            let acted : LegEffect = act rules address a.leg list in
            let e : act rules a.address a.leg list ≡ acted = ap (λ (x : ℕ). act rules x a.leg list) at in
            let is : act_of address a.leg acted ≡ a = λ i. record {
              address = (sym at) i;
              leg = a.leg;
              end = (ap (λ (r : LegEffect). r.end) (sym e) ∙ sym p.0.end) i;
              through = (ap (λ (r : LegEffect). r.through) (sym e) ∙ sym p.0.through) i;
            } in
            let stays = leg_at_once rules address clock own list once a.leg p.0.later in
            let rest = alone a.leg.now (local_after rules address a.leg own) acted.list acts last new stays.left
            (subst (λ (r : LegEffect). InTurn rules a.leg.now r.list acts last new) e p.1) in
            ap (λ (t : TracedAnswer P). t ∷ traced_replies tells rules address
            (map (λ (b : LegAct). b.leg) (acts_at address acts))
            (local_after rules address a.leg own))
            (acts_same (traced_act tells rules.timers) rules address clock own list once a.leg p.0.later
            ∙ ap (traced_act tells rules.timers) is)
            ∙ ap (λ (ts : List (TracedAnswer P)). traced_act tells rules.timers a ∷ ts) rest
        | false ↦ λ h.
            alone a.leg.now own (act rules a.address a.leg list).list acts last new
            (other_at_once rules address clock own list once a.address
            (λ e. eqb-false a.address address h (sym e)) a.leg p.0.later) p.1
      ] refl

  abbrev fresh_of : State → LocalState
  fresh_of state = record { list = bindings_at address state.list; at = state.clock }

  pub told_alone : (state : State) (inputs : List Arrival) →
      traced_replies tells rules address (legs_at address (effect_from rules state inputs).acts) (fresh_of state)
      ≡ map (traced_act tells rules.timers) (acts_at address (effect_from rules state inputs).acts)
  told_alone state inputs =
      alone state.clock (fresh_of state) state.list (effect_from rules state inputs).acts
      (last_clock state.clock inputs) (effect_from rules state inputs).list
      (record { agrees = record { same = refl; taken = refl }; past = omega arith })
      (run_turn rules 0 state.clock inputs state.list)

  -- The traced answers to the first legs are the first of those to all legs.
  told_front : (xs rest : List Leg) (own : LocalState) →
      IsFrontOf (traced_replies tells rules address xs own) (traced_replies tells rules address (xs ++ rest) own)
  told_front [] rest own = (traced_replies tells rules address rest own, refl)
  told_front (x ∷ xs) rest own =
      grind (arith, common_steps, nat_tests, told_front xs rest (local_after rules address x own))

  front_front : {X : Type 0} (xs ys zs : List X) → IsFrontOf xs ys → IsFrontOf ys zs → IsFrontOf xs zs
  front_front xs ys zs h g = (h.0 ++ g.0, sym (append_assoc xs h.0 g.0) ∙ (ap (λ (l : List _). l ++ g.0) h.1 ∙ g.1))

  -- If a translator got the first legs of its address and some answers are right, they are the first ones of the run.
  pub right_told : (state : State) (inputs : List Arrival) (given : List Leg) (taken : List (TracedAnswer P)) →
      IsFrontOf given (legs_at address (effect_from rules state inputs).acts) →
      IsFrontOf taken (traced_replies tells rules address given (fresh_of state)) →
      IsFrontOf taken (map (traced_act tells rules.timers) (acts_at address (effect_from rules state inputs).acts))
  right_told state inputs given taken front right =
      front_front taken (traced_replies tells rules address given (fresh_of state)) _ right
      (subst (λ (l : List (TracedAnswer P)). IsFrontOf (traced_replies tells rules address given (fresh_of state)) l)
      (ap (λ (ls : List Leg). traced_replies tells rules address ls (fresh_of state)) front.1 ∙ told_alone state inputs)
      (told_front given front.0 (fresh_of state)))

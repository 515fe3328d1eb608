-- The translators after a leg: the one at its address, and the others.
use Rattle.std.proofs.lemmas.{Grind.common_steps, Bool.Decides.nat_tests, Option.{slice_get_within, slice_get-get_or, get_or_from_slice_get, same_Some}}
use Rattle.std.proofs.Common.{◌≡◌, ◌≢◌, ℕ, ◌+◌, ◌≤◌, true, false, List, [], ◌∷◌, ◌++◌, map, length, cond, Some, refl, sym, ◌∙◌, ap, subst, arith, eqb, eq-eqb, append-nil, get_or, set}
use Rattle.std.{specs.List.slice_get, proofs.lemmas.{Bool.{ne_eqb, eqb-true, eqb-false}, List.{length-set, Elements.filter-append}}}
use Rattle.napt_config.specs.Rules.{Rules, RulesInvariant}
use Rattle.napt_rules.specs.{declared.Leg.Leg, Prelude.{act, LegAct, legs_at, local_after}}
use Rattle.napt_translate.specs.Translators.{initial_translator, with_local_state, translator_after}
use Rattle.napt_sequential.{specs.declared.counted_translator.CountedTranslator.CountedTranslator, proofs.{Lists.{get_set, get_set_other}, OwnTraces.acts_same}}
use Rattle.napt_sequential.specs.CountedTranslators.{SequentialRunModel, IsCountedTranslator, AreCountedTranslators, act_of, act_there, traced_act, traced_answer, state_after, counted_after}
use Rattle.napt_laws.proofs.RunsLocal.{leg_at_once, other_at_once}

-- One more leg, at its own address and at another one.
legs_more : (address : ℕ) (acts : List LegAct) (a : LegAct) → a.address ≡ address →
    length (legs_at address (acts ++ a ∷ []))
    ≡ length (legs_at address acts) + 1
legs_more address [] a here = ap (λ v. length (map (λ (x : LegAct). x.leg) (cond v (a ∷ []) [])))
    (eq-eqb a.address address here)
legs_more address (x ∷ acts) a here = grind (arith, common_steps, nat_tests, eqb, legs_more address acts a here)

legs_few : (address : ℕ) (acts : List LegAct) → length (legs_at address acts) ≤ length acts
legs_few address [] = omega arith
legs_few address (x ∷ acts) = grind (arith, common_steps, nat_tests, eqb, legs_few address acts)

legs_other : (address : ℕ) (acts : List LegAct) (a : LegAct) → address ≢ a.address → legs_at address (acts ++ a ∷ [])
    ≡ legs_at address acts
legs_other address acts a differ = grind (arith, common_steps, nat_tests, filter-append, eqb, ne_eqb, append-nil)

module _ (rules : Rules) (place address : ℕ) (at : get_or rules.pool place 0 ≡ address) (state : SequentialRunModel)
    (counted : CountedTranslator) (is : IsCountedTranslator rules place address state counted) (leg : Leg)
    (later : state.clock ≤ leg.now) where
  -- The translator of the leg's address.
  pub own_told : traced_answer (λ passage. passage) leg counted.translator
      ≡ traced_act (λ passage. passage) rules.timers (act_of address leg (act rules address leg state.list))
  own_told =
      ap (traced_answer (λ passage. passage) leg) is.translator
      ∙ (ap (λ (a : ℕ). traced_act (λ passage. passage) rules.timers (act_there rules a leg is.own)) at
      ∙ acts_same (traced_act (λ passage. passage) rules.timers) rules address state.clock is.own state.list
      is.at_once leg
      later)

  pub own_counted : IsCountedTranslator rules place address (state_after rules address leg state)
      (counted_after leg counted)
  own_counted = record {
    own = local_after rules address leg is.own;
    translator = ap (translator_after leg) is.translator
        ∙ ap (λ (a : ℕ). with_local_state (initial_translator place rules) (local_after rules a leg is.own)) at;
    at_once = (leg_at_once rules address state.clock is.own state.list is.at_once leg later).left;
    legs =
        let a : LegAct = act_of address leg (act rules address leg state.list) in
        let one : length (legs_at address (state.acts ++ a ∷ [])) ≡ length (legs_at address state.acts) + 1 =
        legs_more address state.acts a refl in
        ap (λ n. n + 1) is.legs ∙ sym one;
  }

-- The translator of another address.
pub other_counted : (rules : Rules) (place address : ℕ) (state : SequentialRunModel) (counted : CountedTranslator) →
    IsCountedTranslator rules place address state counted → (at : ℕ) → address ≢ at → (leg : Leg) →
    state.clock ≤ leg.now → IsCountedTranslator rules place address (state_after rules at leg state) counted
other_counted rules place address state counted is at differ leg later = record {
  own = is.own;
  translator = is.translator;
  at_once = other_at_once rules address state.clock is.own state.list is.at_once at differ leg later;
  legs =
      let a : LegAct = act_of at leg (act rules at leg state.list) in
      is.legs ∙ ap length (sym (legs_other address state.acts a differ));
}

-- ALL TRANSLATORS

-- No two places of the pool have the same address.
apart_places : (rules : Rules) → RulesInvariant rules → (i j a b : ℕ) → slice_get rules.pool i ≡ Some a →
    slice_get rules.pool j ≡ Some b → j ≢ i → b ≢ a
apart_places rules keeps i j a b at_i at_j ne = λ e.
    ne (keeps.pool.distinct j i (slice_get_within rules.pool j b at_j) (slice_get_within rules.pool i a at_i)
    (get_or_from_slice_get rules.pool j b 0 at_j ∙ (e ∙ sym (get_or_from_slice_get rules.pool i a 0 at_i))))

module _ (rules : Rules) (keeps : RulesInvariant rules) (state : SequentialRunModel)
    (translators : List CountedTranslator)
    (are : AreCountedTranslators rules state translators) (place address : ℕ)
    (at : slice_get rules.pool place ≡ Some address) (leg : Leg) (later : state.clock ≤ leg.now)
    (default : CountedTranslator) where
  -- The translator of the place.
  abbrev counted : CountedTranslator
  counted = get_or translators place default

  is_there : slice_get translators place ≡ Some counted
  is_there = grind (arith, common_steps, nat_tests, slice_get_within, slice_get-get_or)

  own : IsCountedTranslator rules place address state counted
  own = are.each place address counted at is_there

  pub told_same : traced_answer (λ passage. passage) leg counted.translator
      ≡ traced_act (λ passage. passage) rules.timers (act_of address leg (act rules address leg state.list))
  told_same = grind (arith, common_steps, nat_tests, own_told, get_or_from_slice_get, own)

  pub few_legs : counted.legs ≤ length state.acts
  few_legs = grind (arith, common_steps, nat_tests, legs_few, own)

  counted_later : (other there : ℕ) (s : CountedTranslator) → slice_get rules.pool other ≡ Some there →
      slice_get (set translators place (counted_after leg counted)) other ≡ Some s →
      IsCountedTranslator rules other there (state_after rules address leg state) s
  counted_later other there s at_other other_is_there =
      elim (eqb other place) as (λ v. eqb other place ≡ v →
      IsCountedTranslator rules other there (state_after rules address leg state) s) [
        | true ↦ λ e.
            let here : other ≡ place = eqb-true other place e in
            let same : there ≡ address = same_Some there address (sym (ap (slice_get rules.pool) (sym here) ∙ at_other)
            ∙ at) in
            let new : s ≡ counted_after leg counted =
            same_Some s (counted_after leg counted)
            (sym (ap (slice_get (set translators place (counted_after leg counted))) (sym here) ∙ other_is_there)
            ∙ get_set translators place (counted_after leg counted)
            (slice_get_within translators place counted is_there)) in
            let stays : IsCountedTranslator rules place address (state_after rules address leg state)
            (counted_after leg counted) =
            own_counted rules place address (get_or_from_slice_get rules.pool place address 0 at) state counted own leg
            later in
            subst (λ (p : ℕ). IsCountedTranslator rules p there (state_after rules address leg state) s) (sym here)
            (subst (λ (a : ℕ). IsCountedTranslator rules place a (state_after rules address leg state) s) (sym same)
            (subst (λ (x : CountedTranslator). IsCountedTranslator rules place address
            (state_after rules address leg state) x) (sym new) stays))
        | false ↦ λ e.
            let ne : other ≢ place = eqb-false other place e in
            let before : slice_get translators other ≡ Some s =
            sym (get_set_other translators place other (counted_after leg counted) ne) ∙ other_is_there in
            other_counted rules other there state s (are.each other there s at_other before) address
            (apart_places rules keeps place other address there at at_other ne) leg later
      ] refl

  pub translators_after : AreCountedTranslators rules (state_after rules address leg state)
      (set translators place (counted_after leg counted))
  translators_after = grind (arith, common_steps, nat_tests, length-set, counted_later)

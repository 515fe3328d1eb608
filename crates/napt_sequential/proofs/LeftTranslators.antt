-- The bindings of all translators after a run, one translator after another.
use Rattle.std.proofs.lemmas.{Grind.{flat_map-append}, Bool.{cases_lt}, List.length_push, Option.{slice_get_within, slice_get_cases, same_Some}}
use Rattle.std.{proofs.Common.{◌≡◌, ℕ, max, List, [], ◌∷◌, ◌++◌, length, refl, sym, ◌∙◌, ap, subst, arith, inl, inr, append-nil}, specs.{Prelude.flat_map}}
use Rattle.napt_config.specs.Rules.{Rules}
use Rattle.napt_rules.specs.Prelude.{Binding, bindings_at, hold_ago, live_and_held, last_clock, State, Arrival, effect_from, next_state, AreBindingsLeft, IsStateInOrder}
use Rattle.napt_translate.specs.Translators.{TranslatorModel, initial_translator, with_local_state}
use Rattle.napt_sequential.specs.{declared.counted_translator.CountedTranslator.CountedTranslator, CountedTranslators.{IsCountedTranslator, AreCountedTranslators, state_from, bindings_left_at, AreBindingsOfAll}}
use Rattle.napt_sequential.proofs.Lists.{get_before, get_last}
use Rattle.napt_laws.proofs.{Purges.of_purge, RunsLocal.latest}

abbrev IsLeftOf : ℕ → CountedTranslator → List Binding → Type 0
IsLeftOf now counted part =
    AreBindingsLeft counted.translator.rules.timers (max now counted.translator.table.at)
    (bindings_left_at now counted) part

pub none_left : (now : ℕ) → AreBindingsOfAll now [] []
none_left now = record { parts = []; list = refl; many = refl; each = λ place counted part at is_there. cc }

pub one_left : (now : ℕ) (translators : List CountedTranslator) (counted : CountedTranslator)
    (made part : List Binding) →
    AreBindingsOfAll now translators made → IsLeftOf now counted part →
    AreBindingsOfAll now (translators ++ counted ∷ []) (made ++ part)
one_left now translators counted made part left ordered = record {
  parts = left.parts ++ part ∷ [];
  list = ap (λ (l : List Binding). l ++ part) left.list
      ∙ (ap (λ (l : List Binding). flat_map (λ x. x) left.parts ++ l) (sym (append-nil part))
      ∙ sym (flat_map-append (λ x. x) left.parts (part ∷ [])));
  many = grind (arith, length_push, left.many);
  each = λ place there own at is_there. elim (cases_lt place (length translators)) [
    | inl old ↦
        left.each place there own (sym (get_before translators counted place old) ∙ at)
        (sym (get_before left.parts part place (omega (arith, old, left.many))) ∙ is_there)
    | inr new ↦
        let within = slice_get_within (translators ++ counted ∷ []) place there at in
        let long = length_push translators counted in
        let here : place ≡ length translators = omega arith in
        let many = left.many in
        subst (λ (x : CountedTranslator). IsLeftOf now x own)
        (same_Some counted there (sym (get_last translators counted place here) ∙ at))
        (subst (IsLeftOf now counted)
        (same_Some part own (sym (get_last left.parts part place (omega arith)) ∙ is_there)) ordered)
  ];
}

-- A counted translator has the bindings of the state at its address.
left_there : (rules : Rules) (state : State) (inputs : List Arrival) (place address : ℕ) (counted : CountedTranslator) →
    IsCountedTranslator rules place address (state_from rules state inputs) counted → (part : List Binding) →
    (let now : ℕ = last_clock state.clock inputs in
    IsLeftOf now counted part → AreBindingsLeft rules.timers now
    (bindings_at address (next_state rules state inputs).list) part)
left_there rules state inputs place address counted is part left =
    let now : ℕ = last_clock state.clock inputs in
    let list : List Binding = (effect_from rules state inputs).list in
    let held : live_and_held rules.timers now is.own.list ≡ bindings_at address (live_and_held rules.timers now list) =
    is.at_once.agrees.taken ∙ sym (of_purge rules.timers (hold_ago rules.timers now) address list) in
    let here : IsLeftOf now (record {
      translator = with_local_state (initial_translator place rules) is.own;
      legs = counted.legs;
    }) part =
    subst (λ (t : TranslatorModel). IsLeftOf now (record { translator = t; legs = counted.legs }) part) is.translator
    left
    in
    subst (λ (l : List Binding). AreBindingsLeft rules.timers now l part) held
    (subst (λ (n : ℕ). AreBindingsLeft rules.timers n (live_and_held rules.timers n is.own.list) part)
    (latest now is.own.at is.at_once.past) here)

pub all_left : (rules : Rules) (state : State) (inputs : List Arrival) (translators : List CountedTranslator) →
    AreCountedTranslators rules (state_from rules state inputs) translators → (now : ℕ) →
    now ≡ last_clock state.clock inputs → (made : List Binding) → AreBindingsOfAll now translators made →
    IsStateInOrder rules (next_state rules state inputs) (record { clock = now; list = made })
all_left rules state inputs translators are now e made left = record {
  clock = e;
  parts = left.parts;
  list = left.list;
  many = left.many ∙ are.many;
  each = λ place address part at is_there.
      let within = slice_get_within left.parts place part is_there in
      let many = left.many in
      elim (slice_get_cases translators place).1 [
        | inl (counted, lt, here, same) ↦
            left_there rules state inputs place address counted (are.each place address counted at here) part
            (subst (λ (n : ℕ). IsLeftOf n counted part) e (left.each place counted part here is_there))
        | inr (le, none) ↦ absurd (omega arith)
      ];
}

-- The translators before any leg.
use Rattle.std.proofs.Common.{◌≡◌, ℕ, ◌+◌, ◌<◌, List, [], ◌∷◌, ◌++◌, length, Some, refl, sym, ◌∙◌, ap, arith, get_or, length-append, inl, inr}
use Rattle.std.{specs.{List.slice_get, Prelude.slice_index}, proofs.lemmas.{Option.{slice_get_within, get_or_from_slice_get, same_Some}, Bool.cases_lt}}
use Rattle.napt_config.specs.Rules.{Rules}
use Rattle.napt_rules.specs.Prelude.{bindings_at, State, LocalState}
use Rattle.napt_translate.specs.Translators.{initial_translator, with_local_state}
use Rattle.napt_sequential.specs.{declared.counted_translator.CountedTranslator.CountedTranslator, CountedTranslators.{AreCountedTranslators, state_from}}
use Rattle.napt_sequential.proofs.Lists.{get_before, get_last}

-- The translator at a place of the pool, with the bindings of a state.
abbrev pub fresh : Rules → State → ℕ → CountedTranslator
fresh rules state place = record {
  translator = with_local_state (initial_translator place rules)
      (record { list = bindings_at (slice_index rules.pool place) state.list; at = state.clock });
  legs = 0;
}

-- Each translator is as it was before any leg.
abbrev pub AreFresh : Rules → State → List CountedTranslator → Type 0
AreFresh rules state translators = (place : ℕ) (counted : CountedTranslator) →
    slice_get translators place ≡ Some counted → counted ≡ fresh rules state place

pub fresh_more : (rules : Rules) (state : State) (translators : List CountedTranslator) (place : ℕ) →
    length translators ≡ place →
    AreFresh rules state translators → (counted : CountedTranslator) → counted ≡ fresh rules state place →
    AreFresh rules state (translators ++ counted ∷ [])
fresh_more rules state translators place many are counted is = λ i s is_there.
    let long : length (translators ++ counted ∷ []) ≡ length translators + 1 =
    length-append translators (counted ∷ []) in
    let within : i < length (translators ++ counted ∷ []) =
    slice_get_within (translators ++ counted ∷ []) i s is_there in
    elim (cases_lt i (length translators)) [
      | inl old ↦ are i s (sym (get_before translators counted i old) ∙ is_there)
      | inr new ↦
          let here : i ≡ length translators = omega arith in
          sym (same_Some counted s (sym (get_last translators counted i here) ∙ is_there))
          ∙ (is ∙ ap (fresh rules state) (sym (here ∙ many)))
    ]

pub begin_translators : (rules : Rules) (state : State) (translators : List CountedTranslator) →
    length translators ≡ length rules.pool → AreFresh rules state translators →
    AreCountedTranslators rules (state_from rules state []) translators
begin_translators rules state translators many are = record {
  many = many;
  each = λ place address counted at is_there.
      let here : get_or rules.pool place 0 ≡ address = get_or_from_slice_get rules.pool place address 0 at in
      let own : LocalState = record { list = bindings_at address state.list; at = state.clock } in
      record {
        own = own;
        translator =
            let is : counted ≡ fresh rules state place = are place counted is_there in
            ap (λ (s : CountedTranslator). s.translator) is
            ∙ ap (λ (a : ℕ). with_local_state (initial_translator place rules)
            (record { list = bindings_at a state.list; at = state.clock })) here;
        at_once = record { agrees = record { same = refl; taken = refl }; past = omega arith };
        legs = ap (λ (s : CountedTranslator). s.legs) (are place counted is_there);
      };
}

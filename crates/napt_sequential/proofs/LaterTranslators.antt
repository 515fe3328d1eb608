-- The translators at a later time, when bindings that have ended may have been removed.
use Rattle.std.{proofs.Common.{◌≡◌, ℕ, ◌≤◌, true, false, max, List, Some, refl, sym, ◌∙◌, ap, subst, arith, eqb, set}, specs.List.slice_get}
use Rattle.std.proofs.lemmas.{Bool.{eqb-true, eqb-false}, List.length-set, Option.{slice_get_within, same_Some}}
use Rattle.napt_config.specs.Rules.{Rules}
use Rattle.napt_rules.specs.Prelude.{LocalState, hold_ago, live_and_held}
use Rattle.napt_laws.proofs.{Purges.purge_purge, LegsLocal.{agree, agrees_later}, RunsLocal.latest}
use Rattle.napt_translate.specs.Translators.{TranslatorModel, initial_translator, with_local_state}
use Rattle.napt_sequential.specs.declared.counted_translator.CountedTranslator.{CountedTranslator}
use Rattle.napt_sequential.specs.CountedTranslators.{SequentialRunModel, IsCountedTranslator, AreCountedTranslators, state_at_time, StaysCounted, StayCounted}
use Rattle.napt_sequential.proofs.Lists.{get_set, get_set_other}

-- ONE TRANSLATOR

pub unchanged : (now : ℕ) (counted : CountedTranslator) → StaysCounted now counted counted
unchanged now counted rules place address state later is = record {
  own = is.own;
  translator = is.translator;
  at_once =
      record {
        agrees = agrees_later rules address state.clock now later is.own.list state.list is.at_once.agrees;
        past = let past : is.own.at ≤ state.clock = is.at_once.past in omega arith;
      };
  legs = is.legs;
}

-- The translator without the bindings that are neither live nor held at `now`.
abbrev pub purged : ℕ → TranslatorModel → TranslatorModel
purged now state = with_local_state state (record {
  list = live_and_held state.rules.timers (max now state.table.at) state.table.list;
  at = max now state.table.at;
})

pub without_ended : (now : ℕ) (counted : CountedTranslator) (after : TranslatorModel) →
    after ≡ purged now counted.translator →
    StaysCounted now counted (record { translator = after; legs = counted.legs })
without_ended now counted after after_is rules place address state later is =
    let own : LocalState = is.own in
    let past : own.at ≤ state.clock = is.at_once.past in
    let next : LocalState = record { list = live_and_held rules.timers now own.list; at = now } in
    record {
      own = next;
      translator = after_is ∙ ap (purged now) is.translator
          ∙ ap (λ (t : ℕ). with_local_state (initial_translator place rules)
          (record { list = live_and_held rules.timers t own.list; at = t }))
          (latest now own.at (omega arith));
      at_once = record {
        agrees = agree rules address now next.list state.list
            (purge_purge rules.timers (hold_ago rules.timers now) (hold_ago rules.timers now) (omega arith) own.list
            ∙ (agrees_later rules address state.clock now later own.list state.list is.at_once.agrees).taken);
        past = omega arith;
      };
      legs = is.legs;
    }

-- ALL TRANSLATORS

module _ (rules : Rules) (now : ℕ) (translators : List CountedTranslator) where
  pub all_unchanged : StayCounted rules now translators translators
  all_unchanged state later are = record {
    many = are.many;
    each = λ place address counted at is_there. unchanged now counted rules place address state later
        (are.each place address counted at is_there);
  }

  module _ (place : ℕ) (counted after : CountedTranslator) (is_there : slice_get translators place ≡ Some counted)
      (stays : StaysCounted now counted after) (state : SequentialRunModel) (later : state.clock ≤ now)
      (are : AreCountedTranslators rules state translators) where
    each_later : (other address : ℕ) (s : CountedTranslator) → slice_get rules.pool other ≡ Some address →
        slice_get (set translators place after) other ≡ Some s →
        IsCountedTranslator rules other address (state_at_time now state) s
    each_later other address s at other_is_there = elim (eqb other place) as (λ v. eqb other place ≡ v →
        IsCountedTranslator rules other address (state_at_time now state) s) [
          | true ↦ λ e.
              let here : other ≡ place = eqb-true other place e in
              let new : s ≡ after = same_Some s after
              (sym (ap (slice_get (set translators place after)) (sym here) ∙ other_is_there)
              ∙ get_set translators place after (slice_get_within translators place counted is_there)) in
              let there : slice_get translators other ≡ Some counted = ap (slice_get translators) here ∙ is_there in
              subst (λ (x : CountedTranslator). IsCountedTranslator rules other address (state_at_time now state) x)
              (sym new)
              (stays rules other address state later (are.each other address counted at there))
          | false ↦ λ e.
              let before : slice_get translators other ≡ Some s =
              sym (get_set_other translators place other after (eqb-false other place e)) ∙ other_is_there in
              unchanged now s rules other address state later (are.each other address s at before)
        ] refl

    pub one_changed : AreCountedTranslators rules (state_at_time now state) (set translators place after)
    one_changed = record { many = length-set translators place after ∙ are.many; each = each_later }

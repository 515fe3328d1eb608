-- The state that the translators have after a run.
use Rattle.std.proofs.{lemmas.{List.length-map, Option.{slice_get-map, slice_get_within, slice_get_cases}}, Common.{◌≡◌, ℕ, max, List, length, map, ◌∙◌, ap, arith, inl, inr}}
use Rattle.std.specs.Option.{option_map}
use Rattle.napt_config.specs.{Rules.Rules, declared.settings.Timers.Timers}
use Rattle.napt_rules.specs.Prelude.{Binding, bindings_at, live_and_held, State, AreBindingsLeft, IsStateInOrder}
use Rattle.napt_translate.specs.Translators.{TranslatorModel}
use Rattle.napt_sequential.specs.{declared.counted_translator.CountedTranslator.CountedTranslator, CountedTranslators.AreBindingsOfAll}
use Rattle.napt_laws.proofs.RunsLocal.{latest}
use Rattle.napt_dispatch.specs.{declared.workers.RunSummary.RunSummary, Dispatch.IsLeftWith, RunsThrough.LeavesState}

-- A translator as one of the sequential run, where its legs are not counted.
abbrev pub uncounted : TranslatorModel → CountedTranslator
uncounted translator = record { translator = translator; legs = 0 }

left_there : (rules : Rules) (state : State) (address now : ℕ) (translator : TranslatorModel) (part : List Binding) →
    now ≡ state.clock → IsLeftWith rules state address translator →
    (let at : ℕ = max now translator.table.at in let timers : Timers = translator.rules.timers in
    AreBindingsLeft timers at (live_and_held timers at translator.table.list) part) →
    AreBindingsLeft rules.timers state.clock (bindings_at address state.list) part
left_there rules state address now translator part is with left =
    let at : max now translator.table.at ≡ state.clock =
    ap (λ (t : ℕ). max t translator.table.at) is ∙ latest state.clock translator.table.at with.past in
    rw (with.timers, at, with.taken_are) at left

pub left_in_order : (rules : Rules) (state : State) (passed : RunSummary) → LeavesState rules state passed →
    (list : List Binding) → AreBindingsOfAll passed.clock (map uncounted passed.translators.items) list →
    IsStateInOrder rules state (record { clock = passed.clock; list = list })
left_in_order rules state passed leaves list left =
    let translators : List TranslatorModel = passed.translators.items in
    let many : length left.parts ≡ length translators = left.many ∙ length-map translators uncounted in
    record {
      clock = leaves.clock;
      parts = left.parts;
      list = left.list;
      many = many ∙ leaves.many;
      each = λ place address part at is_there.
          let within = slice_get_within left.parts place part is_there in
          elim (slice_get_cases translators place).1 [
            | inl (translator, lt, here, same) ↦
                left_there rules state address passed.clock translator part leaves.clock
                (leaves.each place address translator at here)
                (left.each place (uncounted translator) part
                (slice_get-map uncounted translators place ∙ ap (option_map uncounted) here) is_there)
            | inr (le, none) ↦ absurd (omega arith)
          ];
    }

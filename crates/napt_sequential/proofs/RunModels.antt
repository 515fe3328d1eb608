-- The translators after all inputs have the bindings of the run and the numbers of its legs.
use Rattle.std.{proofs.{lemmas.{Grind.common_steps, Bool.Decides.nat_tests}, Common.{◌≡◌, ℕ, List, length, map, refl, ◌∙◌, ap, arith}}, specs.Prelude.flat_map}
use Rattle.napt_config.specs.Rules.{Rules}
use Rattle.napt_rules.specs.{declared.{Row.Row, Outcome.Outcome}, Prelude.{bindings_at, Arrival, rows, last_clock, legs_at, RunResult, State, effect_from, run_result_from}}
use Rattle.napt_sequential.{specs.declared.counted_translator.CountedTranslator.CountedTranslator, proofs.Lists.{map_alike, flat_alike}}
use Rattle.napt_sequential.specs.CountedTranslators.{SequentialRunModel, IsCountedTranslator, AreCountedTranslators, rows_at, state_from}
use Rattle.napt_laws.proofs.RunsLocal.{latest}

counted_rows : (rules : Rules) (place address : ℕ) (state : SequentialRunModel) (counted : CountedTranslator) →
    IsCountedTranslator rules place address state counted → (now : ℕ) → now ≡ state.clock → rows_at now counted
    ≡ rows rules.timers now (bindings_at address state.list)
counted_rows rules place address state counted is now e = grind (arith, common_steps, nat_tests, latest)

pub run_shown : (rules : Rules) (state : State) (inputs : List Arrival) (outcomes : List Outcome) (last : ℕ)
    (translators : List CountedTranslator) (bindings : List Row) (legs : List ℕ) →
    outcomes ≡ (effect_from rules state inputs).outcomes → last ≡ last_clock state.clock inputs →
    AreCountedTranslators rules (state_from rules state inputs) translators →
    bindings ≡ flat_map (rows_at last) translators → legs ≡ map (λ (s : CountedTranslator). s.legs) translators →
    (let r : RunResult = record { outcomes = outcomes; bindings = bindings; legs = legs } in r
    ≡ run_result_from rules state inputs)
run_shown rules state inputs outcomes last translators bindings legs told clock are shown legs_are =
    let after : SequentialRunModel = state_from rules state inputs in
    let all : flat_map (rows_at last) translators ≡ flat_map (λ (address : ℕ). rows rules.timers
    (last_clock state.clock inputs) (bindings_at address after.list)) rules.pool =
    flat_alike (rows_at last) (λ (address : ℕ). rows rules.timers (last_clock state.clock inputs)
    (bindings_at address after.list)) translators rules.pool are.many
    (λ place counted address is_there at. counted_rows rules place address after counted
    (are.each place address counted at is_there) last clock
    ∙ ap (λ (t : ℕ). rows rules.timers t (bindings_at address after.list)) clock) in
    let counts : map (λ (s : CountedTranslator). s.legs) translators
    ≡ map (λ (address : ℕ). length (legs_at address after.acts)) rules.pool =
    map_alike (λ (s : CountedTranslator). s.legs) (λ (address : ℕ). length (legs_at address after.acts))
    translators rules.pool are.many
    (λ place counted address is_there at. let is : IsCountedTranslator rules place address after counted =
    are.each place address counted at is_there in is.legs) in
    rw (told, shown, legs_are, all, counts) refl

-- LAWS: with the bindings of that address alone, the legs of one external address get the same answers as in the whole
-- run, and leave the same bindings there. So each address can have a translator of its own.
use Rattle.std.specs.{Prelude.{◌≡◌, ℕ, ◌≤◌, List, map}, List.{fold, scan}}
use Rattle.napt_config.specs.Rules.{Rules}
use Rattle.napt_rules.specs.{Bindings.{Binding, bindings_at}, Life.{purge, live_and_held}, declared.{Answer.Answer, Leg.Leg}, Legs.act, LocalTime.{local_replies, local_after_all}}
use Rattle.napt_rules.specs.{Inputs.Arrival, Sequential.{LegAct, RunEffect, run, last_clock, acts_at, legs_at, State, effect_from}}

abbrev pub answer_of : LegAct → Answer
answer_of a = record { number = a.leg.number; end = a.end }

-- The answers that the legs of an address get in a run, in their order.
abbrev pub answers_at : ℕ → List LegAct → List Answer
answers_at address acts = map answer_of (acts_at address acts)

-- The answers to legs that act one after another at an address, beginning with a list, and then the list after them.
abbrev pub legs_replies : Rules → ℕ → List Leg → List Binding → List Answer
legs_replies rules address legs list =
    scan (λ own leg. (act rules address leg own).list)
    (λ own leg. record { number = leg.number; end = (act rules address leg own).end }) list legs

abbrev pub list_after_legs : Rules → ℕ → List Leg → List Binding → List Binding
list_after_legs rules address legs list = fold (λ own leg. (act rules address leg own).list) list legs

abbrev pub LegsAnswerAlone : Type 0
LegsAnswerAlone = (rules : Rules) (inputs : List Arrival) (list : List Binding) (address : ℕ) →
    let course : RunEffect = run rules inputs list in
    legs_replies rules address (legs_at address course.acts) (bindings_at address list) ≡ answers_at address course.acts

-- Law: at any time from the last clock on, the legs leave the same live bindings at their address as the whole run.
abbrev pub LegsLeaveTheirOwn : Type 0
LegsLeaveTheirOwn = (rules : Rules) (inputs : List Arrival) (list : List Binding) (address now : ℕ) →
    last_clock 0 inputs ≤ now →
    let course : RunEffect = run rules inputs list in
    purge rules.timers now (list_after_legs rules address (legs_at address course.acts) (bindings_at address list))
    ≡ purge rules.timers now (bindings_at address course.list)

-- THE SAME OF A TRANSLATOR, which has its own time

-- Law: a translator that begins with an address's part of a state answers the legs of that address as the run does.
abbrev pub TranslatorsAnswerFrom : Type 0
TranslatorsAnswerFrom = (rules : Rules) (state : State) (inputs : List Arrival) (address : ℕ) →
    let course : RunEffect = effect_from rules state inputs in
    local_replies rules address (legs_at address course.acts)
    (record { list = bindings_at address state.list; at = state.clock })
    ≡ answers_at address course.acts

-- Law: at any time from the last clock on, the translator of an address has the same live bindings as the run has at
-- that address.
abbrev pub TranslatorsKeepFrom : Type 0
TranslatorsKeepFrom = (rules : Rules) (state : State) (inputs : List Arrival) (address now : ℕ) →
    last_clock state.clock inputs ≤ now →
    let course : RunEffect = effect_from rules state inputs in
    purge rules.timers now (local_after_all rules address (legs_at address course.acts)
    (record { list = bindings_at address state.list; at = state.clock })).list
    ≡ purge rules.timers now (bindings_at address course.list)

-- Law: at any time from the last clock on, the translator of an address has the same live and held bindings as the run
-- has at that address.
abbrev pub TranslatorsHoldFrom : Type 0
TranslatorsHoldFrom = (rules : Rules) (state : State) (inputs : List Arrival) (address now : ℕ) →
    last_clock state.clock inputs ≤ now →
    let course : RunEffect = effect_from rules state inputs in
    live_and_held rules.timers now (local_after_all rules address (legs_at address course.acts)
    (record { list = bindings_at address state.list; at = state.clock })).list
    ≡ live_and_held rules.timers now (bindings_at address course.list)

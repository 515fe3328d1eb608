-- The translators of a sequential run, one for each external address in the order of the pool. Each has the bindings of
-- its address in the run's one list of bindings.
use Rattle.std.specs.{Prelude.{◌≡◌, ℕ, Bool, ◌+◌, ◌<◌, ◌≤◌, ◌^◌, max, length, List, [], ◌∷◌, ◌++◌, flat_map, Option, Some, None}, Option.option_map, List.slice_get}
use Rattle.napt_wire.specs.{declared.{Protocol.Protocol, Way.{Way, TheVariants.{Outgoing, Incoming}}}, Fields.{source, destination, kind}}
use Rattle.napt_config.specs.{declared.settings.Timers.Timers, Rules.Rules}
use Rattle.napt_rules.specs.Prelude.{Binding, by_inside, by_number, LegEffect, act, Arrival, rows, live_and_held, LegAct, RunEffect, State, initial_state, effect_from, last_clock, legs_at, LocalState, local_act, answer_of, AreBindingsLeft}
use Rattle.napt_rules.specs.declared.{Row.Row, Leg.Leg, End.End, Outcome.Outcome}
use Rattle.napt_rules.specs.declared.End.TheVariants as ends
use Rattle.napt_table.specs.{declared.TimedRow.TimedRow, TimedRows.timed_row}
use Rattle.napt_translate.specs.{CarriedPackets.packet_carried, Translators.{TranslatorModel, initial_translator, local_state, with_local_state, translator_after}}
use Rattle.napt_sequential.specs.declared.{counted_translator.CountedTranslator.CountedTranslator, passage.Passage.Passage}
use Rattle.napt_sequential.specs.declared.{passage.{Passage.TheVariants.{Nothing, Dropped}, PacketTuple.PacketTuple}, leg_trace.{TracedAnswer.TracedAnswer, NoTrace.NoTrace}}
use Rattle.napt_sequential.specs.{declared.outcome.StepResult.StepResult, Traces.{passage_of_row, passage_of, trace_of}}
use Rattle.napt_laws.specs.LocalAgreement.{IsTranslatorCurrent}

-- A run at some time: the time of its last leg in ns, the acts of its legs, and its bindings.
pub record SequentialRunModel : Type 0 where
  pub clock : ℕ
  pub acts : List LegAct
  pub list : List Binding

-- The translator with this index in the pool, in this state of the run, and the number of its legs.
pub record IsCountedTranslator (rules : Rules) (place address : ℕ) (state : SequentialRunModel)
    (counted : CountedTranslator) : Type 0 where
  pub own : LocalState
  pub translator : counted.translator ≡ with_local_state (initial_translator place rules) own
  pub at_once : IsTranslatorCurrent rules address state.clock own state.list
  pub legs : counted.legs ≡ length (legs_at address state.acts)

pub record AreCountedTranslators (rules : Rules) (state : SequentialRunModel)
    (translators : List CountedTranslator) : Type 0 where
  pub many : length translators ≡ length rules.pool
  pub each : (place address : ℕ) (counted : CountedTranslator) → slice_get rules.pool place ≡ Some address →
      slice_get translators place ≡ Some counted → IsCountedTranslator rules place address state counted

-- Returns the act of a leg at an external address.
abbrev pub act_of : ℕ → Leg → LegEffect → LegAct
act_of address leg acted = record { address = address; leg = leg; end = acted.end; through = acted.through }

-- Returns the state of the run after this leg.
abbrev pub state_after : Rules → ℕ → Leg → SequentialRunModel → SequentialRunModel
state_after rules address leg state =
    let acted : LegEffect = act rules address leg state.list in
    record { clock = leg.now; acts = state.acts ++ act_of address leg acted ∷ []; list = acted.list }

-- Returns the traced answer of a leg from its act. `tells` maps the effect of a leg to its record.
abbrev pub traced_act : {P : Type 0} → (Passage → P) → Timers → LegAct → TracedAnswer P
traced_act tells timers a = record { answer = answer_of a; passage = tells (passage_of timers a) }

-- The translator at `place` gave this answer, and the translators of a state became those of the state after the leg.
abbrev pub TracesLeg : Rules → ℕ → Leg → List CountedTranslator → List CountedTranslator → TracedAnswer Passage → Type 0
TracesLeg rules place leg before after traced = (state : SequentialRunModel) (address : ℕ) →
    AreCountedTranslators rules state before → state.clock ≤ leg.now → slice_get rules.pool place ≡ Some address →
    (traced ≡ traced_act (λ passage. passage) rules.timers (act_of address leg (act rules address leg state.list)))
    × AreCountedTranslators rules (state_after rules address leg state) after

-- The record without content.
abbrev pub no_trace : NoTrace
no_trace = record {}

-- Returns the act of a leg at a translator in this state, and then the traced answer to it.
abbrev pub act_there : Rules → ℕ → Leg → LocalState → LegAct
act_there rules address leg kept = act_of address leg (local_act rules address leg kept)

abbrev pub traced_by : {P : Type 0} → (Passage → P) → Rules → ℕ → Leg → LocalState → TracedAnswer P
traced_by tells rules address leg kept = traced_act tells rules.timers (act_there rules address leg kept)

abbrev pub traced_answer : {P : Type 0} → (Passage → P) → Leg → TranslatorModel → TracedAnswer P
traced_answer tells leg state = traced_by tells state.rules state.table.address leg (local_state state.table)

-- Returns a counted translator after a leg.
abbrev pub counted_after : Leg → CountedTranslator → CountedTranslator
counted_after leg counted = record { translator = translator_after leg counted.translator; legs = counted.legs + 1 }

-- Returns the rows of its bindings that are live at the later of `now` and its own time, in ns.
abbrev pub rows_at : ℕ → CountedTranslator → List Row
rows_at now counted = rows counted.translator.rules.timers (max now counted.translator.table.at)
    counted.translator.table.list

-- Returns its bindings that are live or held at the later of `now` and its own time, in ns.
abbrev pub bindings_left_at : ℕ → CountedTranslator → List Binding
bindings_left_at now counted = live_and_held counted.translator.rules.timers (max now counted.translator.table.at)
    counted.translator.table.list

-- The list consists of the live and held bindings of each translator, in the order of the translators.
pub record AreBindingsOfAll (now : ℕ) (translators : List CountedTranslator) (made : List Binding) : Type 0 where
  pub parts : List (List Binding)
  pub list : made ≡ flat_map (λ part. part) parts
  pub many : length parts ≡ length translators
  pub each : (place : ℕ) (counted : CountedTranslator) (part : List Binding) →
      slice_get translators place ≡ Some counted → slice_get parts place ≡ Some part →
      AreBindingsLeft counted.translator.rules.timers (max now counted.translator.table.at)
      (bindings_left_at now counted) part

-- LOOK-UPS after a leg, from its packet before the leg and from its end

abbrev pub seen_of : List ℕ → PacketTuple
seen_of packet =
    record { protocol = packet_carried (kind packet); source = source packet; destination = destination packet }

abbrev pub passage_through : Way → Bool → Option TimedRow → Passage
passage_through way made None = Nothing
passage_through way made (Some row) = passage_of_row way made row

-- `made` says whether the leg made the binding that its packet used.
abbrev pub found_by : Timers → ℕ → List Binding → ℕ → PacketTuple → Bool → Option Protocol → End → Passage
found_by timers now list address seen made None end = Nothing
found_by timers now list address seen made (Some protocol) (ends.ToInside packet) = passage_through Incoming made
    (option_map (timed_row timers) (by_number timers address now protocol seen.destination.number list))
found_by timers now list address seen made (Some protocol) (ends.Dropped cause) =
    Dropped (record { protocol = protocol; host = seen.source.address; cause = cause })
found_by timers now list address seen made (Some protocol) _ =
    passage_through Outgoing made
    (option_map (timed_row timers) (by_inside timers address now protocol seen.source list))

abbrev pub passage_seen : ℕ → PacketTuple → Bool → End → TranslatorModel → Passage
passage_seen now seen made end state = found_by state.rules.timers (max now state.table.at) state.table.list
    state.table.address seen made seen.protocol end

-- TIMES AND STEPS

-- Returns the state with another time, in ns.
abbrev pub state_at_time : ℕ → SequentialRunModel → SequentialRunModel
state_at_time now state = record { clock = now; acts = state.acts; list = state.list }

-- Each state whose counted translator is `before` has `after` as its counted translator at the later time `now`, in ns.
abbrev pub StaysCounted : ℕ → CountedTranslator → CountedTranslator → Type 0
StaysCounted now before after = (rules : Rules) (place address : ℕ) (state : SequentialRunModel) → state.clock ≤ now →
    IsCountedTranslator rules place address state before →
    IsCountedTranslator rules place address (state_at_time now state) after

abbrev pub StayCounted : Rules → ℕ → List CountedTranslator → List CountedTranslator → Type 0
StayCounted rules now before after = (state : SequentialRunModel) → state.clock ≤ now →
    AreCountedTranslators rules state before → AreCountedTranslators rules (state_at_time now state) after

-- The translators are those of some state whose clock is at most `now`, in ns, and `more` further legs can be counted.
abbrev pub CanTake : Rules → ℕ → ℕ → List CountedTranslator → Type 0
CanTake rules now more translators = (state : SequentialRunModel) × AreCountedTranslators rules state translators
    × (state.clock ≤ now) × (length state.acts + more < 2 ^ 64)

-- The outcome is that of a step at `now`, in ns, and the translators are those of the state after the step.
abbrev pub StepFollows : Rules → ℕ → RunEffect → SequentialRunModel → List CountedTranslator → Outcome → Type 0
StepFollows rules now course state translators outcome =
    let later : SequentialRunModel = record { clock = now; acts = state.acts ++ course.acts; list = course.list } in
    (course.outcomes ≡ outcome ∷ []) × AreCountedTranslators rules later translators

-- The outcome and the trace are those of a step at `now`, in ns, and the translators are those of the state after it.
abbrev pub StepTraces : Rules → ℕ → RunEffect → SequentialRunModel → List CountedTranslator → StepResult → Type 0
StepTraces rules now course state translators stepped = StepFollows rules now course state translators stepped.outcome
    × (stepped.trace ≡ trace_of rules.timers now course)

-- Returns the state of the run after these inputs from a starting state; without inputs, that before the first.
abbrev pub state_from : Rules → State → List Arrival → SequentialRunModel
state_from rules state inputs =
    let course : RunEffect = effect_from rules state inputs in
    record { clock = last_clock state.clock inputs; acts = course.acts; list = course.list }

-- Returns the state of the run after these inputs from the redirects of the configuration.
abbrev pub state_of : Rules → List Arrival → SequentialRunModel
state_of rules inputs = state_from rules (initial_state rules) inputs

-- follow: each end of the first leg gives the step of the definition, with a second leg if the end is onward.
use Rattle.std.{proofs.{Common.{◌≡◌, ℕ, List, Some, refl, sym, ◌∙◌, ap, subst, arith}, lemmas.Option.slice_get_within}, specs.List.slice_get}
use Rattle.napt_wire.specs.Fields.{destination}
use Rattle.napt_config.specs.Rules.{Rules}
use Rattle.napt_rules.specs.{declared.{End.TheVariants.{ToOutside, ToInside, Onward, Dropped}, Leg.Leg}, Prelude.act}
use Rattle.napt_sequential.specs.{declared.{passage.Passage.Passage, leg_trace.TracedAnswer.TracedAnswer}, CountedTranslators.{CanTake, TracesLeg, state_after}}
use Rattle.napt_sequential.proofs.StepTraceSteps.{goes_onward, steps_once, steps_twice}
use Rattle.napt_laws.proofs.{Pools.stands_at, OnwardLegs.onward_place}
use Rattle.napt_sequential.proofs.run.follow.Goals as goal

pub translate_leg-requires-in-Onward-clause-within : goal.translate_leg-requires-in-Onward-clause-within
translate_leg-requires-in-Onward-clause-within c =
    let goes = goes_onward c.args.config.now c.args.place c.args.leg c.args.translators.now
    c.translate_leg.new.translators
    c.in_ok-end.field-0 c.requires.within c.requires.can_take c.in_ok-end.ensures c.in-Onward.to c.in-Onward.packet
    c.in-Onward.is in
    slice_get_within c.args.config.now.pool c.in-Onward.to (destination c.in-Onward.packet).address goes.1

pub translate_leg-requires-in-Onward-clause-can_take : goal.translate_leg-requires-in-Onward-clause-can_take
translate_leg-requires-in-Onward-clause-can_take c =
    let goes = goes_onward c.args.config.now c.args.place c.args.leg c.args.translators.now
    c.translate_leg.new.translators
    c.in_ok-end.field-0 c.requires.within c.requires.can_take c.in_ok-end.ensures c.in-Onward.to c.in-Onward.packet
    c.in-Onward.is in
    subst (λ (l : Leg). CanTake c.args.config.now l.now 1 c.translate_leg.new.translators)
    (sym c.second_leg-next.ensures) goes.0

pub returns-in_ok-second-in-Onward : goal.returns-in_ok-second-in-Onward
returns-in_ok-second-in-Onward c = λ state address are later at.
    let rules : Rules = c.args.config.now in
    let leg : Leg = c.args.leg in
    let packet : List ℕ = c.in-Onward.packet in
    let first = c.in_ok-end.ensures state address are later at in
    let ends : (act rules address leg state.list).end ≡ Onward c.in-Onward.to packet =
    sym (ap (λ (t : TracedAnswer Passage). t.answer.end) first.0) ∙ c.in-Onward.is in
    let to : ℕ = (destination packet).address in
    let there : slice_get rules.pool c.in-Onward.to ≡ Some to =
    stands_at rules.pool to c.in-Onward.to
    (onward_place rules address leg state.list c.in-Onward.to packet ends) in
    let takes = subst (λ (l : Leg). TracesLeg rules c.in-Onward.to l c.translate_leg.new.translators
    c.translate_leg-in-Onward.new.translators c.in_ok-second-in-Onward.second) c.second_leg-next.ensures
    c.in_ok-second-in-Onward.ensures in
    let second = takes (state_after rules address leg state) to first.1 (omega arith) there in
    steps_twice rules address leg state c.translate_leg-in-Onward.new.translators c.in-Onward.to packet
    c.in_ok-end.field-0
    first.0 c.in-Onward.is second.1 c.in_ok-second-in-Onward.second second.0 c.outcome_of.result c.outcome_of.ensures

pub returns-in-ToOutside : goal.returns-in-ToOutside
returns-in-ToOutside c = λ state address are later at.
    let first = c.in_ok-end.ensures state address are later at in
    steps_once c.args.config.now address c.args.leg state c.translate_leg.new.translators c.in_ok-end.field-0
    (ToOutside c.in-ToOutside.packet) first.0 c.in-ToOutside.is refl first.1 c.step_result.result
    c.step_result.ensures.outcome c.step_result.ensures.trace

pub returns-in-ToInside : goal.returns-in-ToInside
returns-in-ToInside c = λ state address are later at.
    let first = c.in_ok-end.ensures state address are later at in
    steps_once c.args.config.now address c.args.leg state c.translate_leg.new.translators c.in_ok-end.field-0
    (ToInside c.in-ToInside.packet) first.0 c.in-ToInside.is refl first.1 c.step_result-in-ToInside.result
    c.step_result-in-ToInside.ensures.outcome c.step_result-in-ToInside.ensures.trace

pub returns-in-Dropped : goal.returns-in-Dropped
returns-in-Dropped c = λ state address are later at.
    let first = c.in_ok-end.ensures state address are later at in
    steps_once c.args.config.now address c.args.leg state c.translate_leg.new.translators c.in_ok-end.field-0
    (Dropped c.in-Dropped.cause) first.0 c.in-Dropped.is refl first.1 c.step_result-in-Dropped.result
    c.step_result-in-Dropped.ensures.outcome c.step_result-in-Dropped.ensures.trace

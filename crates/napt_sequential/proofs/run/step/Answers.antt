-- step: an input is dropped without a leg, or goes to the address that serves it, as the definition says.
use Rattle.std.{proofs.{Common.{◌≡◌, ℕ, List, Ok, Err, Some, None, sym, ◌∙◌, ap, subst}, lemmas.Option.slice_get_within}, specs.Prelude.IfOk}
use Rattle.napt_wire.specs.{Reading.reading, declared.{Side.Side, Way.Way}}
use Rattle.napt_rules.specs.Prelude.{side_refusal, way_from, served_at, route, Arrival, RunEffect, refused_effect, admitted_effect, step}
use Rattle.napt_sequential.{specs.CountedTranslators.StepTraces, proofs.{Steps.{arrival_of, reads_as, side_as}, StepTraceSteps.steps_none}}
use Rattle.napt_laws.proofs.Routes.{route_ok, route_err, step_unread, step_refused, step_admitted}
use Rattle.napt_sequential.proofs.run.step.Goals as goal

pub returns-in-Err : goal.returns-in-Err
returns-in-Err c = λ state are later.
    let input : Arrival = c.args.input.now in
    let copy : Arrival = arrival_of c.input.inside in
    let reads : reading input.side input.bytes ≡ Err c.in-Err.cause = reads_as input copy c.in_ok-bytes.bytes.items
    (Err c.in-Err.cause) c.input.view_is (c.in_ok-bytes.ensures.items ∙ c.deref.ensures.value)
    c.in-Err.ensures.cause in
    let is : step c.args.config.now c.args.number c.args.now input state.list
    ≡ refused_effect c.in-Err.cause state.list =
    step_unread c.args.config.now c.args.number c.args.now input state.list c.in-Err.cause reads in
    subst (λ (s : RunEffect). StepTraces c.args.config.now c.args.now s state c.args.translators.now
    c.step_result.result)
    (sym is)
    (steps_none c.args.config.now c.args.now state c.args.translators.now later are c.in-Err.cause c.step_result.result
    c.step_result.ensures.outcome c.step_result.ensures.trace)

pub returns-in-Err-route : goal.returns-in-Err-route
returns-in-Err-route c = λ state are later.
    let input : Arrival = c.args.input.now in
    let copy : Arrival = arrival_of c.input.inside in
    let packet : List ℕ = c.in-Ok.packet in
    let reads : reading input.side input.bytes ≡ Ok packet = reads_as input copy c.in_ok-bytes.bytes.items
    (Ok packet) c.input.view_is (c.in_ok-bytes.ensures.items ∙ c.deref.ensures.value) c.in-Ok.ensures.ok in
    let against : side_refusal c.args.config.now input.side packet ≡ Some c.in-Err-route.cause =
    route_err c.args.config.now c.requires.keeps input.side packet c.in-Err-route.cause
    (ap (λ (s : Side). route c.args.config.now s packet) (sym (side_as input copy c.input.view_is))
    ∙ (sym c.route.ensures.place ∙ c.in-Err-route.is)) in
    let is : step c.args.config.now c.args.number c.args.now input state.list
    ≡ refused_effect c.in-Err-route.cause state.list =
    step_refused c.args.config.now c.args.number c.args.now input state.list packet reads c.in-Err-route.cause
    against in
    subst (λ (s : RunEffect). StepTraces c.args.config.now c.args.now s state c.args.translators.now
    c.step_result-in-Err-route.result) (sym is)
    (steps_none c.args.config.now c.args.now state c.args.translators.now later are c.in-Err-route.cause
    c.step_result-in-Err-route.result c.step_result-in-Err-route.ensures.outcome
    c.step_result-in-Err-route.ensures.trace)

pub follow-requires-clause-within : goal.follow-requires-clause-within
follow-requires-clause-within c =
    slice_get_within c.args.config.now.pool c.in-Ok-route.place
    (served_at c.args.config.now (way_from c.input.inside.side) c.in-Ok.packet) c.in-Ok-route.ensures.in_pool

pub returns : goal.returns
returns c = λ state are later.
    let input : Arrival = c.args.input.now in
    let copy : Arrival = arrival_of c.input.inside in
    let packet : List ℕ = c.in-Ok.packet in
    let reads : reading input.side input.bytes ≡ Ok packet = reads_as input copy c.in_ok-bytes.bytes.items
    (Ok packet) c.input.view_is (c.in_ok-bytes.ensures.items ∙ c.deref.ensures.value) c.in-Ok.ensures.ok in
    let free : side_refusal c.args.config.now input.side packet ≡ None =
    route_ok c.args.config.now input.side packet c.in-Ok-route.place
    (ap (λ (s : Side). route c.args.config.now s packet) (sym (side_as input copy c.input.view_is))
    ∙ (sym c.route.ensures.place ∙ c.in-Ok-route.is)) in
    let is : step c.args.config.now c.args.number c.args.now input state.list ≡ admitted_effect c.args.config.now
    (served_at c.args.config.now (way_from input.side) packet) (record {
      number = c.args.number;
      now = c.args.now;
      way = way_from input.side;
      packet = packet;
    }) state.list
    = step_admitted c.args.config.now c.args.number c.args.now input state.list packet reads free in
    let admitted_at : Side → Way → RunEffect = λ side way.
    admitted_effect c.args.config.now (served_at c.args.config.now (way_from side) packet)
    (record { number = c.args.number; now = c.args.now; way = way; packet = packet }) state.list in
    let same : admitted_at c.input.inside.side c.way_from.result ≡ step c.args.config.now c.args.number c.args.now input
    state.list =
    ap (admitted_at c.input.inside.side) c.way_from.ensures
    ∙ (ap (λ (s : Side). admitted_at s (way_from s)) (side_as input copy c.input.view_is) ∙ sym is) in
    subst (λ (s : RunEffect). IfOk c.follow.result
    (StepTraces c.args.config.now c.args.now s state c.follow.new.translators))
    same
    (c.follow.ensures state (served_at c.args.config.now (way_from c.input.inside.side) packet) are later
    c.in-Ok-route.ensures.in_pool)

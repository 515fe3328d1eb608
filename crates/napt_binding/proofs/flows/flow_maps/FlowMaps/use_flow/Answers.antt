-- use_flow: if no flow of the remote stands, a new one can be inserted, which gives the flows after the packet.
use Rattle.std.{proofs.{Common.{arith, ◌≡◌, ◌∙◌, ap, refl, List, [], ◌∷◌, ◌++◌}, lemmas.{Grind.common_steps, Bool.Decides.nat_tests}}, specs.List.list_any}
use Rattle.napt_rules.specs.{declared.Flow.Flow, Prelude.{no_marks, is_live_flow, live_flows}}
use Rattle.napt_binding.{specs.Slots.standing_flows, proofs.{FlowMapSteps.no_place, DistinctFlows.put_next, LastUses.live_flows_used, StandingFlows.{none_left, flow_begun, live_begun}}}
use Rattle.napt_binding.proofs.flows.flow_maps.FlowMaps.use_flow.Goals as goal

pub insert-requires-clause-absent : goal.insert-requires-clause-absent
insert-requires-clause-absent c = grind (arith, common_steps, nat_tests, none_left, no_place)

pub insert-requires-clause-rising : goal.insert-requires-clause-rising
insert-requires-clause-rising c = grind (arith, common_steps, nat_tests, live_flows_used)

pub returns-clause-ok : goal.returns-clause-ok
returns-clause-ok c =
    let sent = c.args.sent in
    let old : List Flow = standing_flows c.args.self.now.slots.slots in
    let live : List Flow = live_flows c.args.timers sent.now sent.protocol old in
    let kept : standing_flows c.retain_standing.new.self.slots.slots ≡ live =
    c.retain_standing.ensures.flows
    ∙ ap (live_flows c.args.timers sent.now sent.protocol)
    (c.in_ok-make_room.ensures.flows ∙ ap standing_flows (c.if-use_standing.ensures.same refl)) in
    let is : standing_flows c.insert.new.self.slots.slots ≡ live ++ c.new_flow.result ∷ [] =
    put_next _ _ _ live c.new_flow.result c.insert.ensures.slots refl kept in
    ap (live_flows c.args.timers sent.now sent.protocol) (is ∙ ap (λ (f : Flow). live ++ f ∷ []) c.new_flow.ensures)
    ∙ flow_begun c.args.timers c.are_within_limits.ensures sent.now sent.protocol sent.remote sent.flags old
    (c.if-use_standing.ensures.none refl)

pub returns-clause-live : goal.returns-clause-live
returns-clause-live c =
    let sent = c.args.sent in
    let live : List Flow = standing_flows c.retain_standing.new.self.slots.slots in
    let is : standing_flows c.insert.new.self.slots.slots ≡ live ++ c.new_flow.result ∷ [] =
    put_next _ _ _ live c.new_flow.result c.insert.ensures.slots refl refl in
    ap (list_any (is_live_flow c.args.timers sent.now)) (is ∙ ap (λ (f : Flow). live ++ f ∷ []) c.new_flow.ensures)
    ∙ live_begun c.args.timers c.are_within_limits.ensures sent.now sent.protocol sent.remote sent.flags live
    (record { remote = sent.remote; marks = no_marks; last = sent.now })

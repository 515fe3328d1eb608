-- use_standing: the standing flow of the remote is used, and is then live, or there is none.
use Rattle.std.proofs.{Common.{arith, ◌≡◌, Some, rules, refl}, lemmas.{Grind.common_steps, Bool.Decides.nat_tests}}
use Rattle.napt_binding.{specs.FlowMapInvariants.place_of_remote, proofs.{FlowMapSteps.{one, not_found, place_of_is}, StandingFlows.{none_at_all, none_stands, flow_stood, live_stood}}}
use Rattle.napt_binding.proofs.flows.flow_maps.FlowMaps.use_standing.Goals as goal

pub returns-in_default-clause-none : goal.returns-in_default-clause-none
returns-in_default-clause-none c given =
    let sent = c.args.sent in
    none_at_all c.args.timers c.are_within_limits.ensures sent.now sent.protocol sent.remote sent.flags _
    (not_found c.args.self.now sent.remote c.requires.many (cc))

pub returns-then-not-is_standing-clause-none : goal.returns-then-not-is_standing-clause-none
returns-then-not-is_standing-clause-none c given = grind (arith, common_steps, nat_tests, none_stands, one)

pub returns-clause-used : goal.returns-clause-used
returns-clause-used c given =
    let sent = c.args.sent in
    let at : place_of_remote c.args.self.now sent.remote ≡ Some c.in-Some.place = cc in
    let is = c.in-Some-get.ensures.stands in
    rw (c.change.ensures.slots, c.flow_after.ensures)
    (flow_stood c.args.timers c.are_within_limits.ensures sent.now sent.protocol sent.remote sent.flags
    c.args.self.now.slots.slots c.in-Some.place c.in-Some-get.flow is (search rules)
    (place_of_is c.args.self.now sent.remote c.in-Some.place c.in-Some-get.flow c.requires.many at is)
    (one c.args.self.now sent.remote c.in-Some.place c.requires.many at))

pub returns-clause-live : goal.returns-clause-live
returns-clause-live c given = grind (arith, common_steps, nat_tests, live_stood)

pub change-requires-clause-stands : goal.change-requires-clause-stands
change-requires-clause-stands c =
    (c.in-Some-get.flow, c.in-Some-get.ensures.stands, rw c.flow_after.ensures (refl))

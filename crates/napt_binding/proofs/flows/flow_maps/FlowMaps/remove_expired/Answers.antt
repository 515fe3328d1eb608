-- remove_expired: an expired flow is removed and the live ones stay; without one, all flows are live.
use Rattle.std.proofs.Common.{sym, arith}
use Rattle.napt_rules.specs.Life as life
use Rattle.napt_binding.proofs.Slots.{all_kept, kept_emptied, one_fewer}
use Rattle.napt_binding.proofs.flows.flow_maps.FlowMaps.remove_expired.Goals as goal

pub returns-in_default-clause-none : goal.returns-in_default-clause-none
returns-in_default-clause-none c given =
    sym (all_kept (life.is_live_flow c.args.timers c.args.now) c.args.self.now.slots.slots c.in_default.ensures.none)

pub returns-clause-kept : goal.returns-clause-kept
returns-clause-kept c =
    let dead = c.in-Some.ensures.some in
    rw c.remove.ensures.slots (kept_emptied (life.is_live_flow c.args.timers c.args.now) c.args.self.now.slots.slots
    c.in-Some.place dead.0 dead.1 dead.2)

pub returns-clause-fewer : goal.returns-clause-fewer
returns-clause-fewer c given =
    let dead = c.in-Some.ensures.some in
    let one = one_fewer c.args.self.now.slots.slots c.in-Some.place dead.0 dead.1 in
    rw c.remove.ensures.slots (omega (arith, one))

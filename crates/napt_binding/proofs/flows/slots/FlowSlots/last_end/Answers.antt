-- last_end: the last end of the flows is the later of the ends of the two rows.
use Rattle.std.{proofs.Common.◌∙◌, specs.List.list_any}
use Rattle.napt_binding.{specs.{Ends.last_end, Slots.{standing_flows, is_recent_time}}, proofs.{FirstEnds.{flows_before, max_before}, TimedRows.live_is}}
use Rattle.napt_rules.specs.Prelude.{is_live_flow}
use Rattle.napt_binding.proofs.flows.slots.FlowSlots.last_end.Goals as goal

pub returns : goal.returns
returns c =
    let timers = c.timers.inside.seconds in
    let slots = c.args.self.now.slots in
    rw (← c.timers.view_is)
    (c.max.ensures ∙ max_before c.end_of_time-established.result c.end_of_time.result
    (λ t. is_recent_time t timers.established c.latest.result)
    (λ t. is_recent_time t timers.transitory c.latest-2.result)
    (λ t. list_any (is_live_flow timers t) (standing_flows slots)) (last_end timers (standing_flows slots))
    c.end_of_time-established.ensures c.end_of_time.ensures
    (λ t. live_is timers t slots c.latest.result c.latest-2.result c.latest.ensures c.latest-2.ensures)
    (λ t. flows_before timers c.timers.invariant t (standing_flows slots)))

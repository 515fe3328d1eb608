-- latest: the last flow of a row was used latest.
use Rattle.napt_binding.proofs.TimedRows.{latest_is}
use Rattle.napt_binding.proofs.flows.slots.FlowSlots.latest.Goals as goal

pub returns-in_err-flow_at : goal.returns-in_err-flow_at
returns-in_err-flow_at c = rw (← c.self.view_is, c.from_residual.ensures) (rw c.in_err-flow_at.was at
    (latest_is c.self.inside.flows.items c.self.inside.links.items c.self.invariant c.args.row c.requires
    c.index.result.now c.index.ensures c.flow_at.result (rw (← c.self.view_is) at c.flow_at.ensures.some)
    (rw (← c.self.view_is) at c.flow_at.ensures.none)))

pub returns : goal.returns
returns c = rw (← c.self.view_is) (rw c.in_ok-flow_at.was at
    (latest_is c.self.inside.flows.items c.self.inside.links.items c.self.invariant c.args.row c.requires
    c.index.result.now c.index.ensures c.flow_at.result (rw (← c.self.view_is) at c.flow_at.ensures.some)
    (rw (← c.self.view_is) at c.flow_at.ensures.none)))

-- first_used: the first flow of a row is the one that was last used longest ago.
use Rattle.napt_binding.proofs.TimedRows.{first_used_is}
use Rattle.napt_binding.proofs.flows.slots.FlowSlots.first_used.Goals as goal

pub returns : goal.returns
returns c = rw (← c.self.view_is)
    (first_used_is c.self.inside.flows.items c.self.inside.links.items c.self.invariant c.args.row c.requires
    c.index.result.now c.index.ensures c.flow_at.result (rw (← c.self.view_is) at c.flow_at.ensures.some)
    (rw (← c.self.view_is) at c.flow_at.ensures.none))

-- has_live: a flow is live if and only if the latest of its row is.
use Rattle.std.proofs.Common.{◌∙◌, sym}
use Rattle.napt_binding.proofs.TimedRows.{live_is, one_live, or_second}
use Rattle.napt_binding.proofs.flows.slots.FlowSlots.has_live.Goals as goal

pub returns-then-is_some_recent : goal.returns-then-is_some_recent
returns-then-is_some_recent c = rw (← c.timers.view_is)
    (c.if-is_some_recent.true ∙ sym (one_live c.timers.inside.seconds c.args.now c.args.self.now.slots 0 c.latest.result
    c.latest.ensures (sym c.is_some_recent.ensures ∙ c.if-is_some_recent.true)))

pub returns-else-is_some_recent : goal.returns-else-is_some_recent
returns-else-is_some_recent c = rw (← c.timers.view_is)
    (or_second c.is_some_recent.result c.is_some_recent-else-is_some_recent.result _ _ _ c.is_some_recent.ensures
    c.if-is_some_recent.false c.is_some_recent-else-is_some_recent.ensures
    (live_is c.timers.inside.seconds c.args.now c.args.self.now.slots c.latest.result
    c.latest-else-is_some_recent.result c.latest.ensures c.latest-else-is_some_recent.ensures))

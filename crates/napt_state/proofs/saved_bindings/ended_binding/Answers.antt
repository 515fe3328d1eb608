-- ended_binding: a binding that ends at a time was last used one timer before it.
use Rattle.std.proofs.Common.{◌∙◌, sym}
use Rattle.napt_state.proofs.StandingBindings.{ended_is}
use Rattle.napt_state.proofs.saved_bindings.ended_binding.Goals as goal

pub returns : goal.returns
returns c = ended_is c.args.config.now.timers c.args.clock c.args.row c.args.end c.timer_of-seconds.result
    c.saturating_sub-last.result c.in_ok-flows.flows.items c.timer_of-seconds.ensures.is
    c.saturating_sub-last.ensures c.in_ok-flows.ensures c.if-row.false
    (sym c.is_recent.ensures ∙ c.if-is_recent.false)

-- is_used_after: a flow that was used after the clock is live.
use Rattle.std.proofs.Common.{◌≡◌, ◌∙◌, List, nat_lt, subst, sym, ap}
use Rattle.std.specs.List.{list_any}
use Rattle.napt_config.specs.Rules.{AreTimers}
use Rattle.napt_config.specs.declared.settings.Timers.{Timers}
use Rattle.napt_rules.specs.declared.Flow.{Flow}
use Rattle.napt_rules.specs.{Bindings.Binding, Life.{hold_ago, with_live_flows}, Misfits.is_used_after}
use Rattle.napt_state.proofs.StandingBindings.{used_else}
use Rattle.napt_state.proofs.state_checks.is_used_after.Goals as goal

pub returns-else-clock-binding : goal.returns-else-clock-binding
returns-else-clock-binding c =
    let timers = c.args.config.now.timers in
    let clock = c.args.clock in
    let inside = c.binding.inside in
    let are = subst (λ (t : Timers). AreTimers t) c.from_config.ensures c.are_within_limits.ensures in
    subst (λ (b : Binding). c.has_later.result ≡ is_used_after clock (with_live_flows timers (hold_ago timers clock) b))
    c.binding.view_is (c.has_later.ensures
    ∙ ap (λ (flows : List Flow). list_any (λ (f : Flow). nat_lt clock f.last) flows) c.deref.ensures.value
    ∙ used_else timers are clock (record { row = inside.row; last = inside.last; flows = inside.flows.items })
    c.if-clock-binding.false)

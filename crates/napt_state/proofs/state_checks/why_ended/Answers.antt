-- why_ended: a binding is checked if it continues.
use Rattle.std.proofs.Common.{◌≡◌, true, Option, None, IfOk, cond, sym, ◌∙◌, ap, subst}
use Rattle.napt_rules.specs.{Life.{hold_ago, with_live_flows}, Misfits.misfit_of, declared.Misfit.Misfit}
use Rattle.napt_state.specs.EndedMisfits.{goes_on}
use Rattle.napt_state.proofs.state_checks.why_ended.Goals as goal

pub returns-then-goes_on : goal.returns-then-goes_on
returns-then-goes_on c rest redirects behind =
    let rules = c.args.config.now in
    let b = c.args.binding.now in
    let goes : goes_on rules.timers (hold_ago rules.timers c.args.clock) b ≡ true =
    sym (c.goes_on.ensures ∙ ap (λ n. goes_on rules.timers n b) c.hold_ago.ensures) ∙ c.if-goes_on.true in
    subst (λ v. IfOk c.misfit_of.result (λ (why : Option Misfit).
    why ≡ cond v (misfit_of rules c.args.clock (with_live_flows rules.timers (hold_ago rules.timers c.args.clock) b)
    rest)
    None)) (sym goes) (c.misfit_of.ensures rest redirects behind)

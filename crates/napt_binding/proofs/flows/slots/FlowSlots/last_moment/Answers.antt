-- last_moment: a flow is live until the later of the last moments of the two rows, and not after it.
use Rattle.std.{proofs.{Common.{◌≡◌, ⊎_elim, sym, ◌∙◌, ap, true, arith}, lemmas.Bool.or_cases}, specs.List.list_any}
use Rattle.napt_config.specs.declared.settings.Timers.{Timers}
use Rattle.napt_rules.specs.Life as life
use Rattle.napt_binding.{specs.Slots.standing_flows, proofs.TimedRows.{live_is, lives_until}}
use Rattle.napt_binding.proofs.flows.slots.FlowSlots.last_moment.Goals as goal

pub returns-clause-lives : goal.returns-clause-lives
returns-clause-lives c t within =
    let m = c.max.ensures in
    let slots = c.args.self.now.slots in
    let live : list_any (life.is_live_flow c.timers.inside.seconds c.args.now) (standing_flows slots) ≡ true =
    ap (λ (x : Timers). list_any (life.is_live_flow x c.args.now) (standing_flows slots)) c.timers.view_is
    ∙ c.requires.live in
    rw (← c.timers.view_is)
    (lives_until c.timers.inside.seconds c.args.now slots c.latest.result c.latest-2.result
    c.last_moment_of-established.result c.last_moment_of.result c.latest.ensures c.latest-2.ensures live
    c.last_moment_of-established.ensures.lives c.last_moment_of.ensures.lives t (λ past. omega arith))

pub returns-clause-far : goal.returns-clause-far
returns-clause-far c t small h =
    let m = c.max.ensures in
    let slots = c.args.self.now.slots in
    let shown : list_any (life.is_live_flow c.timers.inside.seconds t) (standing_flows slots) ≡ true =
    ap (λ (x : Timers). list_any (life.is_live_flow x t) (standing_flows slots)) c.timers.view_is ∙ h in
    ⊎_elim (λ here. let within = c.last_moment_of-established.ensures.far t small here in omega arith)
    (λ here. let within = c.last_moment_of.ensures.far t small here in omega arith)
    (or_cases _ _ (sym (live_is c.timers.inside.seconds t slots c.latest.result c.latest-2.result c.latest.ensures
    c.latest-2.ensures) ∙ shown))

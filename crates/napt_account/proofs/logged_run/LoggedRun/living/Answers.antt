-- living: by the invariant, the open entries of the builder are those of the run's log.
use Rattle.std.{proofs.Common.{◌≡◌, ◌∙◌, ap, subst}, specs.Prelude.IfOk}
use Rattle.napt_rules.specs.Prelude.{last_clock}
use Rattle.napt_account.specs.{Log.{LogModel, log_on}, LogBuilders.taken_in, LogParts.living_at, LoggedRuns.{LoggedRunModel, log_begun, state_begun}}
use Rattle.napt_account.proofs.logged_run.LoggedRun.living.Goals as goal

pub returns : goal.returns
returns c = λ going.
    let it = c.self.inside in
    let is = c.self.invariant (ap (λ (v : LoggedRunModel). v.is_stopped) c.self.view_is ∙ going) in
    subst (λ (v : LoggedRunModel). IfOk c.living.result (λ all. all.items
    ≡ living_at (last_clock v.state.clock v.inputs) (log_on v.rules v.state v.log v.inputs))) c.self.view_is
    (subst (λ n. IfOk c.living.result (λ all. all.items ≡ living_at n (log_on it.log.rules
    (state_begun it.log.rules it.begun.items) (log_begun it.log.rules it.begun.items it.saved.items)
    (taken_in it.past.items)))) is.clock
    (subst (λ (l : LogModel). IfOk c.living.result (λ all. all.items ≡ living_at it.log.clock l)) is.log_is
    (c.living.ensures is.goes_on)))

-- bindings: by the invariant, the bindings of the run are those of the definition for the inputs so far.
use Rattle.std.{proofs.Common.{◌≡◌, ◌∙◌, ap, subst}, specs.Prelude.IfOk}
use Rattle.napt_rules.specs.Prelude.{run_result_from}
use Rattle.napt_account.specs.{LogBuilders.taken_in, LoggedRuns.{LoggedRunModel, state_begun}}
use Rattle.napt_account.proofs.logged_run.LoggedRun.bindings.Goals as goal

pub returns : goal.returns
returns c = λ going.
    let it = c.self.inside in
    let is = c.self.invariant (ap (λ (v : LoggedRunModel). v.is_stopped) c.self.view_is ∙ going) in
    subst (λ (v : LoggedRunModel). IfOk c.bindings.result (λ made.
    made.items ≡ (run_result_from v.rules v.state v.inputs).bindings)) c.self.view_is
    (c.bindings.ensures it.log.rules (state_begun it.log.rules it.begun.items) (taken_in it.past.items) is.stands)

-- step: after an input, the run is that of the inputs with this one, and its outcome is the last of them.
use Rattle.std.proofs.Common.{◌≡◌, List, [], ◌∷◌, sym, ◌∙◌, ap, subst}
use Rattle.napt_rules.specs.Prelude.{Arrival, Rules, State}
use Rattle.napt_account.{specs.{LogBuilders.taken_in, LoggedRuns.state_begun}, proofs.LoggedRuns.taken_more}
use Rattle.napt_sequential.specs.SequentialRuns.{SequentialRunInvariant}
use Rattle.napt_commands.specs.PlainRuns.{IsOutcome, PlainRunModel}
use Rattle.napt_commands.proofs.plain_run.PlainRun.step.Goals as goal

pub invariant_of-self : goal.invariant_of-self
invariant_of-self c = λ going.
    let it = c.self.inside in
    let rules : Rules = it.config.now in
    let state : State = state_begun rules it.begun.items in
    let before : List Arrival = taken_in it.past.items in
    subst (λ (xs : List Arrival). SequentialRunInvariant rules state xs c.step.new.self)
    (sym (ap taken_in c.and-self-inside.ensures ∙ taken_more it.past.items 0 c.args.input.now))
    (c.in-Ok.ensures.stands state before (c.self.invariant going))

pub returns-in-Ok-clause-tells : goal.returns-in-Ok-clause-tells
returns-in-Ok-clause-tells c = λ going.
    let it = c.self.inside in
    let state : State = state_begun it.config.now it.begun.items in
    let is = c.self.invariant (ap (λ (v : PlainRunModel). v.is_stopped) c.self.view_is ∙ going) in
    subst (λ (v : PlainRunModel). IsOutcome v c.args.input.now c.in-Ok.stepped.outcome) c.self.view_is
    (c.in-Ok.ensures.tells state (taken_in it.past.items) is).outcome

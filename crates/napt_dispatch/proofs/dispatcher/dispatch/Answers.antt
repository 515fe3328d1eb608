-- dispatch: the outcomes in the list are those of the inputs in the list.
use Rattle.std.{proofs.Common.{◌≡◌, ◌∙◌, length, refl, subst}, specs.Prelude.⊤}
use Rattle.napt_config.specs.Rules.{Rules}
use Rattle.napt_rules.specs.Prelude.{State, initial_state}
use Rattle.napt_pool.specs.Pools.{initial_machines, accepted_items, taken_answers}
use Rattle.napt_dispatch.{specs.Dispatch.{started_from, IsDispatchedFrom}, proofs.{DispatchEnds.right_since, RunsThrough.{answered_whole, dispatched_whole}}}
use Rattle.napt_sequential.specs.CountedTranslators.{no_trace}
use Rattle.napt_dispatch.proofs.dispatcher.dispatch.Goals as goal

pub returns-in-Whole-clause-run : goal.returns-in-Whole-clause-run
returns-in-Whole-clause-run g c = λ replied.
    let rules : Rules = c.args.config.now in
    let start : State = initial_state rules in
    let pool = c.dispatch_to.new.pool in
    let began : initial_machines pool ≡ started_from rules start (length rules.pool) = c.dispatch_to.ensures.starts
    ∙ c.requires.started in
    subst (λ inputs. IsDispatchedFrom rules start inputs (accepted_items pool)
    c.dispatch_to.new.departures.outcomes.items
    c.in_ok-done.done.legs.items) c.in_ok-inputs.ensures
    (dispatched_whole rules start (λ queue. queue.items) (λ before pairs fault after. ⊤) (λ collected. ⊤)
    c.in_ok-inputs.inputs c.in_ok-collected.collected pool c.dispatch_to.new.arrivals c.dispatch_to.new.departures _
    (rw c.in-Whole.is at (c.in_ok-done.ensures.ends start refl)) c.in_ok-collected.ensures.outcomes
    (right_since (λ passage. no_trace) rules start (initial_machines pool) (accepted_items pool) (taken_answers pool)
    began replied
    (λ s leg. refl) (λ s leg. refl)))

pub returns-in-Whole-clause-settled : goal.returns-in-Whole-clause-settled
returns-in-Whole-clause-settled g c =
    answered_whole c.args.config.now (initial_state c.args.config.now) (λ queue. queue.items)
    (λ before pairs fault after. ⊤)
    (λ collected. ⊤) c.in_ok-inputs.inputs c.in_ok-collected.collected c.dispatch_to.new.pool
    c.dispatch_to.new.arrivals c.dispatch_to.new.departures _
    (rw c.in-Whole.is at (c.in_ok-done.ensures.ends (initial_state c.args.config.now) refl))

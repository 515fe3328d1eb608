-- run_through: the ending of dispatching and the joined workers give the result of the run.
use Rattle.std.proofs.{Common.{◌≡◌, ◌∙◌, [], inl, length, map, None, Some, refl, sym, ap, subst}, lemmas.Result.{IfOk-at_ok, err_from_is_err_and}}
use Rattle.napt_config.specs.Rules.{Rules}
use Rattle.napt_pool.specs.Pools.{initial_machines, accepted_items, taken_answers}
use Rattle.napt_rules.specs.Prelude.{State, with_redirects}
use Rattle.napt_dispatch.{specs.{OutcomeLists.collected_outcome, Dispatch.started_from, RunsThrough.{DispatchOk, DispatchPost}}, proofs.ClosedWorkers.{rows_shown, workers_shown, workers_left}}
use Rattle.napt_dispatch.proofs.{DispatchEnds.right_begin, Lanes.front_empty, RunsThrough.{passes_to, passes_well, passes_early, passes_ended, passes_closed}}
use Rattle.napt_dispatch.proofs.workers.run_through.Goals as goal

pub returns-in_err-pool-clause-passes : goal.returns-in_err-pool-clause-passes
returns-in_err-pool-clause-passes g c =
    let p = err_from_is_err_and c.from_residual.result c.from_residual.ensures.1 in
    rw (p.1, p.2)
    (record {
      inputs = [];
      went = [];
      come = inl (g.met.A.InputSource.hands_none c.args.arrivals.now);
      front = front_empty _;
      took = inl (g.met.D.OutcomeSink.takes_none c.args.departures.now);
    })

pub returns-in_err-dispatched-clause-passes : goal.returns-in_err-dispatched-clause-passes
returns-in_err-dispatched-clause-passes g c =
    let start : State = with_redirects c.args.config.now c.args.state.now in
    let pool = c.dispatch_to-dispatched.new.pool in
    let p = err_from_is_err_and c.from_residual-in_err-dispatched.result c.from_residual-in_err-dispatched.ensures.1 in
    rw (p.1, p.2)
    (passes_closed pool
    (right_begin g.D.Trace.LegTrace.tells c.args.config.now start (initial_machines pool) (accepted_items pool)
    (taken_answers pool)
    (c.dispatch_to-dispatched.ensures.starts ∙ c.in_ok-pool.ensures.started) c.in_err-dispatched.ensures.taken
    (λ s leg. refl) (λ s leg. refl)) c.state.inside.clock (sym (ap (λ (s : State). s.clock) c.state.view_is))
    c.dispatch_to-dispatched.result c.dispatch_to-dispatched.ensures.ends c.dispatch_to-dispatched.ensures.halts)

pub returns-in-Err-clause-passes : goal.returns-in-Err-clause-passes
returns-in-Err-clause-passes g c =
    let start : State = with_redirects c.args.config.now c.args.state.now in
    let pool = c.dispatch_to-dispatched.new.pool in
    passes_ended pool
    (right_begin g.D.Trace.LegTrace.tells c.args.config.now start (initial_machines pool) (accepted_items pool)
    (taken_answers pool)
    (c.dispatch_to-dispatched.ensures.starts ∙ c.in_ok-pool.ensures.started) c.in_ok-dispatched.ensures.taken
    (λ s leg. refl) (λ s leg. refl)) c.in_ok-dispatched.dispatched c.in_ok-dispatched.dispatched.ending
    (IfOk-at_ok _ c.in_ok-dispatched.ensures.given c.dispatch_to-dispatched.ensures.ends start
    (sym (ap (λ (s : State). s.clock) c.state.view_is)))

pub returns-in-Ok-clause-passes : goal.returns-in-Ok-clause-passes
returns-in-Ok-clause-passes g c =
    let start : State = with_redirects c.args.config.now c.args.state.now in
    let rules : Rules = c.args.config.now in
    let pool = c.dispatch_to-dispatched.new.pool in
    let closed = c.in_ok-dispatched.ensures in
    let e : DispatchOk g.D.Trace.LegTrace.tells c.args.config.now start g.A.InputSource.hands g.A.InputSource.ends
    g.D.OutcomeSink.takes g.D.OutcomeSink.fails g.D.OutcomeSink.is_settled c.args.arrivals.now c.args.departures.now
    pool
    c.dispatch_to-dispatched.new.arrivals c.dispatch_to-dispatched.new.departures None c.in_ok-dispatched.dispatched =
    subst (λ ending. DispatchPost g.D.Trace.LegTrace.tells c.args.config.now start g.A.InputSource.hands
    g.A.InputSource.ends
    g.D.OutcomeSink.takes g.D.OutcomeSink.fails g.D.OutcomeSink.is_settled c.args.arrivals.now c.args.departures.now
    pool
    c.dispatch_to-dispatched.new.arrivals c.dispatch_to-dispatched.new.departures c.in_ok-dispatched.dispatched ending)
    c.in-Whole.is (IfOk-at_ok _ closed.given c.dispatch_to-dispatched.ensures.ends start
    (sym (ap (λ (s : State). s.clock) c.state.view_is))) in
    let began : initial_machines pool ≡ started_from rules start (length rules.pool) =
    c.dispatch_to-dispatched.ensures.starts ∙ c.in_ok-pool.ensures.started in
    let right = right_begin g.D.Trace.LegTrace.tells rules start (initial_machines pool) (accepted_items pool)
    (taken_answers pool) began closed.taken (λ s leg. refl) (λ s leg. refl) in
    let done = (e.right (right e.offered_many)).1 in
    let machines = map (λ e. e.machine) c.in_ok-dispatched.ended.items in
    passes_well pool right c.in_ok-dispatched.dispatched c.in-Ok.passed e c.in-Ok.ensures.legs
    (workers_shown _ rules start e.inputs (initial_machines pool) (accepted_items pool) machines
    (map collected_outcome e.went)
    c.in_ok-dispatched.dispatched.legs.items began closed.machines done
    c.in_ok-dispatched.dispatched.clock e.clock (λ s. refl) (λ s leg legs. refl) c.in-Ok.passed.bindings.items
    (rows_shown c.in_ok-dispatched.dispatched.clock c.in-Ok.passed.bindings.items c.in_ok-dispatched.ended.items
    c.in_ok-dispatched.ended.items c.in-Ok.ensures.bindings refl))
    (workers_left _ rules start e.inputs (initial_machines pool) (accepted_items pool) machines
    (map collected_outcome e.went)
    c.in_ok-dispatched.dispatched.legs.items began closed.machines done
    c.in_ok-dispatched.dispatched.clock e.clock (λ s. refl) (λ s leg legs. refl) c.in-Ok.passed
    c.in-Ok.ensures.translators c.in-Ok.ensures.clock)

pub returns-in-Arrival-clause-passes : goal.returns-in-Arrival-clause-passes
returns-in-Arrival-clause-passes g c =
    let start : State = with_redirects c.args.config.now c.args.state.now in
    let pool = c.dispatch_to-dispatched.new.pool in
    let closed = c.in_ok-dispatched.ensures in
    let e : DispatchOk g.D.Trace.LegTrace.tells c.args.config.now start g.A.InputSource.hands g.A.InputSource.ends
    g.D.OutcomeSink.takes g.D.OutcomeSink.fails g.D.OutcomeSink.is_settled c.args.arrivals.now c.args.departures.now
    pool
    c.dispatch_to-dispatched.new.arrivals c.dispatch_to-dispatched.new.departures (Some c.in-Arrival.fault)
    c.in_ok-dispatched.dispatched =
    subst (λ ending. DispatchPost g.D.Trace.LegTrace.tells c.args.config.now start g.A.InputSource.hands
    g.A.InputSource.ends
    g.D.OutcomeSink.takes g.D.OutcomeSink.fails g.D.OutcomeSink.is_settled c.args.arrivals.now c.args.departures.now
    pool
    c.dispatch_to-dispatched.new.arrivals c.dispatch_to-dispatched.new.departures c.in_ok-dispatched.dispatched ending)
    c.in-Arrival.is (IfOk-at_ok _ closed.given c.dispatch_to-dispatched.ensures.ends start
    (sym (ap (λ (s : State). s.clock) c.state.view_is))) in
    passes_to pool
    (right_begin g.D.Trace.LegTrace.tells c.args.config.now start (initial_machines pool) (accepted_items pool)
    (taken_answers pool)
    (c.dispatch_to-dispatched.ensures.starts ∙ c.in_ok-pool.ensures.started) closed.taken (λ s leg. refl)
    (λ s leg. refl)) (Some c.in-Arrival.fault) c.in_ok-dispatched.dispatched e

pub returns-in-Departure-clause-passes : goal.returns-in-Departure-clause-passes
returns-in-Departure-clause-passes g c =
    let start : State = with_redirects c.args.config.now c.args.state.now in
    let pool = c.dispatch_to-dispatched.new.pool in
    let closed = c.in_ok-dispatched.ensures in
    passes_early pool
    (right_begin g.D.Trace.LegTrace.tells c.args.config.now start (initial_machines pool) (accepted_items pool)
    (taken_answers pool)
    (c.dispatch_to-dispatched.ensures.starts ∙ c.in_ok-pool.ensures.started) closed.taken (λ s leg. refl)
    (λ s leg. refl))
    c.in-Departure.fault (rw c.in-Departure.is at (IfOk-at_ok _ closed.given c.dispatch_to-dispatched.ensures.ends start
    (sym (ap (λ (s : State). s.clock) c.state.view_is))))

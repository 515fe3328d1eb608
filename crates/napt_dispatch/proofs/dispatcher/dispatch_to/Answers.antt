-- dispatch_to: each ending of the dispatcher is one of the endings in the contract.
use Rattle.std.proofs.{Common.{◌≡◌, [], length, refl, sym, ap, ◌∙◌, inl, rules}, lemmas.{List.length-replicate, Result.err_from_is_err_and}}
use Rattle.napt_pool.specs.Pools.{initial_machines}
use Rattle.napt_dispatch.{specs.WorkerQueues.unused_queue, proofs.Lanes.front_empty}
use Rattle.napt_dispatch.proofs.RunThroughEnds.{begun, ends_with, ends_early, ends_halted, ends_after, ends_by}
use Rattle.napt_dispatch.proofs.dispatcher.dispatch_to.Goals as goal

pub pass_all-requires : goal.pass_all-requires
pass_all-requires g c =
    let workers : length (initial_machines c.args.pool.now) ≡ length c.args.config.now.pool = c.requires.workers in (
      c.type_bounds.static-D-Trace,
      (
        search rules,
        record {
          keeps = c.pool.ensures.kept;
          count = workers;
          sized = rw (c.in_ok-dispatcher.ensures.queues, workers)
              (length-replicate _ unused_queue ∙ ap length c.pool.ensures.addresses);
          left = c.in_ok-dispatcher.ensures.left;
          under_way = c.in_ok-dispatcher.ensures.under_way;
        },
      ),
    )

pub returns-in-Ok-clause-ends : goal.returns-in-Ok-clause-ends
returns-in-Ok-clause-ends g c = λ start at.
    let first = c.in_ok-dispatcher.ensures in
    ends_by _ c.in-Ok.field-0.fault c.from_result.result c.from_result.ensures
    (ends_with c.args.pool.now c.in_ok-dispatcher.dispatcher (at ∙ sym first.clock)
    (begun c.args.config.now start c.args.pool.now c.in_ok-dispatcher.dispatcher _
    (ap length c.pool.ensures.addresses) first.queues first.left first.under_way c.requires.unoffered
    c.requires.untaken) c.in-Ok.field-0 _ c.in-Ok.ensures c.in_ok-counts-in-Ok.ensures refl)

pub returns-in-Err-Departure-clause-ends : goal.returns-in-Err-Departure-clause-ends
returns-in-Err-Departure-clause-ends g c = λ start at.
    let first = c.in_ok-dispatcher.ensures in
    ends_early c.args.pool.now c.in_ok-dispatcher.dispatcher (at ∙ sym first.clock)
    (begun c.args.config.now start c.args.pool.now c.in_ok-dispatcher.dispatcher _
    (ap length c.pool.ensures.addresses) first.queues first.left first.under_way c.requires.unoffered
    c.requires.untaken) c.in-Err-Departure.fault (rw c.in-Err-Departure.field-0-is at c.in-Err-Departure.ensures)

pub returns-in_err-dispatcher-clause-halts : goal.returns-in_err-dispatcher-clause-halts
returns-in_err-dispatcher-clause-halts g c =
    let p = err_from_is_err_and c.from_residual.result c.from_residual.ensures.1 in
    rw p.1
    (λ start at. record {
      inputs = [];
      went = [];
      come = inl (g.met.A.InputSource.hands_none c.args.arrivals.now);
      took = g.met.D.OutcomeSink.takes_none c.args.departures.now;
      offered_many = ap length c.requires.unoffered ∙ length-replicate (length c.args.config.now.pool) [];
      right = λ right. front_empty _;
    })

pub returns-in_err-counts-in-Ok-clause-halts : goal.returns-in_err-counts-in-Ok-clause-halts
returns-in_err-counts-in-Ok-clause-halts g c =
    let p = err_from_is_err_and c.from_residual-in_err-counts-in-Ok.result
    c.from_residual-in_err-counts-in-Ok.ensures.1 in
    let first = c.in_ok-dispatcher.ensures in
    rw p.1
    (λ start at. ends_after c.args.pool.now c.in_ok-dispatcher.dispatcher (at ∙ sym first.clock)
    (begun c.args.config.now start c.args.pool.now c.in_ok-dispatcher.dispatcher _
    (ap length c.pool.ensures.addresses) first.queues first.left first.under_way c.requires.unoffered
    c.requires.untaken) c.in-Ok.field-0 c.in-Ok.ensures)

pub returns-clause-halts : goal.returns-clause-halts
returns-clause-halts g c = λ start at.
    let first = c.in_ok-dispatcher.ensures in
    ends_halted c.args.pool.now c.in_ok-dispatcher.dispatcher (at ∙ sym first.clock)
    (begun c.args.config.now start c.args.pool.now c.in_ok-dispatcher.dispatcher _
    (ap length c.pool.ensures.addresses) first.queues first.left first.under_way c.requires.unoffered
    c.requires.untaken) g.G.Gate.is_open c.in-Err-Run.fault (rw c.in-Err-Run.field-0-is at c.in-Err-Run.ensures)

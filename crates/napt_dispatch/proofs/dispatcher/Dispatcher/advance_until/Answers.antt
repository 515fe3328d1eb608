-- advance_until: the steps so far and the next one make one step, or end with its fault.
use Rattle.std.proofs.{Common.[], lemmas.Result.err_from_is_err_and}
use Rattle.napt_dispatch.proofs.RunSteps.{goes_none, lets_more, lets_halt, lets_turn, lets_stop}
use Rattle.napt_dispatch.proofs.dispatcher.Dispatcher.advance_until.Goals as goal

pub loop-init : goal.loop-init
loop-init g c = record {
  went = [];
  goes = goes_none c.requires.sized;
  took = g.met.D.OutcomeSink.takes_none c.args.departures.now;
}

pub loop-preserved : goal.loop-preserved
loop-preserved g c =
    lets_turn g.D.OutcomeSink.fails g.met.D.OutcomeSink.takes_more c.loop.invariant c.in_ok-hand_over.ensures
    c.in_ok-advance.ensures.state

pub returns-in_err-hand_over-clause-state : goal.returns-in_err-hand_over-clause-state
returns-in_err-hand_over-clause-state g c =
    let p = err_from_is_err_and c.from_residual.result c.from_residual.ensures.1 in
    rw (p.1, p.2)
    (lets_halt g.D.OutcomeSink.fails g.met.D.OutcomeSink.takes_more c.loop.pool c.hand_over.new.self
    c.hand_over.new.departures g.G.Gate.is_open c.in_err-hand_over.field-0.0
    c.loop.invariant c.in_err-hand_over.ensures)

pub returns-then-has_reached-clause-state : goal.returns-then-has_reached-clause-state
returns-then-has_reached-clause-state g c =
    lets_more g.D.OutcomeSink.fails g.met.D.OutcomeSink.takes_more _ _ _ c.loop.invariant c.in_ok-hand_over.ensures

pub returns-in_err-advance-clause-state : goal.returns-in_err-advance-clause-state
returns-in_err-advance-clause-state g c =
    let p = err_from_is_err_and c.from_residual-in_err-advance.result c.from_residual-in_err-advance.ensures.1 in
    rw (p.1, p.2)
    (lets_stop g.D.OutcomeSink.fails g.met.D.OutcomeSink.takes_more c.loop.invariant c.in_ok-hand_over.ensures
    c.in_err-advance.ensures.state)

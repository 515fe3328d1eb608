-- wait_and_take: a pass without an answer changes nothing; one with an answer ends the wait.
use Rattle.napt_dispatch.proofs.{WorkerOffers.taken_none, RunSteps.continues_both, Lanes.halts_after}
use Rattle.std.proofs.lemmas.Result.{err_from_is_err_and}
use Rattle.napt_dispatch.proofs.dispatcher.Dispatcher.wait_and_take.Goals as goal

pub returns-then-branch-clause-state : goal.returns-then-branch-clause-state
returns-then-branch-clause-state g c = continues_both c.loop.invariant.state c.in_ok-take_all_available.ensures.state

pub loop-preserved : goal.loop-preserved
loop-preserved g c = record {
  state = continues_both c.loop.invariant.state c.in_ok-take_all_available.ensures.state;
  none = taken_none c.args.self.now c.loop.self c.take_all_available.new.self _ c.if-branch.false c.loop.invariant.none
      c.in_ok-take_all_available.ensures.told;
}

pub returns-in_err-take_all_available-clause-state : goal.returns-in_err-take_all_available-clause-state
returns-in_err-take_all_available-clause-state g c =
    let p = err_from_is_err_and c.from_residual.result c.from_residual.ensures.1 in
    rw (p.1, p.2) (halts_after c.loop.invariant.state.grows c.in_err-take_all_available.ensures.state)

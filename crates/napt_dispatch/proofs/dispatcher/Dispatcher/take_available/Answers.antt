-- take_available: the steps so far and the next one make one step.
use Rattle.std.proofs.{Common.rules, lemmas.Result.err_from_is_err_and}
use Rattle.napt_dispatch.proofs.{WorkerOffers.taken_on, RunSteps.continues_both, Lanes.halts_after}
use Rattle.napt_dispatch.proofs.dispatcher.Dispatcher.take_available.Goals as goal

pub returns-then-not-branch-clause-state : goal.returns-then-not-branch-clause-state
returns-then-not-branch-clause-state g c = continues_both c.loop.invariant.state c.in_ok-take_reply.ensures.state

pub loop-preserved : goal.loop-preserved
loop-preserved g c = record {
  state = continues_both c.loop.invariant.state c.in_ok-take_reply.ensures.state;
  told = taken_on c.args.self.now c.loop.self c.take_reply.new.self c.loop.any _ (search rules) c.loop.invariant.told
      c.in_ok-take_reply.ensures.told;
}

pub returns-in_err-take_reply-clause-state : goal.returns-in_err-take_reply-clause-state
returns-in_err-take_reply-clause-state g c =
    let p = err_from_is_err_and c.from_residual.result c.from_residual.ensures.1 in
    rw (p.1, p.2) (halts_after c.loop.invariant.state.grows c.in_err-take_reply.ensures.state)

-- offer_all: an offer to one worker does not affect the property of the workers before it.
use Rattle.std.proofs.{Common.{inl, inr, arith}, lemmas.{Bool.cases_eq, Result.err_from_is_err_and}}
use Rattle.napt_dispatch.proofs.{WorkerOffers.offered_still, RunSteps.continues_both, Lanes.halts_after}
use Rattle.napt_dispatch.proofs.dispatcher.Dispatcher.offer_all.Goals as goal

pub loop-w-preserved : goal.loop-w-preserved
loop-w-preserved g c = record {
  state = continues_both c.loop-w.invariant.state c.in_ok-offer_held.ensures.state;
  offered = λ v lt. elim (cases_eq v c.loop-w.w) [
    | inl e ↦ rw e c.in_ok-offer_held.ensures.offered
    | inr n ↦ offered_still c.loop-w.w c.loop-w.pool c.loop-w.self c.offer_held.new.pool c.offer_held.new.self
        c.in_ok-offer_held.ensures.alone v n (c.loop-w.invariant.offered v (omega (arith, lt)))
  ];
}

pub returns-in_err-offer_held-clause-state : goal.returns-in_err-offer_held-clause-state
returns-in_err-offer_held-clause-state g c =
    let p = err_from_is_err_and c.from_residual.result c.from_residual.ensures.1 in
    rw (p.1, p.2) (halts_after c.loop-w.invariant.state.grows c.in_err-offer_held.ensures.state)

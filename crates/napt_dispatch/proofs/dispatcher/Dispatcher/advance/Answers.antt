-- advance: two offers and the answers taken between them make one step.
use Rattle.napt_dispatch.proofs.{RunSteps.{continues_both, continues_then}, Lanes.halts_after}
use Rattle.std.proofs.lemmas.Result.{err_from_is_err_and}
use Rattle.napt_dispatch.proofs.dispatcher.Dispatcher.advance.Goals as goal

pub returns-clause-state : goal.returns-clause-state
returns-clause-state g c =
    continues_then (continues_both c.in_ok-offer_all.ensures.state c.in_ok-wait_and_take.ensures.state) g.G.Gate.is_open
    c.offer_all-2.new.pool c.offer_all-2.new.self c.offer_all-2.result c.offer_all-2.ensures.state

pub returns-in_err-wait_and_take-clause-state : goal.returns-in_err-wait_and_take-clause-state
returns-in_err-wait_and_take-clause-state g c =
    let p = err_from_is_err_and c.from_residual-in_err-wait_and_take.result
    c.from_residual-in_err-wait_and_take.ensures.1 in
    rw (p.1, p.2) (halts_after c.in_ok-offer_all.ensures.state.grows c.in_err-wait_and_take.ensures.state)

-- take_and_offer: taking answers and offering legs after that make one step.
use Rattle.napt_dispatch.proofs.RunSteps.{continues_then}
use Rattle.napt_dispatch.proofs.dispatcher.Dispatcher.take_and_offer.Goals as goal

pub returns-then-take_freed-clause-state : goal.returns-then-take_freed-clause-state
returns-then-take_freed-clause-state g c =
    continues_then c.in_ok-take_available.ensures.state g.G.Gate.is_open c.offer_all.new.pool c.offer_all.new.self
    c.offer_all.result (rw c.take_freed.ensures at c.offer_all.ensures.state)

pub returns-clause-state : goal.returns-clause-state
returns-clause-state g c =
    continues_then c.in_ok-take_available.ensures.state g.G.Gate.is_open c.offer_held.new.pool c.offer_held.new.self
    c.offer_held.result (rw c.take_freed.ensures at c.offer_held.ensures.state)

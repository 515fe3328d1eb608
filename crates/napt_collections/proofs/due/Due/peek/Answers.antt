-- peek: the entry at the top has the least time.
use Rattle.napt_collections.proofs.HeapTop.{least_of}
use Rattle.napt_collections.proofs.due.Due.peek.Goals as goal

pub returns-in-Some-clause-least : goal.returns-in-Some-clause-least
returns-in-Some-clause-least g c =
    rw (← c.self.view_is) (least_of g.T.Ord.cmp c.in-Some.top.now _ (c.in-Some.ensures.greatest c.self.invariant))

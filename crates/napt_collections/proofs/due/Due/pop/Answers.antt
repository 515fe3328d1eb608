-- pop: the removed entry has the least time, and the others stay.
use Rattle.std.proofs.lemmas.List.Sorted.{IsPermutation-map}
use Rattle.napt_collections.proofs.HeapTop.{least_of}
use Rattle.napt_collections.proofs.due.Due.pop.Goals as goal

pub returns-clause-some : goal.returns-clause-some
returns-clause-some g c = rw (← c.self.view_is) (IsPermutation-map (λ e. e.0) _ _ c.in_ok-entry.ensures.permutation)

pub returns-clause-least : goal.returns-clause-least
returns-clause-least g c =
    rw (← c.self.view_is)
    (least_of g.T.Ord.cmp c.in_ok-entry.field-0 _ (c.in_ok-entry.ensures.heap_order c.self.invariant).1)

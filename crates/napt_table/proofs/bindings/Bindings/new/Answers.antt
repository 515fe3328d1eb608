-- `new`: the empty queue is valid for an index without bindings.
use Rattle.napt_table.proofs.Queues.{empty_due}
use Rattle.napt_table.proofs.bindings.Bindings.new.Goals as goal

pub invariant_of-result : goal.invariant_of-result
invariant_of-result c = empty_due _ _ _ _ c.in_ok-new.ensures.none c.new-2.ensures

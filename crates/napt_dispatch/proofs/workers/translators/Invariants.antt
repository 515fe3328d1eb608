-- translators: the translators so far, followed by those of the other workers, are all translators.
use Rattle.std.{proofs.Common.{◌≡◌, ◌++◌, map}, specs.Vec.Iter.into_iter_items}
use Rattle.napt_dispatch.proofs.workers.translators.Given as goal

abbrev pub invariant-loop-worker : goal.invariant-loop-worker
invariant-loop-worker g l = l.made.items ++ map (λ e. e.machine) (into_iter_items l.worker-iterator)
    ≡ map (λ e. e.machine) l.fn.ended.items

-- bindings: the list has the rows of the workers so far.
use Rattle.std.{proofs.Common.{◌≡◌, take}, specs.Prelude.flat_map}
use Rattle.napt_dispatch.specs.Dispatch.{rows_after}
use Rattle.napt_dispatch.proofs.workers.bindings.Given as goal

abbrev pub invariant-loop-worker : goal.invariant-loop-worker
invariant-loop-worker g l = l.made.items ≡ flat_map (λ e. rows_after l.now e.machine) (take l.worker-index l.ended)

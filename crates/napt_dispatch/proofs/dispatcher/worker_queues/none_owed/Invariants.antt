-- none_owed: no queue so far has a leg that is not answered.
use Rattle.std.proofs.Common.{◌≡◌, ℕ, ◌<◌, []}
use Rattle.napt_dispatch.specs.WorkerQueues.{queue_of}
use Rattle.napt_dispatch.proofs.dispatcher.worker_queues.none_owed.Given as goal

abbrev pub invariant-loop-queue : goal.invariant-loop-queue
invariant-loop-queue l = (w : ℕ) → w < l.queue-index → (queue_of l.queues w).owed ≡ []

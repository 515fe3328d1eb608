-- counts_of: the list has the number of each queue so far.
use Rattle.std.proofs.Common.{◌≡◌, take}
use Rattle.napt_dispatch.specs.WorkerQueues.{counts_in}
use Rattle.napt_dispatch.proofs.dispatcher.worker_queues.counts_of.Given as goal

abbrev pub invariant-loop-queue : goal.invariant-loop-queue
invariant-loop-queue l = l.counts.items ≡ counts_in (take l.queue-index l.queues)

-- new: all queues so far are unused.
use Rattle.std.proofs.Common.{◌≡◌, replicate}
use Rattle.napt_dispatch.specs.WorkerQueues.{unused_queue}
use Rattle.napt_dispatch.proofs.dispatcher.worker_queues.WorkerQueues.new.Given as goal

abbrev pub invariant-loop : goal.invariant-loop
invariant-loop l = l.queues.items ≡ replicate l.counter unused_queue

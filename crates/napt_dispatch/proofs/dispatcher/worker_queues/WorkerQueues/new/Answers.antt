-- new: unused queues are empty, so that the count is right.
use Rattle.std.proofs.Common.{arith}
use Rattle.napt_dispatch.proofs.QueueStates.{counted_none}
use Rattle.napt_dispatch.proofs.dispatcher.worker_queues.WorkerQueues.new.Goals as goal

pub invariant_of-result : goal.invariant_of-result
invariant_of-result c =
    counted_none c.loop.queues.items c.loop.counter c.loop.invariant (omega (arith, c.requires)) (omega arith)

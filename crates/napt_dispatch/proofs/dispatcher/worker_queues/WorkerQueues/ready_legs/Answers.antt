-- ready_legs: the count stays right, and the queues of worker `w` alone change.
use Rattle.std.proofs.Common.{◌<◌, length}
use Rattle.napt_dispatch.proofs.QueueStates.{moves_here, counted_same}
use Rattle.napt_dispatch.proofs.dispatcher.worker_queues.WorkerQueues.ready_legs.Goals as goal

pub invariant_of-self : goal.invariant_of-self
invariant_of-self c =
    let lt : c.args.w < length c.self.inside.queues.items = rw c.self.view_is c.requires in
    counted_same c.self.inside.queues.items c.args.w c.index_mut-queue.result.now c.ready_legs.new.self lt
    c.index_mut-queue.ensures.value c.self.inside.many c.ready_legs.ensures.count_stays c.self.invariant

pub returns-clause-moves : goal.returns-clause-moves
returns-clause-moves c =
    let lt : c.args.w < length c.self.inside.queues.items = rw c.self.view_is c.requires in
    rw (← c.self.view_is)
    (moves_here c.self.inside.queues.items c.args.w c.index_mut-queue.result.now c.ready_legs.new.self lt
    c.index_mut-queue.ensures.value c.ready_legs.ensures)

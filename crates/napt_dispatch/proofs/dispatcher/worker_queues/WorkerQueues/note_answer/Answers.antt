-- note_answer: the count stays right, and worker `w` owes one answer fewer, if it owed any.
use Rattle.std.proofs.Common.{◌<◌, length, ap}
use Rattle.napt_dispatch.{specs.WorkerQueues.held_legs_count, proofs.QueueStates.{answers_here, counted_same}}
use Rattle.napt_dispatch.proofs.dispatcher.worker_queues.WorkerQueues.note_answer.Goals as goal

pub invariant_of-self : goal.invariant_of-self
invariant_of-self c =
    let lt : c.args.w < length c.self.inside.queues.items = rw c.self.view_is c.requires in
    counted_same c.self.inside.queues.items c.args.w c.index_mut-queue.result.now c.note_answer.new.self lt
    c.index_mut-queue.ensures.value c.self.inside.many (ap held_legs_count c.note_answer.ensures.else_same)
    c.self.invariant

pub returns-clause-first : goal.returns-clause-first
returns-clause-first c =
    let lt : c.args.w < length c.self.inside.queues.items = rw c.self.view_is c.requires in
    rw (← c.self.view_is)
    (answers_here c.self.inside.queues.items c.args.w c.index_mut-queue.result.now c.note_answer.new.self lt
    c.index_mut-queue.ensures.value c.note_answer.result c.note_answer.ensures.first c.note_answer.ensures.else_same)

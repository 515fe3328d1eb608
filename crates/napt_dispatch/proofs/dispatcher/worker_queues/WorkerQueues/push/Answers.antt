-- push: the count stays right, and one entry is appended for worker `w` alone.
use Rattle.std.proofs.Common.{◌+◌, ◌<◌, [], ◌∷◌, length, arith, sym, ap, ◌∙◌}
use Rattle.napt_dispatch.{specs.WorkerQueues.held_count, proofs.QueueStates.{holds_here, count_more, counted_by}}
use Rattle.napt_dispatch.proofs.dispatcher.worker_queues.WorkerQueues.push.Goals as goal

pub invariant_of-self-2 : goal.invariant_of-self-2
invariant_of-self-2 c =
    let lt : c.args.w < length c.self.inside.queues.items = rw c.self.view_is c.requires.place in
    let room : held_count c.self.inside.queues.items < 65536 = rw c.self.view_is c.requires.room in
    let more = count_more c.args.held c.index_mut-queue.result.now c.push.new.self c.in_ok-push.ensures.ok in
    counted_by c.self.inside.queues.items c.args.w c.index_mut-queue.result.now c.push.new.self lt
    c.index_mut-queue.ensures.value c.self.inside.many (c.self.inside.many + 1) (omega (arith, more))
    (omega (arith, room, c.self.invariant.counted)) c.self.invariant

pub returns-clause-holds : goal.returns-clause-holds
returns-clause-holds c =
    let lt : c.args.w < length c.self.inside.queues.items = rw c.self.view_is c.requires.place in
    rw (← c.self.view_is)
    (holds_here c.self.inside.queues.items c.args.w c.index_mut-queue.result.now c.push.new.self lt
    c.index_mut-queue.ensures.value (c.args.held ∷ []) c.in_ok-push.ensures.ok)

pub returns-clause-counted : goal.returns-clause-counted
returns-clause-counted c =
    let lt : c.args.w < length c.self.inside.queues.items = rw c.self.view_is c.requires.place in
    let room : held_count c.self.inside.queues.items < 65536 = rw c.self.view_is c.requires.room in
    let more = count_more c.args.held c.index_mut-queue.result.now c.push.new.self c.in_ok-push.ensures.ok in
    let now = counted_by c.self.inside.queues.items c.args.w c.index_mut-queue.result.now c.push.new.self lt
    c.index_mut-queue.ensures.value c.self.inside.many (c.self.inside.many + 1) (omega (arith, more))
    (omega (arith, room, c.self.invariant.counted)) c.self.invariant in
    rw (← c.self.view_is) (sym now.counted ∙ ap (λ n. n + 1) c.self.invariant.counted)

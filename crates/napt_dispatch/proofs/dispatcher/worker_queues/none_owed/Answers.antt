-- none_owed: a queue whose count is zero owes no answer.
use Rattle.std.proofs.Common.{◌≡◌, ◌∙◌, length, sym, ap, arith, below_more}
use Rattle.napt_dispatch.{specs.WorkerQueues.{WorkerQueueModel, queue_of}, proofs.QueueStates.{queue_is, nothing}}
use Rattle.napt_dispatch.proofs.dispatcher.worker_queues.none_owed.Goals as goal

pub loop-queue-preserved : goal.loop-queue-preserved
loop-queue-preserved c =
    let none : length c.queue-item.result.owed ≡ 0 = omega (arith, c.owed_count.ensures, c.if-owed_count-gt0.false) in
    below_more _ _ c.loop-queue.invariant
    (ap (λ (q : WorkerQueueModel). q.owed) (queue_is c.args.queues.now c.loop-queue.queue-index c.queue-item.result
    c.queue-item.result c.loop-queue-test.true c.queue-item.is) ∙ nothing c.queue-item.result.owed none)

pub returns-then-owed_count-gt0 : goal.returns-then-owed_count-gt0
returns-then-owed_count-gt0 c = (
  λ e. absurd (cc (e)),
  λ none.
      let own : queue_of c.args.queues.now c.loop-queue.queue-index ≡ c.queue-item.result =
      queue_is c.args.queues.now c.loop-queue.queue-index c.queue-item.result c.queue-item.result
      c.loop-queue-test.true c.queue-item.is in
      let here : length c.queue-item.result.owed ≡ 0 =
      ap length (ap (λ (q : WorkerQueueModel). q.owed) (sym own) ∙ none c.loop-queue.queue-index) in
      absurd (omega (arith, here, c.owed_count.ensures, c.if-owed_count-gt0.true)),
)

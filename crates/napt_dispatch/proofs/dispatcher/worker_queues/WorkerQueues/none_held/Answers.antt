-- none_held: the sum is zero if and only if each queue is empty.
use Rattle.std.proofs.{Common.{◌≡◌, ◌∙◌, ℕ, sym}, lemmas.Bool.{eqb-true, eq-eqb}}
use Rattle.napt_dispatch.{specs.WorkerQueues.{queue_of, held_legs_count}, proofs.QueueStates.{none_held, held_none}}
use Rattle.napt_dispatch.proofs.dispatcher.worker_queues.WorkerQueues.none_held.Goals as goal

pub returns : goal.returns
returns c = (
  λ h. rw (← c.self.view_is)
      (none_held c.self.inside.queues.items (sym c.self.invariant.counted ∙ eqb-true c.self.inside.many 0 h)),
  λ none.
      let inside : (w : ℕ) → held_legs_count (queue_of c.self.inside.queues.items w) ≡ 0 = rw c.self.view_is none in
      eq-eqb c.self.inside.many 0 (c.self.invariant.counted ∙ held_none c.self.inside.queues.items inside),
)

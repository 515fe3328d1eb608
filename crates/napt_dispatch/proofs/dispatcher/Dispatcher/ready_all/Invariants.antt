-- ready_all: the entries moved so far went to the end of the next message, in their order.
use Rattle.std.proofs.Common.{◌≡◌, length}
use Rattle.napt_dispatch.specs.{WorkerQueues.queue_of, DispatcherInvariants.ReadyLegsPost}
use Rattle.napt_dispatch.proofs.dispatcher.Dispatcher.ready_all.Given as goal

abbrev pub invariant-loop-self : goal.invariant-loop-self
invariant-loop-self g l = record {
  many : length l.self.queues ≡ length l.fn.self.queues;
  readies : ReadyLegsPost g.P.LegTrace.tells l.w l.fn.self l.self;
}

abbrev pub decreases-loop-self : goal.decreases-loop-self
decreases-loop-self g l = length (queue_of l.self.queues l.w).held

-- note_each: the answers taken from the list so far have been recorded.
use Rattle.std.{proofs.Common.{◌≡◌, ◌+◌, ◌++◌, length}, specs.Vec.Iter.drain_items}
use Rattle.napt_dispatch.specs.{WorkerQueues.owed_count, DispatcherInvariants.NoteAnswersPost}
use Rattle.napt_dispatch.proofs.dispatcher.Dispatcher.note_each.Given as goal

abbrev pub invariant-loop-answer : goal.invariant-loop-answer
invariant-loop-answer g l = record {
  split : l.yielded ++ drain_items l.answer-iterator ≡ drain_items l.initial.answer-iterator;
  many : length l.self.queues ≡ length l.initial.self.queues;
  noted : NoteAnswersPost g.P.LegTrace.tells l.w l.yielded l.initial.self l.self;
  fewer : owed_count l.self.queues + length l.yielded ≡ owed_count l.initial.self.queues;
}

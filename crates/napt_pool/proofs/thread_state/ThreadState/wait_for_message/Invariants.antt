-- wait_for_message: nothing is received or sent while the worker waits.
use Rattle.std.proofs.Common.{◌≡◌}
use Rattle.rtrb.specs.Ring.{received, SameConsumer}
use Rattle.napt_pool.proofs.thread_state.ThreadState.wait_for_message.Given as goal

abbrev pub invariant-loop : goal.invariant-loop
invariant-loop g l = record {
  machine : l.self.machine ≡ l.initial.self.machine;
  answers : l.self.answers ≡ l.initial.self.answers;
  same_items : SameConsumer l.initial.self.items l.self.items;
  received : received l.self.items ≡ received l.initial.self.items;
}

-- `purge`: the invariant of the loop, of which each round leaves fewer due entries.
use Rattle.std.proofs.Common.{◌≡◌}
use Rattle.napt_rules.specs.Prelude.{hold_ago}
use Rattle.napt_table.specs.{BindingIndexes.KeepsSeen, Bindings.{BindingsHaveRoom, entries_due}}
use Rattle.napt_table.proofs.bindings.Bindings.purge.Given as goal

abbrev pub invariant-loop : goal.invariant-loop
invariant-loop l = record {
  timers : l.self.timers ≡ l.fn.self.timers;
  at : l.self.at ≡ l.fn.self.at;
  keeps : KeepsSeen l.fn.self.timers (hold_ago l.fn.self.timers l.fn.self.at) l.fn.self.held l.self.held;
  room : BindingsHaveRoom l.fn.self → BindingsHaveRoom l.self;
}

abbrev pub decreases-loop : goal.decreases-loop
decreases-loop l = entries_due (hold_ago l.fn.self.timers l.fn.self.at) l.self.due.entries

-- move_legs: the legs, their number and their order are as at the start.
use Rattle.std.proofs.Common.{◌≡◌, ◌+◌, ◌≤◌, List, length}
use Rattle.napt_rules.specs.Prelude.{LegAct}
use Rattle.napt_dispatch.specs.DispatcherInvariants.{turned_legs}
use Rattle.napt_dispatch.proofs.dispatcher.worker_queue.move_legs.Given as goal

abbrev pub invariant-loop-held : goal.invariant-loop-held
invariant-loop-held l = record {
  legs : (acts : List LegAct) → turned_legs acts l.ready.items l.held.items
      ≡ turned_legs acts l.initial.ready.items l.initial.held.items;
  count : length l.ready.items + length l.held.items ≡ length l.initial.ready.items + length l.initial.held.items;
  shorter : length l.held.items ≤ length l.initial.held.items;
}

abbrev pub decreases-loop-held : goal.decreases-loop-held
decreases-loop-held l = length l.held.items

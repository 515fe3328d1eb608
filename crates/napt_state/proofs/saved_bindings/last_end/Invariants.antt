-- last_end: the end of the last of the flows from a place on.
use Rattle.std.proofs.Common.{◌≡◌, ◌≤◌, ◌-◌, ◌^◌, length, drop, min}
use Rattle.napt_binding.specs.Ends.{last_end}
use Rattle.napt_state.proofs.saved_bindings.last_end.Given as goal

abbrev pub invariant-loop-left : goal.invariant-loop-left
invariant-loop-left l = record {
  within : l.left ≤ length l.flows;
  end : l.end ≡ min (last_end l.config.timers (drop l.left l.flows)) (2 ^ 64 - 1);
}

abbrev pub decreases-loop-left : goal.decreases-loop-left
decreases-loop-left l = l.left

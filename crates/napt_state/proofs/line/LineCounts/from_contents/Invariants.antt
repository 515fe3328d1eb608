-- of: `flows` is the number of flows of the bindings so far.
use Rattle.std.proofs.Common.{◌≡◌, take}
use Rattle.napt_state.specs.StateText.{flow_count}
use Rattle.napt_state.proofs.line.LineCounts.from_contents.Given as goal

abbrev pub invariant-loop-binding : goal.invariant-loop-binding
invariant-loop-binding l = l.flows ≡ flow_count (take l.binding-index l.saved.bindings)

-- last_end: `last` is the last end of the flows so far.
use Rattle.std.proofs.Common.{◌≡◌, take}
use Rattle.napt_binding.specs.Ends.{last_end}
use Rattle.napt_binding.proofs.flows.flow_list.last_end.Given as goal

abbrev pub invariant-loop-flow : goal.invariant-loop-flow
invariant-loop-flow l = l.last ≡ last_end l.timers (take l.flow-index l.flows)

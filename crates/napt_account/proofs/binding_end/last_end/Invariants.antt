-- last_end: `last` is the end of the last of the flows so far.
use Rattle.std.proofs.Common.{◌≡◌, take}
use Rattle.napt_binding.specs.Ends.{last_end}
use Rattle.napt_account.proofs.binding_end.last_end.Given as goal

abbrev pub invariant-loop-flow : goal.invariant-loop-flow
invariant-loop-flow l = l.last ≡ last_end l.timers (take l.flow-index l.flows)

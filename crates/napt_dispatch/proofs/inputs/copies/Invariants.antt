-- copies: the list has the inputs so far.
use Rattle.std.proofs.Common.{◌≡◌, take}
use Rattle.napt_dispatch.proofs.inputs.copies.Given as goal

abbrev pub invariant-loop-input : goal.invariant-loop-input
invariant-loop-input l = l.made.items ≡ take l.input-index l.inputs

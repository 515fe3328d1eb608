-- merge: the inputs so far, followed by those to come, are the merged list.
use Rattle.std.proofs.Common.{◌≡◌, ◌++◌, length}
use Rattle.napt_records.proofs.record_merger.merge.Given as goal

abbrev pub invariant-loop-input : goal.invariant-loop-input
invariant-loop-input l = l.inputs.items ++ l.merged ≡ l.initial.merged

abbrev pub decreases-loop-input : goal.decreases-loop-input
decreases-loop-input l = length l.merged

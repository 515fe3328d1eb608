-- counts_of: the counts are those of the outcomes so far.
use Rattle.std.proofs.Common.{take}
use Rattle.napt_records.specs.Counts.{AreCountsOf}
use Rattle.napt_records.proofs.report.counts_of.Given as goal

abbrev pub invariant-loop-outcome : goal.invariant-loop-outcome
invariant-loop-outcome l = AreCountsOf (take l.outcome-index l.outcomes) l.counts

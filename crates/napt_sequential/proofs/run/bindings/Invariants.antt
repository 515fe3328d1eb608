-- bindings: the list has the rows of the translators so far.
use Rattle.std.{proofs.Common.{◌≡◌, take}, specs.Prelude.flat_map}
use Rattle.napt_sequential.specs.CountedTranslators.{rows_at}
use Rattle.napt_sequential.proofs.run.bindings.Given as goal

abbrev pub invariant-loop-counted : goal.invariant-loop-counted
invariant-loop-counted l = l.made.items ≡ flat_map (rows_at l.now) (take l.counted-index l.translators)

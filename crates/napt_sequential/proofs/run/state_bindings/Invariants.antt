-- state_bindings: the list has the bindings of the translators so far.
use Rattle.std.proofs.Common.{take}
use Rattle.napt_sequential.specs.CountedTranslators.{AreBindingsOfAll}
use Rattle.napt_sequential.proofs.run.state_bindings.Given as goal

abbrev pub invariant-loop-counted : goal.invariant-loop-counted
invariant-loop-counted l = AreBindingsOfAll l.now (take l.counted-index l.translators) l.made.items

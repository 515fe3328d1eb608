-- into_state_if: the list has the bindings of the translators so far.
use Rattle.std.proofs.Common.{map, take}
use Rattle.napt_sequential.specs.CountedTranslators.{AreBindingsOfAll}
use Rattle.napt_dispatch.proofs.LeftTranslators.{uncounted}
use Rattle.napt_dispatch.proofs.workers.RunSummary.into_state_if.Given as goal

abbrev pub invariant-loop-translator : goal.invariant-loop-translator
invariant-loop-translator l =
    AreBindingsOfAll l.fn.self.clock (map uncounted (take l.translator-index l.translator-items)) l.list.items

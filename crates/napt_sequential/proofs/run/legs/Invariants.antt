-- legs: the list has the numbers of the translators so far.
use Rattle.std.proofs.Common.{◌≡◌, take, map}
use Rattle.napt_sequential.specs.declared.counted_translator.CountedTranslator.{CountedTranslator}
use Rattle.napt_sequential.proofs.run.legs.Given as goal

abbrev pub invariant-loop-counted : goal.invariant-loop-counted
invariant-loop-counted l = l.made.items
    ≡ map (λ (counted : CountedTranslator). counted.legs) (take l.counted-index l.translators)

-- state_bindings: the bindings of one more translator are appended.
use Rattle.std.proofs.{Common.{◌≡◌, ◌+◌, List, [], ◌∷◌, ◌++◌, take, sym, ◌∙◌, ap, subst}, lemmas.List.take_more}
use Rattle.napt_sequential.specs.declared.counted_translator.CountedTranslator.{CountedTranslator}
use Rattle.napt_sequential.{specs.CountedTranslators.AreBindingsOfAll, proofs.LeftTranslators.one_left}
use Rattle.napt_sequential.proofs.run.state_bindings.Goals as goal

pub loop-counted-preserved : goal.loop-counted-preserved
loop-counted-preserved c =
    let translators : List CountedTranslator = c.args.translators.now in
    let before : List CountedTranslator = take c.loop-counted.counted-index translators in
    let counted : CountedTranslator = c.counted-item.result in
    let more : take (c.loop-counted.counted-index + 1) translators ≡ before ++ counted ∷ [] =
    take_more translators c.loop-counted.counted-index counted c.loop-counted-test.true
    ∙ ap (λ (x : CountedTranslator). before ++ x ∷ []) (sym c.counted-item.is) in
    subst (λ (done : List CountedTranslator). AreBindingsOfAll c.args.now done c.append.new.self.items) (sym more)
    (subst (AreBindingsOfAll c.args.now (before ++ counted ∷ [])) (sym c.in_ok-append.ensures.items)
    (one_left c.args.now before counted c.loop-counted.made.items c.in_ok-part.part.items c.loop-counted.invariant
    c.in_ok-part.ensures))

-- into_state_if: the bindings of one more translator are appended, and the state is in order.
use Rattle.std.proofs.{Common.{◌≡◌, ◌+◌, List, [], ◌∷◌, ◌++◌, map, take, sym, ◌∙◌, ap, subst, arith}, lemmas.List.{take_all, take_more, map-append}}
use Rattle.napt_translate.specs.Translators.{TranslatorModel}
use Rattle.napt_sequential.{specs.{declared.counted_translator.CountedTranslator.CountedTranslator, CountedTranslators.AreBindingsOfAll}, proofs.LeftTranslators.one_left}
use Rattle.napt_dispatch.proofs.LeftTranslators.{uncounted, left_in_order}
use Rattle.napt_dispatch.proofs.workers.RunSummary.into_state_if.Goals as goal

pub loop-translator-preserved : goal.loop-translator-preserved
loop-translator-preserved c =
    let all : List TranslatorModel = c.deref-translator-items.result.now in
    let before : List TranslatorModel = take c.loop-translator.translator-index all in
    let translator : TranslatorModel = c.translator-item.result in
    let more : take (c.loop-translator.translator-index + 1) all ≡ before ++ translator ∷ [] =
    take_more all c.loop-translator.translator-index translator c.loop-translator-test.true
    ∙ ap (λ (t : TranslatorModel). before ++ t ∷ []) (sym c.translator-item.is) in
    rw (more, map-append uncounted before (translator ∷ []), c.in_ok-append.ensures.items)
    (one_left c.args.self.clock (map uncounted before) (uncounted translator) c.loop-translator.list.items
    c.in_ok-state_bindings.field-0.items c.loop-translator.invariant c.in_ok-state_bindings.ensures)

pub returns-clause-state : goal.returns-clause-state
returns-clause-state c = λ rules state leaves.
    let all : List TranslatorModel = c.deref-translator-items.result.now in
    let whole : take c.loop-translator.translator-index all ≡ c.args.self.translators.items =
    take_all c.loop-translator.translator-index all
    (omega (arith, c.loop-translator.auto.translator-index-end, c.loop-translator-test.false))
    ∙ c.deref-translator-items.ensures.value in
    left_in_order rules state c.args.self leaves c.loop-translator.list.items
    (subst (λ ts. AreBindingsOfAll c.args.self.clock (map uncounted ts) c.loop-translator.list.items) whole
    c.loop-translator.invariant)

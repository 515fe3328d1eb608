-- translate_leg: the index is in the pool, the leg can be counted, and the translators are those after it.
use Rattle.std.proofs.{Common.{◌≡◌, sym, ◌∙◌, subst, arith, get_or, set}, lemmas.Option.slice_get-get_or}
use Rattle.napt_config.specs.Rules.{Rules}
use Rattle.napt_sequential.specs.declared.{passage.Passage.Passage, leg_trace.TracedAnswer.TracedAnswer, counted_translator.CountedTranslator.CountedTranslator}
use Rattle.napt_sequential.{specs.CountedTranslators.{AreCountedTranslators, TracesLeg, state_after, traced_answer, counted_after}, proofs.Results.if_both}
use Rattle.napt_sequential.proofs.CountedTranslators.{few_legs, told_same, translators_after}
use Rattle.napt_sequential.proofs.run.translate_leg.Goals as goal

pub bounds-translators-place : goal.bounds-translators-place
bounds-translators-place c = let many = c.requires.can_take.1.many in omega (arith, c.requires.within)

pub translate-requires : goal.translate-requires
translate-requires c =
    let can_take = c.requires.can_take in
    let few = few_legs c.args.config.now c.requires.keeps can_take.0 c.args.translators.now can_take.1 c.args.place
    (get_or c.args.config.now.pool c.args.place 0) (slice_get-get_or c.args.config.now.pool c.args.place 0
    c.requires.within) c.args.leg can_take.2 c.index-translators-place.result in
    let room = can_take.3 in
    omega arith

pub returns : goal.returns
returns c =
    let rules : Rules = c.args.config.now in
    let counted : CountedTranslator = get_or c.args.translators.now c.args.place c.index-translators-place.result in
    if_both (λ (told : TracedAnswer Passage). told ≡ traced_answer (λ passage. passage) c.args.leg counted.translator)
    (TracesLeg rules c.args.place c.args.leg c.args.translators.now (set c.args.translators.now c.args.place
    c.translate.new.self)) (c.translate.new.self ≡ counted_after c.args.leg counted) c.translate.result
    (λ told is after state address are later at. (
      is ∙ told_same rules c.requires.keeps state c.args.translators.now are c.args.place address at c.args.leg later
          c.index-translators-place.result,
      subst (λ (s : CountedTranslator). AreCountedTranslators rules (state_after rules address c.args.leg state)
          (set c.args.translators.now c.args.place s)) (sym after)
          (translators_after rules c.requires.keeps state c.args.translators.now are c.args.place address at c.args.leg
          later c.index-translators-place.result),
    )) c.translate.ensures.trace c.translate.ensures.left

-- number: the number at one translator is that by the whole list, and all translators stay those of the state.
use Rattle.std.{proofs.{Common.{◌≡◌, Some, ◌∙◌, get_or}, lemmas.Option.slice_get-get_or}, specs.List.slice_get}
use Rattle.napt_sequential.{specs.declared.counted_translator.CountedTranslator.CountedTranslator, proofs.{LaterTranslators.one_changed, Numbers.number_told}}
use Rattle.napt_sequential.proofs.reply_run.number.Goals as goal

pub returns-clause-value : goal.returns-clause-value
returns-clause-value c = λ rules state address are later at.
    let counted : CountedTranslator = get_or c.args.translators.now c.args.place c.index-translators-place.result in
    let is_there : slice_get c.args.translators.now c.args.place ≡ Some counted =
    slice_get-get_or c.args.translators.now c.args.place c.index-translators-place.result c.requires in
    c.number.ensures.value
    ∙ number_told rules c.args.place address at state counted (are.each c.args.place address counted at is_there)
    c.args.now later c.args.protocol c.args.inside

pub returns-clause-left : goal.returns-clause-left
returns-clause-left c = λ rules state later are.
    let counted : CountedTranslator = get_or c.args.translators.now c.args.place c.index-translators-place.result in
    let is_there : slice_get c.args.translators.now c.args.place ≡ Some counted =
    slice_get-get_or c.args.translators.now c.args.place c.index-translators-place.result c.requires in
    one_changed rules c.args.now c.args.translators.now c.args.place counted c.number.new.self is_there
    c.number.ensures.left state later are

-- number: the number is that of the binding or a spare one, and the translator stays that of the state.
use Rattle.std.{proofs.Common.{ℕ, max, sym, ◌∙◌}, specs.Option.is_some}
use Rattle.napt_rules.specs.Prelude.{by_inside, by_number, hold_ago}
use Rattle.napt_translate.specs.Translators.{TranslatorModel}
use Rattle.napt_sequential.proofs.{LaterTranslators.{unchanged, without_ended}, Numbers.{least_is, none_by}}
use Rattle.napt_sequential.proofs.counted_translator.CountedTranslator.number.Goals as goal

pub returns-in-Some-clause-left : goal.returns-in-Some-clause-left
returns-in-Some-clause-left c = unchanged c.args.now c.args.self.now

pub returns-clause-value : goal.returns-clause-value
returns-clause-value c =
    let t : TranslatorModel = c.args.self.now.translator in
    let now : ℕ = max c.args.now t.table.at in
    least_is (λ n. is_some (by_number t.rules.timers t.table.address (hold_ago t.rules.timers now) c.args.protocol n
    t.table.list))
    c.free_number.result c.free_number.ensures.answer
    ∙ sym (none_by t.rules t.table.address now t.table.list c.args.protocol
    (by_inside t.rules.timers t.table.address now c.args.protocol c.args.inside t.table.list)
    (sym c.in_default.is ∙ c.by_inside.ensures.answer))

pub returns-clause-left : goal.returns-clause-left
returns-clause-left c = without_ended c.args.now c.args.self.now c.free_number.new.self c.free_number.ensures.left

-- begin: one more translator is as it is before any leg, and all are those of the first state.
use Rattle.std.proofs.Common.{◌≡◌, ◌+◌, List, [], ◌∷◌, ◌++◌, length, sym, ◌∙◌, ap, subst, arith, length-append}
use Rattle.napt_config.specs.Rules.{Rules}
use Rattle.napt_rules.specs.Prelude.{State, initial_state}
use Rattle.napt_translate.specs.Translators.{TranslatorModel, initial_translator}
use Rattle.napt_sequential.specs.declared.counted_translator.CountedTranslator.{CountedTranslator}
use Rattle.napt_sequential.proofs.InitialTranslators.{AreFresh, fresh, fresh_more, begin_translators}
use Rattle.napt_sequential.proofs.run.begin.Goals as goal

pub loop-index-preserved : goal.loop-index-preserved
loop-index-preserved c =
    let rules : Rules = c.args.config.now in
    let state : State = initial_state rules in
    let translators : List CountedTranslator = c.loop-index.translators.items in
    let counted : CountedTranslator = record { translator = c.in_ok-translator.translator; legs = 0 } in
    let is : counted ≡ fresh rules state c.loop-index.index =
    ap (λ (t : TranslatorModel). let s : CountedTranslator = record { translator = t; legs = 0 } in s)
    (c.in_ok-translator.ensures.shown ∙ ap (initial_translator c.loop-index.index) c.in_ok-copy.ensures) in
    let pushed : c.push.new.self.items ≡ translators ++ counted ∷ [] = c.in_ok-push.ensures.items in
    let long : length (translators ++ counted ∷ []) ≡ length translators + 1 =
    length-append translators (counted ∷ []) in
    record {
      many = let more = ap length pushed in let old = c.loop-index.invariant.many in omega arith;
      within = let long_pool = ap length c.pool.ensures.addresses in let test = c.loop-index-test.true in omega arith;
      fresh = subst (AreFresh rules state) (sym pushed)
          (fresh_more rules state translators c.loop-index.index c.loop-index.invariant.many
          c.loop-index.invariant.fresh counted is);
    }

pub returns-clause-translators : goal.returns-clause-translators
returns-clause-translators c = begin_translators c.args.config.now (initial_state c.args.config.now)
    c.loop-index.translators.items
    (let long = ap length c.pool.ensures.addresses in let many = c.loop-index.invariant.many in
    let end = c.loop-index.auto.index-end in let test = c.loop-index-test.false in omega arith)
    c.loop-index.invariant.fresh

-- workers: the translators are those with which the pool starts, one for each address.
use Rattle.std.proofs.Common.{◌≡◌, List, [], ◌∷◌, ◌++◌, length, sym, ◌∙◌, ap, arith}
use Rattle.napt_config.specs.Rules.{Rules}
use Rattle.napt_rules.specs.Prelude.{initial_state}
use Rattle.napt_translate.specs.Translators.{TranslatorModel, initial_translator}
use Rattle.napt_dispatch.{specs.Dispatch.started_translators, proofs.{DispatchEnds.length_started, ClosedWorkers.started_more}}
use Rattle.napt_calls.proofs.refused.dispatching.workers.Goals as goal

pub loop-index-preserved : goal.loop-index-preserved
loop-index-preserved c =
    let config : Rules = c.args.config.now in
    let worker : TranslatorModel = c.in_ok-translator.translator in
    let is : worker ≡ initial_translator c.loop-index.index config =
    c.in_ok-translator.ensures.shown ∙ ap (initial_translator c.loop-index.index) c.in_ok-copy.ensures in
    record {
      within = let long_pool = ap length c.pool.ensures.addresses in let test = c.loop-index-test.true in omega arith;
      made = c.in_ok-push.ensures.items
          ∙ (ap (λ (l : List TranslatorModel). l ++ worker ∷ []) c.loop-index.invariant.made
          ∙ (ap (λ (s : TranslatorModel). started_translators config c.loop-index.index ++ s ∷ []) is
          ∙ sym (started_more config (initial_state config) c.loop-index.index)));
    }

pub returns-clause-made : goal.returns-clause-made
returns-clause-made c =
    let whole : c.loop-index.index ≡ length c.args.config.now.pool = (
    let long = ap length c.pool.ensures.addresses in
    let within = c.loop-index.invariant.within in
    let end = c.loop-index.auto.index-end in
    let test = c.loop-index-test.false in
    omega arith) in
    c.loop-index.invariant.made ∙ ap (started_translators c.args.config.now) whole

pub returns-clause-many : goal.returns-clause-many
returns-clause-many c =
    let long = ap length c.pool.ensures.addresses in
    let within = c.loop-index.invariant.within in
    let end = c.loop-index.auto.index-end in
    let test = c.loop-index-test.false in
    let made = ap length c.loop-index.invariant.made in
    let started_long = length_started c.args.config.now (initial_state c.args.config.now) c.loop-index.index in
    let own = c.loop-index.made.ok.0 in
    omega arith

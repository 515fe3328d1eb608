-- count_standing: the result is the number of standing flows.
use Rattle.std.proofs.{Common.{◌∙◌, List, length, ap, sym, rules, tests}, lemmas.Iterator.YieldsList-from_slice}
use Rattle.std.proofs.lemmas.Iterator.Consumers.{count_from_yields_List, YieldsList-from_filter}
use Rattle.napt_rules.specs.declared.Flow.{Flow}
use Rattle.napt_binding.{specs.StandingFlows.is_standing, proofs.ListLengths.all_standing}
use Rattle.napt_binding.proofs.flows.flow_list.count_standing.Goals as goal

pub returns : goal.returns
returns c =
    let sent = c.args.sent in
    count_from_yields_List c.filter.result c.count.result c.count.ensures.ran
    (YieldsList-from_filter _ (is_standing c.args.timers sent.now sent.protocol)
    (YieldsList-from_slice c.args.flows.now (cc)) c.filter.ensures.closure (λ x b q k. search (rules, tests)))
    ∙ sym (ap (λ (l : List Flow). length l) (all_standing c.args.timers sent c.args.flows.now))

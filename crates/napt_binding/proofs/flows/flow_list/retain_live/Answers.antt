-- retain_live: the flows that stay are the live ones.
use Rattle.std.proofs.{Common.rules, lemmas.Fn.filter_same}
use Rattle.napt_binding.proofs.flows.flow_list.retain_live.Goals as goal

pub returns-clause-flows : goal.returns-clause-flows
returns-clause-flows c = filter_same _ _ _ (λ x b f' k. search rules) _ _ c.retain.ensures.filtered

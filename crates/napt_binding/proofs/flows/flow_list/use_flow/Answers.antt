-- use_flow: the packet's flow is used or begins, and the flows stay distinct and few.
use Rattle.std.proofs.{Common.{arith, ◌∙◌, ap}, lemmas.{Grind.common_steps, Bool.Decides.nat_tests}}
use Rattle.napt_rules.specs.declared.Flow.{Flow}
use Rattle.napt_binding.proofs.{ListLengths.fits, DistinctFlows.{distinct_set, distinct_pushed, distinct_live}, Lists.any_nowhere}
use Rattle.napt_binding.proofs.StandingFlows.{flow_set, flow_begun, none_left, live_set}
use Rattle.napt_binding.proofs.flows.flow_list.use_flow.Goals as goal

pub returns-in-Some-clause-distinct : goal.returns-in-Some-clause-distinct
returns-in-Some-clause-distinct c =
    let remotes = ap (λ (f : Flow). f.remote) c.flow_after.ensures ∙ ap (λ (f : Flow). f.remote) c.index.ensures in
    distinct_set c.args.flows.now.items c.in-Some.i c.index.result.now c.flow_after.result remotes c.requires.distinct

pub returns-in-Some-clause-ok : goal.returns-in-Some-clause-ok
returns-in-Some-clause-ok c = grind (arith, common_steps, nat_tests, flow_set)

pub returns-in-Some-clause-live : goal.returns-in-Some-clause-live
returns-in-Some-clause-live c = grind (arith, common_steps, nat_tests, live_set)

pub returns-clause-distinct : goal.returns-clause-distinct
returns-clause-distinct c =
    grind (arith, common_steps, nat_tests, any_nowhere, distinct_pushed, none_left, distinct_live)

pub returns-clause-ok : goal.returns-clause-ok
returns-clause-ok c = grind (arith, common_steps, nat_tests, any_nowhere, flow_begun)

pub returns-clause-bound : goal.returns-clause-bound
returns-clause-bound c = grind (arith, common_steps, nat_tests, any_nowhere, fits)

-- refresh_flow: the flow of the remote is marked and refreshed, and the flows stay distinct.
use Rattle.std.proofs.Common.{ap, sym}
use Rattle.napt_rules.specs.{Prelude.{Tcp, Incoming}, declared.Flow.Flow}
use Rattle.napt_rules.specs.FlowUpdates as traffic
use Rattle.napt_binding.proofs.{DistinctFlows.distinct_set, Lists.{change_at, change_nowhere, any_nowhere}}
use Rattle.napt_binding.proofs.flows.flow_list.refresh_flow.Goals as goal

pub returns-in-Some-clause-distinct : goal.returns-in-Some-clause-distinct
returns-in-Some-clause-distinct c = distinct_set c.args.flows.now c.in-Some.i _ c.used.result
    (ap (λ (f : Flow). f.remote) c.used.ensures) c.requires.distinct

pub returns-in-Some-clause-flows : goal.returns-in-Some-clause-flows
returns-in-Some-clause-flows c =
    rw c.used.ensures (change_at (traffic.is_flow_of c.args.remote)
    (traffic.flow_after Tcp Incoming c.args.flags c.args.now)
    c.args.flows.now c.in-Some.i _ (cc))

pub returns-in_default-clause-flows : goal.returns-in_default-clause-flows
returns-in_default-clause-flows c =
    sym (change_nowhere (traffic.is_flow_of c.args.remote) (traffic.flow_after Tcp Incoming c.args.flags c.args.now)
    c.args.flows.now (any_nowhere (traffic.is_flow_of c.args.remote) c.args.flows.now (cc)))

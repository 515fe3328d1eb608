-- refresh_flow: the flow of the remote is marked and refreshed; without one, nothing changes.
use Rattle.std.proofs.{Common.{arith, sym, refl}, lemmas.{Grind.common_steps, Bool.Decides.nat_tests}}
use Rattle.napt_rules.specs.Prelude.{Tcp, Incoming}
use Rattle.napt_rules.specs.FlowUpdates as traffic
use Rattle.napt_binding.proofs.{Lists.change_nowhere, FlowMapSteps.{one, not_found, place_of_is}, StandingFlows.flow_refreshed}
use Rattle.napt_binding.proofs.flows.flow_maps.FlowMaps.refresh_flow.Goals as goal

pub returns-in_default-clause-flows : goal.returns-in_default-clause-flows
returns-in_default-clause-flows c =
    sym (change_nowhere (traffic.is_flow_of c.args.remote) (traffic.flow_after Tcp Incoming c.args.flags c.args.now) _
    (not_found c.args.self.now c.args.remote c.requires.many (cc)))

pub change-requires-clause-stands : goal.change-requires-clause-stands
change-requires-clause-stands c = (c.in-Some-get.flow, c.in-Some-get.ensures.stands, rw c.used.ensures (refl))

pub returns-clause-flows : goal.returns-clause-flows
returns-clause-flows c = grind (arith, common_steps, nat_tests, flow_refreshed, place_of_is, one)

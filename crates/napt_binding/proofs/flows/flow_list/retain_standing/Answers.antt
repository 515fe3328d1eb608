-- retain_standing: for TCP, the flows that are not removed are the live ones.
use Rattle.napt_binding.proofs.flows.flow_list.retain_standing.Goals as goal

pub returns-in-Tcp-clause-flows : goal.returns-in-Tcp-clause-flows
returns-in-Tcp-clause-flows c = rw c.in-Tcp.is c.retain_live.ensures.flows

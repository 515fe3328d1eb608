-- has_remote: a remote has a place if and only if there is a flow of it.
use Rattle.napt_binding.proofs.FlowMapSteps.{found_is}
use Rattle.napt_binding.proofs.flows.flow_maps.FlowMaps.has_remote.Goals as goal

pub returns : goal.returns
returns c = rw (c.is_some.ensures, c.place_of.ensures) (found_is c.args.self.now c.args.remote c.requires)

-- change: the invariant holds after the flow was replaced by one of the same remote.
use Rattle.std.proofs.Common.{refl}
use Rattle.napt_binding.proofs.FlowMapSteps.{changed_many}
use Rattle.napt_binding.proofs.flows.flow_maps.FlowMaps.change.Goals as goal

pub returns-clause-many : goal.returns-clause-many
returns-clause-many c = changed_many c.args.self.now _ c.args.place c.requires.stands.0 c.args.flow c.requires.many
    c.requires.stands.1 c.requires.stands.2 c.change.ensures.slots (λ e. refl) (λ a. refl) refl

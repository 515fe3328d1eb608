-- reserve: the invariant holds after the room was made, and if memory is refused.
use Rattle.std.proofs.Common.{refl}
use Rattle.napt_binding.proofs.FlowMapSteps.{same_many}
use Rattle.napt_binding.proofs.flows.flow_maps.FlowMaps.reserve.Goals as goal

pub returns-in_err-reserve-2-clause-many : goal.returns-in_err-reserve-2-clause-many
returns-in_err-reserve-2-clause-many c = same_many c.args.self.now _ c.requires c.reserve-2.ensures.slots (λ e.
    c.reserve.ensures.entries.2 (e.address, e.number)) (λ a. refl) c.reserve.ensures.entries.1

pub returns-clause-many : goal.returns-clause-many
returns-clause-many c = same_many c.args.self.now _ c.requires c.reserve-2.ensures.slots (λ e.
    c.reserve.ensures.entries.2 (e.address, e.number)) c.reserve-3.ensures.counts c.reserve.ensures.entries.1

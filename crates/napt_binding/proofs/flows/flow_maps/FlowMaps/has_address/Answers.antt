-- has_address: the count of an address is not 0 if and only if a flow's remote has it.
use Rattle.std.proofs.Common.{◌∙◌, ap, sym, nat_lt}
use Rattle.napt_binding.proofs.Slots.{any_of_address}
use Rattle.napt_binding.proofs.flows.flow_maps.FlowMaps.has_address.Goals as goal

pub returns : goal.returns
returns c = c.has.ensures ∙ (ap (nat_lt 0) (c.requires.counted c.args.address)
    ∙ sym (any_of_address c.args.address c.args.self.now.slots.slots))

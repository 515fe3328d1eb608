-- remove: the invariant holds without the flow.
use Rattle.std.{proofs.Common.{◌∙◌, ◌+◌, ℕ, Option, cond, ap, sym, is_some}, specs.HashMap.hash_map_len}
use Rattle.napt_binding.proofs.FlowMapSteps.{taken_many}
use Rattle.napt_binding.proofs.flows.flow_maps.FlowMaps.remove.Goals as goal

pub returns-clause-many : goal.returns-clause-many
returns-clause-many c =
    taken_many c.args.self.now _ c.args.place c.in-Some.flow c.requires.many c.in-Some.ensures.stands
    c.clear.ensures.slots
    (λ e. c.remove.ensures.updates.0 (e.address, e.number)) c.decrement.ensures.counts
    (ap (λ (o : Option ℕ). hash_map_len c.remove.new.self + cond {A = ℕ} (is_some o) 1 0)
    (sym (c.remove.ensures.value ∙ c.requires.many.found c.args.place c.in-Some.flow c.in-Some.ensures.stands))
    ∙ c.remove.ensures.len)

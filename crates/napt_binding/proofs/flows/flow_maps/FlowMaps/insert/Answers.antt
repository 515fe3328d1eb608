-- insert: the count of the address does not overflow, and the invariant holds with the new flow.
use Rattle.std.{proofs.Common.{◌∙◌, ◌+◌, ℕ, Option, cond, ap, arith, is_some}, specs.HashMap.hash_map_len}
use Rattle.napt_binding.proofs.FlowMapSteps.{put_many, few_counted}
use Rattle.napt_binding.proofs.flows.flow_maps.FlowMaps.insert.Goals as goal

pub increment-requires-clause-fits : goal.increment-requires-clause-fits
increment-requires-clause-fits c =
    let few = few_counted c.args.self.now c.args.flow.remote.address c.requires.many in
    omega (arith, few, c.insert-place.ensures.place, c.insert-place.ensures.fits)

pub returns-clause-many : goal.returns-clause-many
returns-clause-many c =
    put_many c.args.self.now _ c.args.flow c.requires.many c.requires.absent c.insert-place.ensures.slots
    (λ e. rw (← c.insert-place.ensures.place) (c.in-Ok.ensures.updates.0 (e.address, e.number))) c.increment.ensures
    (c.in-Ok.ensures.len ∙ ap (λ (o : Option ℕ). hash_map_len c.args.self.now.places + cond {A = ℕ} (is_some o) 0 1)
    (c.in-Ok.ensures.old ∙ c.requires.absent))

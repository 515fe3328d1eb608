-- fill: the invariant holds after the flow was linked at the end of its row.
use Rattle.std.proofs.{Common.{◌≡◌, ◌<◌, length, Some, None, refl, sym, arith, subst, slice_get, get_or-set_other, get_or-set_same}, Math.ListN.length-set}
use Rattle.std.proofs.lemmas.{Grind.common_steps, List.with_items_is, Option.{slice_get_within, get_or_from_slice_get}}
use Rattle.napt_binding.{specs.{Slots.{standing_flows, NoneUsedAfter}, SlotsModels.FlowSlotsModel}, proofs.TimedRows.filled}
use Rattle.napt_binding.proofs.flows.slots.FlowSlots.fill.Goals as goal

pub invariant_of-self : goal.invariant_of-self
invariant_of-self c =
    let flows = c.self.inside.flows.items in
    let links = c.self.inside.links.items in
    let at : slice_get flows c.args.place ≡ Some None =
    subst (λ (s : FlowSlotsModel). slice_get s.slots c.args.place ≡ Some None) (sym c.self.view_is) c.requires.empty in
    let within : c.args.place < length flows = slice_get_within flows c.args.place None at in
    let kept : length c.link_before.new.links ≡ c.self.inside.links.len =
    omega (arith, c.link_before.auto.links, c.deref_mut.ensures.len) in
    rw (with_items_is c.self.inside.links c.link_before.new.links kept)
    (filled flows _ links c.link_before.new.links c.args.place (Some c.args.flow) c.self.invariant
    (λ i ne. get_or-set_other flows c.args.place i (Some c.args.flow) None ne)
    (get_or-set_same flows c.args.place (Some c.args.flow) None within)
    (grind (
      arith,
      common_steps,
      kept,
      c.self.inside.links.ok.0,
      c.self.invariant.lengths,
      length-set flows c.args.place (Some c.args.flow),
    ))
    (grind (arith, common_steps, kept, c.self.inside.links.ok.0, c.self.invariant.fits)) c.args.flow
    (get_or_from_slice_get flows c.args.place None None at) refl
    (subst (λ (s : FlowSlotsModel). NoneUsedAfter (standing_flows s.slots) c.args.flow.last) (sym c.self.view_is)
    c.requires.rising)
    (rw (c.deref_mut.ensures.value, c.row_of.ensures) at c.link_before.ensures.nexts)
    (rw (c.deref_mut.ensures.value, c.row_of.ensures) at c.link_before.ensures.prevs))

-- clear: the invariant holds after the flow was unlinked and its slot emptied.
use Rattle.std.proofs.{Common.{◌≡◌, ◌<◌, not, length, Some, refl, sym, ◌∙◌, ap, arith, subst, get_or-set_other, get_or-set_same, None}, Math.ListN.length-set}
use Rattle.std.proofs.lemmas.{Grind.common_steps, List.with_items_is}
use Rattle.napt_rules.specs.declared.Flow.{Flow}
use Rattle.napt_binding.{specs.{SlotsModels.FlowSlotsModel, TimedLinks.flow_in}, proofs.TimedRows.{flow_read, after_within, cleared}}
use Rattle.napt_binding.proofs.flows.slots.FlowSlots.clear.Goals as goal

within : (c : goal.After-deref_mut) → c.args.place < length c.self.inside.flows.items
within c = subst (λ (s : FlowSlotsModel). c.args.place < length s.slots) (sym c.self.view_is) c.requires

was : (c : goal.After-deref_mut) → (f : Flow) × (flow_in c.self.inside.flows.items c.args.place ≡ Some f)
was c = flow_read c.self.inside.flows.items c.args.place c.index.result.now (within c) c.index.ensures
    (c.is_none.ensures ∙ ap not c.if-is_none.false)

pub unlink-requires-clause-after : goal.unlink-requires-clause-after
unlink-requires-clause-after c = rw c.deref_mut.ensures.value
    (after_within c.self.inside.flows.items c.self.inside.links.items c.self.invariant c.args.place (was c).0 (was c).1)

pub invariant_of-self : goal.invariant_of-self
invariant_of-self c =
    let flows = c.self.inside.flows.items in
    let links = c.self.inside.links.items in
    let within : c.args.place < length flows =
    subst (λ (s : FlowSlotsModel). c.args.place < length s.slots) (sym c.self.view_is) c.requires in
    let was = flow_read flows c.args.place c.index.result.now within c.index.ensures
    (c.is_none.ensures ∙ ap not c.if-is_none.false) in
    let kept : length c.unlink.new.links ≡ c.self.inside.links.len =
    omega (arith, c.unlink.auto.links, c.deref_mut.ensures.len) in
    rw (with_items_is c.self.inside.links c.unlink.new.links kept)
    (cleared flows _ links c.unlink.new.links c.args.place None c.self.invariant
    (λ i ne. get_or-set_other flows c.args.place i None None ne)
    (get_or-set_same flows c.args.place None None within)
    (grind (
      arith,
      common_steps,
      kept,
      c.self.inside.links.ok.0,
      c.self.invariant.lengths,
      length-set flows c.args.place None,
    ))
    (grind (arith, common_steps, kept, c.self.inside.links.ok.0, c.self.invariant.fits)) was.0 was.1 refl
    (rw c.deref_mut.ensures.value at c.unlink.ensures.nexts)
    (rw c.deref_mut.ensures.value at c.unlink.ensures.prevs))

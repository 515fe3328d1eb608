-- insert: the invariant holds with one more slot, whose flow is linked at the end of its row.
use Rattle.std.proofs.{Common.{◌≡◌, ◌+◌, ◌<◌, length, arith, sym, subst}, lemmas.List.{with_items_is, length_push}}
use Rattle.napt_collections.specs.Links.{no_links}
use Rattle.napt_binding.{specs.{Slots.{standing_flows, NoneUsedAfter}, SlotsModels.FlowSlotsModel}, proofs.TimedRows.{row_low, longer_within, pushed}}
use Rattle.napt_binding.proofs.flows.slots.FlowSlots.insert.Goals as goal

pub link_before-requires-clause-before : goal.link_before-requires-clause-before
link_before-requires-clause-before c = rw (c.deref_mut.ensures.value, c.push_reserved-2.ensures.items, c.row_of.ensures)
    (longer_within c.self.inside.flows.items c.self.inside.links.items c.self.invariant _ (row_low c.args.flow))

pub invariant_of-self : goal.invariant_of-self
invariant_of-self c =
    let flows = c.self.inside.flows.items in
    let links = c.self.inside.links.items in
    let place : c.len-place.result ≡ length flows = omega (arith, c.len-place.ensures, c.self.inside.flows.ok.0) in
    let kept : length c.link_before.new.links ≡ c.push_reserved-2.new.self.len =
    omega (arith, c.link_before.auto.links, c.deref_mut.ensures.len) in
    let more : length c.push_reserved-2.new.self.items ≡ length links + 1 =
    rw c.push_reserved-2.ensures.items (length_push links no_links) in
    let room = subst (λ (s : FlowSlotsModel). 0 < s.room) (sym c.self.view_is) c.requires.room in
    rw (with_items_is c.push_reserved-2.new.self c.link_before.new.links kept, c.push_reserved.ensures.items)
    (pushed flows links c.self.invariant c.link_before.new.links c.args.flow
    (subst (λ (s : FlowSlotsModel). NoneUsedAfter (standing_flows s.slots) c.args.flow.last) (sym c.self.view_is)
    c.requires.rising)
    (omega (arith, kept, c.push_reserved-2.new.self.ok.0, more, c.self.invariant.lengths))
    (omega (arith, kept, c.push_reserved-2.new.self.ok.0, more, c.self.inside.links.ok.0, room))
    (rw (c.deref_mut.ensures.value, c.push_reserved-2.ensures.items, c.row_of.ensures, place) at
    c.link_before.ensures.nexts)
    (rw (c.deref_mut.ensures.value, c.push_reserved-2.ensures.items, c.row_of.ensures, place) at
    c.link_before.ensures.prevs))

-- from_flows: the flows are inserted as if never used, and get their last uses back.
use Rattle.std.proofs.{lemmas.{Grind.common_steps, Bool.Decides.nat_tests}, Common.{◌≡◌, List, Option, map, take, sym, ◌∙◌, ap, subst, arith}}
use Rattle.std.proofs.lemmas.List.{take_all, map_more}
use Rattle.napt_rules.specs.declared.Flow.{Flow}
use Rattle.napt_binding.{specs.Slots.AreByLastUse, proofs.DistinctFlows.{not_before, absent_next}}
use Rattle.napt_binding.proofs.RestoredFlows.{nothing, no_entry, as_unused, any_unused, unused_zero, back_start, back_more, restored}
use Rattle.napt_binding.proofs.flows.flow_maps.FlowMaps.from_flows.Goals as goal

pub insert-requires-clause-absent : goal.insert-requires-clause-absent
insert-requires-clause-absent c =
    grind (arith, common_steps, nat_tests, absent_next, as_unused, any_unused, not_before, nothing)

pub loop-flow-preserved : goal.loop-flow-preserved
loop-flow-preserved c =
    let done : List (Option Flow) = map as_unused (take c.loop-flow.flow-index c.args.flows.now) in
    let same : c.reserve.new.self.slots.slots ≡ done = c.reserve.ensures.slots ∙ c.loop-flow.invariant.1 in (
      c.insert.ensures.many,
      rw same at c.insert.ensures.slots
          ∙ sym (map_more as_unused c.args.flows.now c.loop-flow.flow-index nothing c.loop-flow-test.true),
    )

pub loop-entry-init : goal.loop-entry-init
loop-entry-init c =
    let are : c.loop-flow.many.slots.slots ≡ map as_unused c.args.flows.now = c.loop-flow.invariant.1
    ∙ ap (λ (l : List Flow). map as_unused l) (take_all c.loop-flow.flow-index c.args.flows.now c.loop-flow-test.false)
    in (c.loop-flow.invariant.0, rw are (back_start c.args.flows.now c.deref-entry-items.result.now))

pub insert-requires-clause-rising : goal.insert-requires-clause-rising
insert-requires-clause-rising c = rw (c.reserve.ensures.slots ∙ c.loop-flow.invariant.1)
    (unused_zero (take c.loop-flow.flow-index c.args.flows.now) 0)

pub change-requires-clause-stands : goal.change-requires-clause-stands
change-requires-clause-stands c =
    let by = subst (AreByLastUse c.args.flows.now) (sym c.deref-entry-items.ensures.value) c.in_ok-entries.ensures in
    c.loop-entry.invariant.1.alike.alike _ _ (by.known c.loop-entry.entry-index no_entry c.loop-entry-test.true)

pub change-requires-clause-rising : goal.change-requires-clause-rising
change-requires-clause-rising c =
    c.loop-entry.invariant.1.rising c.loop-entry.entry-index (omega arith) c.loop-entry-test.true

pub loop-entry-preserved : goal.loop-entry-preserved
loop-entry-preserved c = (
  c.change.ensures.many,
  rw c.change.ensures.slots (back_more c.args.flows.now c.deref-entry-items.result.now
      (subst (AreByLastUse c.args.flows.now) (sym c.deref-entry-items.ensures.value) c.in_ok-entries.ensures)
      c.loop-entry.entry-index c.loop-entry.many.slots.slots c.loop-entry.invariant.1 c.loop-entry-test.true),
)

pub returns-clause-flows : goal.returns-clause-flows
returns-clause-flows c = restored c.args.flows.now c.deref-entry-items.result.now
    (subst (AreByLastUse c.args.flows.now) (sym c.deref-entry-items.ensures.value) c.in_ok-entries.ensures)
    c.loop-entry.entry-index c.loop-entry.many.slots.slots c.loop-entry.invariant.1 c.loop-entry-test.false

pub returns-clause-none_empty : goal.returns-clause-none_empty
returns-clause-none_empty c = c.loop-entry.invariant.1.alike.as_many

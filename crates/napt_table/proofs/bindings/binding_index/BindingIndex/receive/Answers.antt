-- `receive`: a live binding changes to `binding_after_inbound`, and the invariant is preserved.
use Rattle.std.proofs.{Common.{◌≡◌, Some, None, sym, subst, ap, ◌∙◌}, lemmas.Option.same_Some}
use Rattle.napt_rules.specs.Prelude.{Binding, with_live_flows, row}
use Rattle.napt_binding.specs.Inbounds.{inbound_answer, binding_after_inbound}
use Rattle.napt_table.specs.{BindingIndexes.AreUsedUpTo, Keys.external_key}
use Rattle.napt_table.proofs.{IndexConsistency.{lent_at, lent_seen, lent_there, held_at_place, one_at_place, left_at_place}, InboundSteps.left_row}
use Rattle.napt_table.proofs.bindings.binding_index.BindingIndex.receive.Goals as goal

pub returns-in_default-get_index_mut-clause-found : goal.returns-in_default-get_index_mut-clause-found
returns-in_default-get_index_mut-clause-found c = λ d s.
    let f = c.in-Some.ensures in
    let z : None ≡ Some c.in-Some.binding.now = c.in_default-get_index_mut.ensures.value
    ∙ lent_at c.self.inside _ c.self.view_is _ c.in-Some.place _ f.value f.entry in
    cc

pub purge_and_receive-requires : goal.purge_and_receive-requires
purge_and_receive-requires c =
    let f = c.in-Some.ensures in
    let l = c.in-Some-get_index_mut.ensures in
    (subst (AreUsedUpTo c.args.packet.now) (sym c.self.view_is) c.requires
    (external_key c.args.packet.protocol c.args.packet.number) c.in-Some-get_index_mut.binding.now
    (lent_there c.self.inside _ c.self.view_is _ c.in-Some.place _ f.value f.entry _ l.value)).0

pub invariant_of-self-2 : goal.invariant_of-self-2
invariant_of-self-2 c =
    let f = c.in-Some.ensures in
    let l = c.in-Some-get_index_mut.ensures in
    held_at_place c.self.inside _ c.self.view_is _ c.in-Some.place _ f.value f.entry
    _ l.value c.self.invariant l.unique _
    (ap row c.purge_and_receive.ensures.left ∙ left_row c.args.inbound c.args.packet
    (with_live_flows c.args.timers c.args.packet.now c.in-Some-get_index_mut.binding.now))

pub returns-clause-one : goal.returns-clause-one
returns-clause-one c =
    let f = c.in-Some.ensures in
    let l = c.in-Some-get_index_mut.ensures in
    rw (← c.self.view_is) (one_at_place c.self.inside _ c.self.view_is _ c.in-Some.place _ f.value f.entry
    _ l.value c.self.invariant l.unique _)

pub returns-clause-absent : goal.returns-clause-absent
returns-clause-absent c = rw (← c.self.view_is) (λ s.
    let f = c.in-Some.ensures in
    let l = c.in-Some-get_index_mut.ensures in
    let p = c.args.packet in
    let now : Binding = with_live_flows c.args.timers p.now c.in-Some-get_index_mut.binding.now in
    let sees = lent_seen c.self.inside _ c.self.view_is _ c.in-Some.place _ f.value f.entry
    _ l.value c.args.timers p.now
    (sym c.is_live.ensures ∙ c.if-not-is_live.false) in
    let z : None ≡ Some now = sym s ∙ sees in
    cc)

pub returns-clause-found : goal.returns-clause-found
returns-clause-found c = rw (← c.self.view_is) (λ d s.
    let f = c.in-Some.ensures in
    let l = c.in-Some-get_index_mut.ensures in
    let p = c.args.packet in
    let now : Binding = with_live_flows c.args.timers p.now c.in-Some-get_index_mut.binding.now in
    let sees = lent_seen c.self.inside _ c.self.view_is _ c.in-Some.place _ f.value f.entry
    _ l.value c.args.timers p.now
    (sym c.is_live.ensures ∙ c.if-not-is_live.false) in
    let is : now ≡ d = same_Some now d (sym sees ∙ s) in (
      c.purge_and_receive.ensures.answer ∙ ap (inbound_answer c.args.inbound p) is,
      left_at_place c.self.inside _ c.self.view_is _ c.in-Some.place _ f.value f.entry
          _ l.value c.self.invariant l.unique _
          ∙ ap (λ (x : Binding). Some x) (c.purge_and_receive.ensures.left
          ∙ ap (binding_after_inbound c.args.inbound p) is),
    ))

-- `send`: the packet goes out through its source's live binding, if there is one, and the invariant is preserved.
use Rattle.std.{proofs.{Common.{◌≡◌, Some, None, refl, sym, subst, ap, ◌∙◌}, lemmas.Option.same_Some}, specs.Map.lookup}
use Rattle.napt_rules.specs.Prelude.{Binding, with_live_flows, row}
use Rattle.napt_table.specs.{declared.bindings.keys.InsideKey.InsideKey, Keys.{external_key, inside_eq}, HeldModels.number_of_inside, HeldLists.seen_binding}
use Rattle.napt_table.specs.BindingIndexes.{BindingIndexModel, held_at, AreUsedUpTo}
use Rattle.napt_table.proofs.IndexConsistency.{found_there, lent_at, lent_seen, lent_there, held_at_place, one_at_place, same_at_place, left_at_place, none_seen, dead_seen}
use Rattle.napt_table.proofs.{SeenBindings.{seen_live, seen_dead}, Steps.on_err}
use Rattle.napt_table.proofs.bindings.binding_index.BindingIndex.send.Goals as goal

pub returns-in-None-clause-went : goal.returns-in-None-clause-went
returns-in-None-clause-went c =
    let p = c.args.packet in
    let none : number_of_inside c.self.inside p.protocol p.inside ≡ None =
    ap (λ (k : InsideKey). lookup (inside_eq k) c.self.inside.by_inside.entries) (sym c.inside_key.ensures)
    ∙ sym c.in-None.ensures.value in
    rw (← c.self.view_is) (record {
      same = record { place = record { address_is = refl; assignment_is = refl }; held_same = λ k. refl };
      none = none_seen c.self.inside c.self.invariant c.args.timers p.now p.protocol p.inside none;
    })

pub returns-in_default-clause-went : goal.returns-in_default-clause-went
returns-in_default-clause-went c =
    let p = c.args.packet in
    let number = c.in-Some.number.now in
    let found : number_of_inside c.self.inside p.protocol p.inside ≡ Some number =
    ap (λ (k : InsideKey). lookup (inside_eq k) c.self.inside.by_inside.entries) (sym c.inside_key.ensures)
    ∙ sym c.in-Some.ensures.value in
    let has = c.self.invariant.number_is p.protocol p.inside number found in
    let z : None ≡ Some has.0 = c.in_default.ensures.value
    ∙ (ap (λ (h : BindingIndexModel). held_at h p.protocol number) (sym c.self.view_is) ∙ has.1) in
    cc

pub returns-then-not-is_live-clause-went : goal.returns-then-not-is_live-clause-went
returns-then-not-is_live-clause-went c =
    let f = c.in-Some-find.ensures in
    let p = c.args.packet in
    let number = c.in-Some.number.now in
    let found : number_of_inside c.self.inside p.protocol p.inside ≡ Some number =
    ap (λ (k : InsideKey). lookup (inside_eq k) c.self.inside.by_inside.entries) (sym c.inside_key.ensures)
    ∙ sym c.in-Some.ensures.value in
    rw (← c.self.view_is) (record {
      same = record { place = record { address_is = refl; assignment_is = refl }; held_same = λ k. refl };
      none = dead_seen c.self.inside c.self.invariant c.args.timers p.now p.protocol p.inside number found
          (ap (seen_binding c.args.timers p.now)
          (found_there c.self.inside _ c.self.view_is _ c.in-Some-find.place _ f.value f.entry)
          ∙ seen_dead c.args.timers p.now _ (sym c.is_live.ensures ∙ c.if-not-is_live.true));
    })

pub returns-in_default-get_index_mut-clause-went : goal.returns-in_default-get_index_mut-clause-went
returns-in_default-get_index_mut-clause-went c =
    let f = c.in-Some-find.ensures in
    let z : None ≡ Some c.in-Some-find.binding.now = c.in_default-get_index_mut.ensures.value
    ∙ lent_at c.self.inside _ c.self.view_is _ c.in-Some-find.place _ f.value f.entry in
    cc

pub send-requires : goal.send-requires
send-requires c =
    let f = c.in-Some-find.ensures in
    let l = c.in-Some-get_index_mut.ensures in
    (subst (AreUsedUpTo c.args.packet.now) (sym c.self.view_is) c.requires
    (external_key c.args.packet.protocol c.in-Some.number.now) c.in-Some-get_index_mut.binding.now
    (lent_there c.self.inside _ c.self.view_is _ c.in-Some-find.place _ f.value f.entry _ l.value)).0

pub invariant_of-self-in_err-send : goal.invariant_of-self-in_err-send
invariant_of-self-in_err-send c =
    let f = c.in-Some-find.ensures in
    let l = c.in-Some-get_index_mut.ensures in
    held_at_place c.self.inside _ c.self.view_is _ c.in-Some-find.place _ f.value f.entry
    _ l.value c.self.invariant l.unique _
    (ap row c.in_err-send.ensures.err)

pub returns-in_err-send-clause-refused : goal.returns-in_err-send-clause-refused
returns-in_err-send-clause-refused c =
    let f = c.in-Some-find.ensures in
    let l = c.in-Some-get_index_mut.ensures in
    rw (← c.self.view_is) (on_err c.from_residual.result _ (same_at_place
    c.self.inside _ c.self.view_is _ c.in-Some-find.place _ f.value f.entry
    _ l.value c.self.invariant l.unique _ c.in_err-send.ensures.err))

pub invariant_of-self-2 : goal.invariant_of-self-2
invariant_of-self-2 c =
    let f = c.in-Some-find.ensures in
    let l = c.in-Some-get_index_mut.ensures in
    held_at_place c.self.inside _ c.self.view_is _ c.in-Some-find.place _ f.value f.entry
    _ l.value c.self.invariant l.unique _
    (ap row c.in_ok-send.ensures.ok)

pub returns-clause-went : goal.returns-clause-went
returns-clause-went c =
    let f = c.in-Some-find.ensures in
    let l = c.in-Some-get_index_mut.ensures in
    let p = c.args.packet in
    let number = c.in-Some.number.now in
    let found : number_of_inside c.self.inside p.protocol p.inside ≡ Some number =
    ap (λ (k : InsideKey). lookup (inside_eq k) c.self.inside.by_inside.entries) (sym c.inside_key.ensures)
    ∙ sym c.in-Some.ensures.value in
    let b = c.in-Some-get_index_mut.binding.now in
    let w = c.send.new.binding in
    let here = lent_there c.self.inside _ c.self.view_is _ c.in-Some-find.place _ f.value f.entry _ l.value in
    let has = c.self.invariant.number_is p.protocol p.inside number found in
    rw (← c.self.view_is) (record {
      binding = with_live_flows c.args.timers p.now b;
      found = lent_seen c.self.inside _ c.self.view_is _ c.in-Some-find.place _ f.value f.entry
          _ l.value c.args.timers p.now
          (sym c.is_live.ensures ∙ c.if-not-is_live.false);
      inside_is = ap (λ (x : Binding). x.row.inside) (same_Some b has.0 (sym here ∙ has.1)) ∙ has.2;
      one = one_at_place c.self.inside _ c.self.view_is _ c.in-Some-find.place _ f.value f.entry
          _ l.value c.self.invariant l.unique w;
      left = ap (seen_binding c.args.timers p.now)
          (left_at_place c.self.inside _ c.self.view_is _ c.in-Some-find.place _ f.value f.entry
          _ l.value c.self.invariant l.unique w)
          ∙ seen_live c.args.timers p.now w _ c.in_ok-send.ensures.live c.in_ok-send.ensures.ok;
    })

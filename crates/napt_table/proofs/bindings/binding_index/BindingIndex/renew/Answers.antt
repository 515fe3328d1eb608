-- `renew`: only the binding changes, but not its endpoints, and the invariant is preserved.
use Rattle.std.{proofs.Common.{Some, refl, sym, ◌∙◌, ap}, proofs.lemmas.Option.same_Some}
use Rattle.napt_rules.specs.Prelude.{Binding}
use Rattle.napt_table.proofs.IndexConsistency.{lent_there, held_at_place, one_at_place, left_at_place}
use Rattle.napt_table.proofs.bindings.binding_index.BindingIndex.renew.Goals as goal

pub invariant_of-self-2 : goal.invariant_of-self-2
invariant_of-self-2 c =
    let f = c.in-Some.ensures in
    let l = c.in-Some-get_index_mut.ensures in
    held_at_place c.self.inside _ c.self.view_is _ c.in-Some.place _ f.value f.entry
    _ l.value c.self.invariant l.unique _ refl

pub returns-clause-one : goal.returns-clause-one
returns-clause-one c =
    let f = c.in-Some.ensures in
    let l = c.in-Some-get_index_mut.ensures in
    rw (← c.self.view_is) (one_at_place c.self.inside _ c.self.view_is _ c.in-Some.place _ f.value f.entry
    _ l.value c.self.invariant l.unique _)

pub returns-clause-left : goal.returns-clause-left
returns-clause-left c = rw (← c.self.view_is) (λ b h.
    let f = c.in-Some.ensures in
    let l = c.in-Some-get_index_mut.ensures in
    let there = lent_there c.self.inside _ c.self.view_is _ c.in-Some.place _ f.value f.entry _ l.value in
    left_at_place c.self.inside _ c.self.view_is _ c.in-Some.place _ f.value f.entry
    _ l.value c.self.invariant l.unique _
    ∙ ap (λ (x : Binding). Some (record x { last = c.args.last; flows = c.args.flows }))
    (same_Some _ b (sym there ∙ h)))

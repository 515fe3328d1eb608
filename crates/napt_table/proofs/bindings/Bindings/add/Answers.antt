-- `add`: the queue is still valid for the stored bindings.
use Rattle.std.proofs.Common.{◌≡◌, ℕ, None, sym, ◌∙◌, subst}
use Rattle.napt_table.specs.{Bindings.BindingsModel, BindingIndexes.{held_binding, IsUsedBy}, Keys.key_of}
use Rattle.napt_table.proofs.Queues.{fixed_due}
use Rattle.napt_table.proofs.bindings.Bindings.add.Goals as goal

pub invariant_of-self : goal.invariant_of-self
invariant_of-self c =
    let s = c.self.inside in
    let b = c.args.binding in
    let same = c.make_room.ensures.same in
    fixed_due s.timers s.at s.held s.due.entries c.self.invariant (key_of b) b c.insert.new.self
    (subst (λ (x : BindingsModel). held_binding x.held (key_of b) ≡ None) (sym c.self.view_is)
    (same.same.held_same (key_of b) ∙ c.requires.free)) c.insert.ensures.held
    (sym c.is_fixed.ensures ∙ c.if-is_fixed.true)
    (subst (λ (x : BindingsModel). IsUsedBy x.at b) (sym c.self.view_is)
    (subst (λ (a : ℕ). IsUsedBy a b) (sym same.at_is) c.requires.used))

-- `insert`: the queue is still valid for the stored bindings.
use Rattle.std.proofs.Common.{◌≡◌, ◌≤◌, arith, Some, None, cond, sym, subst}
use Rattle.napt_table.specs.{declared.bindings.keys.ExternalNumberKey.ExternalNumberKey, Bindings.BindingsModel, BindingIndexes.{held_binding, IsUsedBy}, Keys.{key_eq, key_of}}
use Rattle.napt_table.proofs.Queues.{inserted_due}
use Rattle.napt_table.proofs.bindings.Bindings.insert.Goals as goal

pub invariant_of-self : goal.invariant_of-self
invariant_of-self c =
    let s = c.self.inside in
    let b = c.args.binding in
    let is = sym c.key_of-key.ensures.value in
    let from : c.args.from ≤ s.at =
    subst (λ (x : BindingsModel). c.args.from ≤ x.at) (sym c.self.view_is) c.requires.from in
    inserted_due s.timers s.at s.held s.due.entries c.self.invariant c.key_of-key.result b c.insert.new.self
    (subst (λ (k : ExternalNumberKey). held_binding s.held k ≡ None) is
    (subst (λ (x : BindingsModel). held_binding x.held (key_of b) ≡ None) (sym c.self.view_is) c.requires.free))
    (subst (λ (x : ExternalNumberKey). (k : ExternalNumberKey) →
    held_binding c.insert.new.self k ≡ cond (key_eq x k) (Some b)
    (held_binding s.held k)) is c.insert.ensures.held)
    c.live_until-end.result c.push.new.self.entries c.requires.loose c.push.ensures.entries
    (omega (arith, c.live_until-end.ensures.near, from))
    c.live_until-end.ensures.lives (subst (λ (x : BindingsModel). IsUsedBy x.at b) (sym c.self.view_is)
    c.requires.used)

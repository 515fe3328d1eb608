-- `purge_first`: the binding of the entry that was removed has no other, and fewer entries are due.
use Rattle.std.proofs.{Common.{ℕ, ◌≤◌, arith}, lemmas.List.Elements.All-contains}
use Rattle.napt_rules.specs.Prelude.{hold_ago}
use Rattle.napt_table.{specs.declared.bindings.keys.ExternalNumberKey.ExternalNumberKey, proofs.Queues.{popped_due, one_less}}
use Rattle.napt_table.proofs.bindings.Bindings.purge_first.Goals as goal

pub requeue_or_remove-requires-clause-due : goal.requeue_or_remove-requires-clause-due
requeue_or_remove-requires-clause-due c =
    let s = c.self.inside in
    popped_due s.timers s.at s.held s.due.entries c.pop.new.self.entries c.in-Some-pop.field-0-0
    c.in-Some-pop.key c.self.invariant c.in-Some-pop.ensures.some

pub returns-clause-fewer : goal.returns-clause-fewer
returns-clause-fewer c =
    let s = c.self.inside in
    rw (← c.self.view_is) (λ given.
    let le : c.in-Some-pop.field-0-0 ≤ c.in-Some.until =
    All-contains (λ (e : ℕ × ExternalNumberKey). c.in-Some-pop.field-0-0 ≤ e.0) s.due.entries (
      c.in-Some.until,
      c.in-Some.field-0-1,
    ) c.in-Some-pop.ensures.least c.in-Some.ensures.some in
    let ago = c.hold_ago-ago.ensures in
    let less = one_less (hold_ago s.timers s.at) c.in-Some-pop.field-0-0 c.in-Some-pop.key
    s.due.entries c.pop.new.self.entries c.in-Some-pop.ensures.some (omega (arith, ago, le)) in
    let after = c.requeue_or_remove.ensures.come_up in
    omega arith)

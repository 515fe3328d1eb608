-- `requeue_or_remove`: a binding that is queued again has an entry that is valid and not yet due.
use Rattle.std.proofs.{Common.{◌≡◌, ◌<◌, ◌+◌, ◌*◌, true, refl, sym, ◌∙◌, subst, arith}, lemmas.Option.same_Some}
use Rattle.napt_rules.specs.Prelude.{Binding, ns_per_second, is_live, hold_ago}
use Rattle.napt_binding.specs.Ends.{least_timer}
use Rattle.napt_table.proofs.Queues.{entered_due, none_more}
use Rattle.napt_table.proofs.bindings.requeue_or_remove.Goals as goal

pub returns-then-is_live-clause-due : goal.returns-then-is_live-clause-due
returns-then-is_live-clause-due c = entered_due c.args.timers c.args.at c.args.held.now c.args.held.now
    c.args.due.now.entries c.args.key c.requires.due (λ k d. refl) c.in-Some.binding.now
    c.live_until.result c.push.new.self.entries (sym c.in-Some.ensures) (sym c.is_fixed.ensures ∙ c.if-is_fixed.false)
    c.push.ensures.entries
    (let near = c.live_until.ensures.near in let ago = c.hold_ago-ago.ensures in omega (arith, near, ago))
    c.live_until.ensures.lives
    (c.requires.due.used c.args.key c.in-Some.binding.now (sym c.in-Some.ensures))

pub returns-then-is_live-clause-come_up : goal.returns-then-is_live-clause-come_up
returns-then-is_live-clause-come_up c = none_more (hold_ago c.args.timers c.args.at) c.live_until.result c.args.key
    c.args.due.now.entries
    c.push.new.self.entries c.push.ensures.entries (rw (← c.hold_ago-ago.ensures) c.live_until.ensures.later)

pub returns-then-is_live-clause-far : goal.returns-then-is_live-clause-far
returns-then-is_live-clause-far c = λ b t there loose small near live.
    let same : b ≡ c.in-Some.binding.now = sym (same_Some c.in-Some.binding.now b (c.in-Some.ensures ∙ there)) in
    none_more t c.live_until.result c.args.key c.args.due.now.entries c.push.new.self.entries c.push.ensures.entries
    (c.live_until.ensures.far (sym c.is_fixed.ensures ∙ c.if-is_fixed.false) t small
    (rw c.hold_ago-ago.ensures
    (subst (λ (x : Binding). t < hold_ago c.args.timers c.args.at
    + least_timer x.row.protocol c.args.timers * ns_per_second)
    same near))
    (subst (λ (x : Binding). is_live c.args.timers t x ≡ true) same live))

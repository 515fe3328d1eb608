-- `send_held`: the queue is still valid, and no binding was used after the packet's time.
use Rattle.std.proofs.Common.{◌≤◌, sym, subst}
use Rattle.napt_table.{specs.{BindingIndexes.{HasNoLiveBinding, SendKnownPost}, Bindings.BindingsModel}, proofs.{Queues.{same_due, due_later}, OutboundSteps.sent_due}}
use Rattle.napt_table.proofs.bindings.Bindings.send_held.Goals as goal

pub send-requires : goal.send-requires
send-requires c =
    let s = c.self.inside in
    (due_later s.timers s.at c.args.packet.now s.held s.due.entries
    (subst (λ (x : BindingsModel). x.at ≤ c.args.packet.now) (sym c.self.view_is) c.requires.later)
    c.self.invariant).used

pub invariant_of-self : goal.invariant_of-self
invariant_of-self c =
    let s = c.self.inside in
    same_due s.timers s.at s.held c.send.new.self s.due.entries c.in_err-number.ensures.refused.held_same
    c.self.invariant

pub invariant_of-self-in_default : goal.invariant_of-self-in_default
invariant_of-self-in_default c =
    let s = c.self.inside in
    let none : HasNoLiveBinding s.timers c.args.packet s.held c.send.new.self =
    subst (SendKnownPost s.timers c.args.packet s.held c.send.new.self) c.in_default.is c.in_ok-number.ensures.went in
    same_due s.timers s.at s.held c.send.new.self s.due.entries none.same.held_same c.self.invariant

pub invariant_of-self-2 : goal.invariant_of-self-2
invariant_of-self-2 c =
    let s = c.self.inside in
    sent_due s.timers c.are_within_limits.ensures c.args.packet s.at s.held c.send.new.self s.due.entries c.self.invariant
    (subst (λ (x : BindingsModel). x.at ≤ c.args.packet.now) (sym c.self.view_is) c.requires.later) c.in-Some.number
    (subst (SendKnownPost s.timers c.args.packet s.held c.send.new.self) c.in-Some.is c.in_ok-number.ensures.went)

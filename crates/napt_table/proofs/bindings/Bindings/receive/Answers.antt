-- `receive`: the answer and the stored bindings are those of the definition, and the queue is still valid.
use Rattle.std.proofs.Common.{◌≤◌, sym, subst, ◌∙◌}
use Rattle.napt_rules.specs.Prelude.{purge, in_taken}
use Rattle.napt_table.{specs.Bindings.{BindingsModel, ListShowsStored}, proofs.{Queues.due_later, Steps.in_is_shown, HeldThroughTime.{keeps_on, in_stays, in_apart}}}
use Rattle.napt_table.proofs.InboundSteps.{all_received, received_unseen, all_received_due}
use Rattle.napt_table.proofs.bindings.Bindings.receive.Goals as goal

pub receive-requires : goal.receive-requires
receive-requires c =
    let s = c.self.inside in
    (due_later s.timers s.at c.args.packet.now s.held s.due.entries
    (subst (λ (x : BindingsModel). x.at ≤ c.args.packet.now) (sym c.self.view_is) c.requires.later)
    c.self.invariant).used

pub invariant_of-self : goal.invariant_of-self
invariant_of-self c =
    let s = c.self.inside in
    let k = c.receive.ensures in
    all_received_due s.timers c.are_within_limits.ensures c.args.inbound s.held.address c.args.packet s.held
    c.receive.new.self k.one c.receive.result k.absent k.found s.at s.due.entries
    (subst (λ (x : BindingsModel). x.at ≤ c.args.packet.now) (sym c.self.view_is) c.requires.later)
    c.self.invariant

pub returns-clause-receives : goal.returns-clause-receives
returns-clause-receives c =
    let s = c.self.inside in
    let p = c.args.packet in
    let i = c.args.inbound in
    let k = c.receive.ensures in
    let t = c.are_within_limits.ensures in
    let a = s.held.address in
    let new = c.receive.new.self in
    rw (← c.self.view_is) (λ list apart keeps.
    let shown = in_is_shown s.timers t i a p list in
    let r = all_received s.timers t i a p s.held new k.one c.receive.result k.absent k.found
    (purge s.timers p.now list) keeps.live in (
      r.0 ∙ sym shown.0,
      keeps_on s.timers p.now a s.held new list (in_taken s.timers i a p list).list
          (in_apart s.timers i a p list apart) keeps.held
          (subst (ListShowsStored s.timers p.now a new) (sym shown.1) r.1)
          (received_unseen s.timers t i a p s.held new k.one c.receive.result k.absent k.found)
          (λ q n. in_stays s.timers t a list q n i p),
    ))

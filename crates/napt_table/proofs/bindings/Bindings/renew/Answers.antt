-- `renew`: the stored bindings agree with the list that has the renewed one, and the queue is still valid.
use Rattle.std.proofs.Common.{◌≡◌, ℕ, [], None, sym, ap, subst, ◌∙◌}
use Rattle.napt_wire.specs.declared.Way.TheVariants.{Outgoing}
use Rattle.napt_rules.specs.{Prelude.{purge, change_first, live_flows, is_flow_of, flow_after, with_flow}}
use Rattle.napt_table.specs.{HeldLists.seen_binding, BindingIndexes.{held_at, HasInside}, Bindings.{BindingsModel, AreDue}}
use Rattle.napt_table.proofs.{AssignedNumbers.{made_all, made_unseen}, OutboundSteps.{again_seen, again_holds, again_due, row_again}}
use Rattle.napt_table.proofs.bindings.Bindings.renew.Goals as goal

pub invariant_of-self : goal.invariant_of-self
invariant_of-self c =
    let s = c.self.inside in
    let p = c.args.packet in
    let n = c.args.number in
    let state : BindingsModel = record { timers = s.timers; at = s.at; held = s.held; due = s.due } in
    let has = subst (λ (x : BindingsModel). HasInside x.held p.protocol p.inside n) (sym c.self.view_is) c.requires.its
    in
    let unseen = subst (λ (x : BindingsModel). seen_binding x.timers p.now (held_at x.held p.protocol n) ≡ None)
    (sym c.self.view_is) c.requires.unseen in
    let begun = subst (λ (x : BindingsModel). live_flows x.timers p.now p.protocol c.args.flows
    ≡ change_first (is_flow_of p.remote) (flow_after p.protocol Outgoing p.flags p.now) (with_flow p.remote p.now []))
    (sym c.self.view_is) c.requires.flows in
    let at : s.at ≡ p.now = subst (λ (x : BindingsModel). x.at ≡ p.now) (sym c.self.view_is) c.requires.at in
    let row_is = row_again s.timers s.held c.keep_names.ensures p n has.0 has.1 has.2
    (ap (seen_binding s.timers p.now) (sym has.1) ∙ unseen) in
    subst (λ (a : ℕ). AreDue s.timers a c.renew.new.self s.due.entries) (sym at)
    (again_due s.timers c.are_within_limits.ensures s.held.address p n c.args.flows begun s.held c.renew.new.self has.0 row_is
    has.1 c.renew.ensures.one (c.renew.ensures.left has.0 has.1) s.due.entries
    (subst (λ (a : ℕ). AreDue s.timers a s.held s.due.entries) at c.self.invariant))

pub returns-clause-renews : goal.returns-clause-renews
returns-clause-renews c =
    let s = c.self.inside in
    let p = c.args.packet in
    let n = c.args.number in
    let has = subst (λ (x : BindingsModel). HasInside x.held p.protocol p.inside n) (sym c.self.view_is) c.requires.its
    in
    let unseen = subst (λ (x : BindingsModel). seen_binding x.timers p.now (held_at x.held p.protocol n) ≡ None)
    (sym c.self.view_is) c.requires.unseen in
    let begun = subst (λ (x : BindingsModel). live_flows x.timers p.now p.protocol c.args.flows
    ≡ change_first (is_flow_of p.remote) (flow_after p.protocol Outgoing p.flags p.now) (with_flow p.remote p.now []))
    (sym c.self.view_is) c.requires.flows in
    let row_is = row_again s.timers s.held c.keep_names.ensures p n has.0 has.1 has.2
    (ap (seen_binding s.timers p.now) (sym has.1) ∙ unseen) in
    let new = c.renew.new.self in
    let left = c.renew.ensures.left has.0 has.1 in
    let is = again_seen s.timers c.are_within_limits.ensures s.held.address p n c.args.flows begun s.held new has.0 row_is
    has.1
    c.renew.ensures.one left in
    let holds = again_holds s.timers c.are_within_limits.ensures s.held.address p n c.args.flows begun s.held new has.0 row_is
    has.1 c.renew.ensures.one left in
    rw (← c.self.view_is) (λ list shows. record {
      live = made_all s.timers s.held.address p s.held new n _ (purge s.timers p.now list) shows holds unseen is;
      unseen = made_unseen s.timers s.held.address p s.held new n _ holds is;
    })

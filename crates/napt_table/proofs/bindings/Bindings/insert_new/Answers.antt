-- `insert_new`: the number is the first free candidate, and the stored bindings agree with the list that has it.
use Rattle.std.{proofs.Common.{◌≡◌, ◌∙◌, ℕ, List, [], map, find, None, Some, Ok, cond, refl, sym, ap, subst, arith, not, true, false}, specs.{Prelude.ok_or, Option.{is_some, option_map}}}
use Rattle.std.proofs.lemmas.Bool.{not-true}
use Rattle.napt_wire.specs.declared.{Way.TheVariants.Outgoing, Cause.TheVariants.NoPort}
use Rattle.napt_table.specs.{declared.bindings.keys.ExternalNumberKey.ExternalNumberKey, HeldLists.seen_binding, Bindings.{BindingsModel, ListAgrees, NewBindingOk}, BindingIndexes.{held_binding, held_at}}
use Rattle.napt_table.{specs.Keys.{key_eq, external_key, key_of}, proofs.{AssignedNumbers.{made_all, made_unseen, seen_row}, SeenBindings.found_seen, OutboundSteps.{none_from, choice_is, made_live, made_used, made_seen}}}
use Rattle.napt_config.specs.Rules.{AreTimers}
use Rattle.napt_rules.specs.{Prelude.{Binding, candidates, change_first, has_number, is_live, purge, hold_ago, live_and_held, live_flows, is_flow_of, flow_after, with_flow, binding_after_out, new_binding, row, AreBindingsApart}, declared.{Row.Row, OutboundPacket.OutboundPacket}}
use Rattle.napt_laws.proofs.UniqueSearches.{passes}
use Rattle.napt_table.proofs.bindings.Bindings.insert_new.Goals as goal

rows_of : (s : BindingsModel) (p : OutboundPacket) (list : List Binding) → AreBindingsApart (map row list) →
    live_and_held s.timers p.now list ≡ list → ListAgrees s.timers p.now s.held.address s.held list →
    ((k : ExternalNumberKey) (b : Binding) → held_binding s.held k ≡ Some b →
    is_live s.timers (hold_ago s.timers p.now) b ≡ true) →
    (n : ℕ) → option_map row (find (λ b. has_number s.held.address p.protocol n b.row) list)
    ≡ option_map row (held_at s.held p.protocol n)
rows_of s p list apart is_taken keeps live n =
    ap (option_map row) (found_seen s.timers (hold_ago s.timers p.now) s.held.address p.protocol n list apart is_taken)
    ∙ (keeps.held p.protocol n (hold_ago s.timers p.now) (omega arith)
    ∙ seen_row s.timers (hold_ago s.timers p.now) (held_at s.held p.protocol n)
    (λ b h. live (external_key p.protocol n) b h))

pub returns-in_default-clause-begins : goal.returns-in_default-clause-begins
returns-in_default-clause-begins c =
    let s = c.self.inside in
    let p = c.args.packet in
    let live = subst (λ (x : BindingsModel). (k : ExternalNumberKey) (b : Binding) → held_binding x.held k ≡ Some b →
    is_live x.timers (hold_ago x.timers p.now) b ≡ true) (sym c.self.view_is) c.requires.live in
    rw (← c.self.view_is) (λ list apart is_taken keeps. (
      sym (ap (λ o. ok_or o NoPort) (choice_is s.held.address p (held_at s.held p.protocol) list
          (rows_of (record { timers = s.timers; at = s.at; held = s.held; due = s.due }) p list apart is_taken keeps
          live)
          s.held.assignment.choosing ∙ sym c.in_default.ensures)),
      record { live = keeps.live; unseen = λ k h at from. refl },
    ))

pub insert-requires-clause-live : goal.insert-requires-clause-live
insert-requires-clause-live c =
    let limits : AreTimers c.args.self.now.timers =
    subst (λ (x : BindingsModel). AreTimers x.timers) c.self.view_is c.are_within_limits.ensures in
    rw c.new.ensures (made_live c.args.self.now.timers limits c.address.result c.args.packet
    c.in-Some.number c.args.flows c.requires.flows)

pub insert-requires-clause-at : goal.insert-requires-clause-at
insert-requires-clause-at c = ap (λ (r : Row). r.external.address) c.new.ensures
    ∙ subst (λ (x : BindingsModel). c.address.result ≡ x.held.address) c.self.view_is c.address.ensures

pub insert-requires-clause-used : goal.insert-requires-clause-used
insert-requires-clause-used c =
    let limits : AreTimers c.args.self.now.timers =
    subst (λ (x : BindingsModel). AreTimers x.timers) c.self.view_is c.are_within_limits.ensures in
    rw c.requires.at (
      made_used c.args.self.now.timers limits c.address.result c.args.packet c.in-Some.number c.args.flows
          c.requires.flows,
      omega arith,
    )

pub insert-requires-clause-free : goal.insert-requires-clause-free
insert-requires-clause-free c =
    let s = c.self.inside in
    let p = c.args.packet in
    let number = c.in-Some.number in
    let free : held_at s.held p.protocol number ≡ None = none_from (held_at s.held p.protocol number)
    (not-true (is_some (held_at s.held p.protocol number))
    (passes (λ n. not (is_some (held_at s.held p.protocol n))) (candidates s.held.assignment.choosing p.block p.protocol
    p.inside)
    number
    (sym c.in-Some.ensures))) in
    rw c.new.ensures (subst (λ (x : BindingsModel). held_at x.held p.protocol number ≡ None) c.self.view_is free)

pub returns-clause-begins : goal.returns-clause-begins
returns-clause-begins c =
    let s = c.self.inside in
    let p = c.args.packet in
    let number = c.in-Some.number in
    let free : held_at s.held p.protocol number ≡ None = none_from (held_at s.held p.protocol number)
    (not-true (is_some (held_at s.held p.protocol number))
    (passes (λ n. not (is_some (held_at s.held p.protocol n))) (candidates s.held.assignment.choosing p.block p.protocol
    p.inside)
    number
    (sym c.in-Some.ensures))) in
    let its : Row = record {
      protocol = p.protocol;
      inside = p.inside;
      external = record { address = c.address.result; number = number };
      fixed = false;
    } in
    let of_row : Row → Binding = λ r. record { row = r; last = p.now; flows = c.args.flows } in
    let binding : Binding = of_row its in
    let new = c.insert.new.self in
    let state : BindingsModel = record { timers = s.timers; at = s.at; held = s.held; due = s.due } in
    let holds : (k : ExternalNumberKey) → held_binding new.held k
    ≡ cond (key_eq (external_key p.protocol number) k) (Some binding)
    (held_binding s.held k) = subst (λ (x : BindingsModel). (k : ExternalNumberKey) → held_binding new.held k
    ≡ cond (key_eq (external_key p.protocol number) k) (Some binding) (held_binding x.held k)) (sym c.self.view_is)
    (subst (λ (r : Row). (k : ExternalNumberKey) → held_binding new.held k
    ≡ cond (key_eq (key_of (of_row r)) k) (Some (of_row r)) (held_binding c.args.self.now.held k)) c.new.ensures
    c.insert.ensures.held) in
    let begun = subst (λ (x : BindingsModel). live_flows x.timers p.now p.protocol c.args.flows
    ≡ change_first (is_flow_of p.remote) (flow_after p.protocol Outgoing p.flags p.now) (with_flow p.remote p.now []))
    (sym c.self.view_is) c.requires.flows in
    let is : seen_binding s.timers p.now (Some binding)
    ≡ Some (binding_after_out p (new_binding s.held.address p number)) =
    made_seen s.timers c.are_within_limits.ensures c.address.result p number c.args.flows begun
    ∙ ap (λ (a : ℕ). Some (binding_after_out p (new_binding a p number))) c.address.ensures in
    let live = subst (λ (x : BindingsModel). (k : ExternalNumberKey) (b : Binding) → held_binding x.held k ≡ Some b →
    is_live x.timers (hold_ago x.timers p.now) b ≡ true) (sym c.self.view_is) c.requires.live in
    let begins : NewBindingOk p state new (Ok number) = λ list apart is_taken keeps. (
      sym (ap (λ o. ok_or o NoPort) (choice_is s.held.address p (held_at s.held p.protocol) list
          (rows_of state p list apart is_taken keeps live) s.held.assignment.choosing ∙ sym c.in-Some.ensures)),
      record {
        live = made_all s.timers s.held.address p s.held new.held number binding (purge s.timers p.now list) keeps.live
            holds (ap (seen_binding s.timers p.now) free) is;
        unseen = made_unseen s.timers s.held.address p s.held new.held number binding holds is;
      },
    ) in
    subst (λ (x : BindingsModel). NewBindingOk p x new (Ok number)) c.self.view_is begins

-- `send`: the answer and the stored bindings are those of the definition, in each case of a packet's source.
use Rattle.std.{proofs.Common.{◌≡◌, ℕ, true, false, cond, Option, sym, subst, ◌∙◌}, specs.Option.is_some}
use Rattle.napt_config.specs.Rules.{AreTimers}
use Rattle.napt_rules.specs.Prelude.{reaches_quota}
use Rattle.napt_table.specs.{BindingIndexes.{count_all, HasNoInside, IsNumberOf, HasInside, WentThrough, HasNoLiveBinding, SendKnownPost}, Bindings.{BindingsModel, BindingsUnchanged}}
use Rattle.napt_table.proofs.AssignedNumbers.{stands_then, went_answer, went_keeps, absent_from, gone_unseen, over_sends, begun_sends, renewed_sends}
use Rattle.napt_table.proofs.bindings.Bindings.send.Goals as goal

pub returns-in-Some-clause-sends : goal.returns-in-Some-clause-sends
returns-in-Some-clause-sends c list apart is_taken keeps left =
    let p = c.args.packet in
    let old = c.args.self.now in
    let new = c.send_held.new.self in
    let t : AreTimers old.timers = subst (λ (x : BindingsModel). AreTimers x.timers) c.self.view_is
    c.are_within_limits.ensures in
    let went : WentThrough old.timers p old.held new.held c.in-Some.number =
    subst (SendKnownPost old.timers p old.held new.held) c.in-Some.is c.in_ok-number.ensures.went in (
      went_answer old.timers t old.held.assignment p old.held new.held c.keep_names.ensures c.in-Some.number went list
          apart keeps,
      went_keeps old.timers t old.held.assignment p old.held new.held c.keep_names.ensures c.in-Some.number went list
          apart keeps left,
    )

pub renew-requires-clause-its : goal.renew-requires-clause-its
renew-requires-clause-its c =
    let p = c.args.packet in
    let gone = c.purge_at.new.self in
    let n = c.in-Some-number_of.number in
    let has : HasInside gone.held p.protocol p.inside n =
    subst (λ (x : BindingsModel). HasInside x.held p.protocol p.inside n) c.self-2.view_is
    ((c.number_of.ensures n).0 c.in-Some-number_of.is) in
    has

pub renew-requires-clause-unseen : goal.renew-requires-clause-unseen
renew-requires-clause-unseen c =
    let p = c.args.packet in
    let old = c.args.self.now in
    let mid = c.prepare.new.self in
    let gone = c.purge_at.new.self in
    let none : HasNoLiveBinding old.timers p old.held c.send_held.new.self.held =
    subst (SendKnownPost old.timers p old.held c.send_held.new.self.held) c.in_default.is c.in_ok-number.ensures.went in
    let at : c.send_held.new.self.at ≡ old.at = subst (λ (o : Option ℕ). c.send_held.new.self.at
    ≡ cond (is_some o) p.now old.at) c.in_default.is c.in_ok-number.ensures.at in
    let first : BindingsUnchanged old c.send_held.new.self =
    record { timers_is = c.send_held.ensures.timers; at_is = at; same = none.same } in
    let same = stands_then old c.send_held.new.self mid first c.prepare.ensures.same in
    let n = c.in-Some-number_of.number in
    let has : HasInside gone.held p.protocol p.inside n =
    subst (λ (x : BindingsModel). HasInside x.held p.protocol p.inside n) c.self-2.view_is
    ((c.number_of.ensures n).0 c.in-Some-number_of.is) in
    gone_unseen old mid gone p same c.purge_at.ensures none.none c.keep_names.ensures c.keep_names-2.ensures n has

pub returns-in-Some-number_of-clause-sends : goal.returns-in-Some-number_of-clause-sends
returns-in-Some-number_of-clause-sends c list apart is_taken keeps left =
    let p = c.args.packet in
    let old = c.args.self.now in
    let mid = c.prepare.new.self in
    let gone = c.purge_at.new.self in
    let none : HasNoLiveBinding old.timers p old.held c.send_held.new.self.held =
    subst (SendKnownPost old.timers p old.held c.send_held.new.self.held) c.in_default.is c.in_ok-number.ensures.went in
    let at : c.send_held.new.self.at ≡ old.at = subst (λ (o : Option ℕ). c.send_held.new.self.at
    ≡ cond (is_some o) p.now old.at) c.in_default.is c.in_ok-number.ensures.at in
    let first : BindingsUnchanged old c.send_held.new.self =
    record { timers_is = c.send_held.ensures.timers; at_is = at; same = none.same } in
    let same = stands_then old c.send_held.new.self mid first c.prepare.ensures.same in
    let t : AreTimers old.timers = subst (λ (x : BindingsModel). AreTimers x.timers) c.self.view_is
    c.are_within_limits.ensures in
    let n = c.in-Some-number_of.number in
    let has : HasInside gone.held p.protocol p.inside n =
    subst (λ (x : BindingsModel). HasInside x.held p.protocol p.inside n) c.self-2.view_is
    ((c.number_of.ensures n).0 c.in-Some-number_of.is) in
    renewed_sends old mid gone p same c.purge_at.ensures none.none c.keep_names.ensures c.keep_names-2.ensures t list
    apart is_taken keeps n has c.renew.new.self c.renew.ensures.renews left

pub insert_new-requires-clause-absent : goal.insert_new-requires-clause-absent
insert_new-requires-clause-absent c =
    let p = c.args.packet in
    let gone = c.purge_at.new.self in
    let absent : HasNoInside gone.held p.protocol p.inside = absent_from gone.held p.protocol p.inside
    c.number_of.result (subst (λ (x : BindingsModel). IsNumberOf x.held p.protocol p.inside c.number_of.result)
    c.self-2.view_is c.number_of.ensures) c.in_default-number_of.is in
    absent

pub returns-then-is_at_quota-clause-sends : goal.returns-then-is_at_quota-clause-sends
returns-then-is_at_quota-clause-sends c list apart is_taken keeps left =
    let p = c.args.packet in
    let old = c.args.self.now in
    let mid = c.prepare.new.self in
    let gone = c.purge_at.new.self in
    let none : HasNoLiveBinding old.timers p old.held c.send_held.new.self.held =
    subst (SendKnownPost old.timers p old.held c.send_held.new.self.held) c.in_default.is c.in_ok-number.ensures.went in
    let at : c.send_held.new.self.at ≡ old.at = subst (λ (o : Option ℕ). c.send_held.new.self.at
    ≡ cond (is_some o) p.now old.at) c.in_default.is c.in_ok-number.ensures.at in
    let first : BindingsUnchanged old c.send_held.new.self =
    record { timers_is = c.send_held.ensures.timers; at_is = at; same = none.same } in
    let same = stands_then old c.send_held.new.self mid first c.prepare.ensures.same in
    let t : AreTimers old.timers = subst (λ (x : BindingsModel). AreTimers x.timers) c.self.view_is
    c.are_within_limits.ensures in
    let absent : HasNoInside gone.held p.protocol p.inside = absent_from gone.held p.protocol p.inside
    c.number_of.result (subst (λ (x : BindingsModel). IsNumberOf x.held p.protocol p.inside c.number_of.result)
    c.self-2.view_is c.number_of.ensures) c.in_default-number_of.is in
    let over : reaches_quota gone.held.assignment.quota (count_all gone.held p.inside.address) ≡ true =
    subst (λ (x : BindingsModel). reaches_quota x.held.assignment.quota (count_all x.held p.inside.address)
    ≡ true) c.self-2.view_is
    (sym c.is_at_quota.ensures ∙ c.if-is_at_quota.true) in
    over_sends old mid gone p same c.purge_at.ensures none.none c.keep_names.ensures c.keep_names-2.ensures t list apart
    is_taken keeps absent over left

pub returns-clause-sends : goal.returns-clause-sends
returns-clause-sends c list apart is_taken keeps left =
    let p = c.args.packet in
    let old = c.args.self.now in
    let mid = c.prepare.new.self in
    let gone = c.purge_at.new.self in
    let none : HasNoLiveBinding old.timers p old.held c.send_held.new.self.held =
    subst (SendKnownPost old.timers p old.held c.send_held.new.self.held) c.in_default.is c.in_ok-number.ensures.went in
    let at : c.send_held.new.self.at ≡ old.at = subst (λ (o : Option ℕ). c.send_held.new.self.at
    ≡ cond (is_some o) p.now old.at) c.in_default.is c.in_ok-number.ensures.at in
    let first : BindingsUnchanged old c.send_held.new.self =
    record { timers_is = c.send_held.ensures.timers; at_is = at; same = none.same } in
    let same = stands_then old c.send_held.new.self mid first c.prepare.ensures.same in
    let t : AreTimers old.timers = subst (λ (x : BindingsModel). AreTimers x.timers) c.self.view_is
    c.are_within_limits.ensures in
    let absent : HasNoInside gone.held p.protocol p.inside = absent_from gone.held p.protocol p.inside
    c.number_of.result (subst (λ (x : BindingsModel). IsNumberOf x.held p.protocol p.inside c.number_of.result)
    c.self-2.view_is c.number_of.ensures) c.in_default-number_of.is in
    let under : reaches_quota gone.held.assignment.quota (count_all gone.held p.inside.address) ≡ false =
    subst (λ (x : BindingsModel). reaches_quota x.held.assignment.quota (count_all x.held p.inside.address)
    ≡ false) c.self-2.view_is
    (sym c.is_at_quota.ensures ∙ c.if-is_at_quota.false) in
    begun_sends old mid gone p same c.purge_at.ensures none.none c.keep_names.ensures c.keep_names-2.ensures t list
    apart
    is_taken keeps absent under c.insert_new.new.self c.insert_new.result c.insert_new.ensures.begins left

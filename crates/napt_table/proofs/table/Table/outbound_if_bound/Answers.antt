-- `outbound_if_bound`: a known binding's packet is sent as in `step_out`, and the invariant is preserved.
use Rattle.std.{proofs.Common.{◌≤◌, ◌∙◌, ℕ, Option, Result, Ok, true, false, ap, refl, sym, subst}, specs.Prelude.{IfOk, IfSome}}
use Rattle.napt_wire.specs.declared.Cause.{Cause}
use Rattle.napt_rules.specs.Prelude.{OutboundEffect, IsNumber}
use Rattle.napt_table.specs.{declared.table_event.TableEvent.TheVariants.Sent, Bindings.{FindsLiveBinding, SendsKnown}, TableModels.table_model, Tables.TableModel}
use Rattle.napt_table.proofs.{TableSteps.{all, all_sound, all_taken, keep_now, found_now, shown_after, keeps_after, keeps_same}, Tables.table_out}
use Rattle.napt_laws.proofs.RowNumbers.{out_named}
use Rattle.napt_table.proofs.table.Table.outbound_if_bound.Goals as goal

pub invariant_of-self : goal.invariant_of-self
invariant_of-self c = keeps_same c.self.inside _ refl refl c.in_err-number.ensures.refused refl c.self.invariant

pub invariant_of-self-in-Some : goal.invariant_of-self-in-Some
invariant_of-self-in-Some c =
    let t = c.self.inside in
    let packet = c.args.packet in
    let le : t.bindings.at ≤ packet.now =
    subst (λ (s : TableModel). s.at ≤ packet.now) (sym c.self.view_is) c.requires.later in
    let k : SendsKnown packet t.bindings c.send_known.new.self c.in-Some.number =
    subst (λ (found : Option ℕ). IfSome found (λ number.
    SendsKnown packet t.bindings c.send_known.new.self number)) c.in-Some.is c.in_ok-number.ensures.known in
    keeps_after t _ packet.now (Sent packet) refl refl c.in_ok-number.ensures.timers k.place k.at
    c.and-self-inside.ensures
    (table_out (table_model t) c.self.invariant.state packet c.requires.number c.requires.block)
    (k.sends (all t c.self.invariant packet.now le) (all_sound t c.self.invariant packet.now le).apart
    (all_taken t c.self.invariant packet.now le) (keep_now t c.self.invariant packet.now le)
    (table_out (table_model t) c.self.invariant.state packet c.requires.number c.requires.block).sound.apart).1

pub returns-in-Some-clause-known : goal.returns-in-Some-clause-known
returns-in-Some-clause-known c block =
    let t = c.self.inside in
    let packet = c.args.packet in
    let le : t.bindings.at ≤ packet.now =
    subst (λ (s : TableModel). s.at ≤ packet.now) (sym c.self.view_is) c.requires.later in
    let k : SendsKnown packet t.bindings c.send_known.new.self c.in-Some.number =
    subst (λ (found : Option ℕ). IfSome found (λ number.
    SendsKnown packet t.bindings c.send_known.new.self number)) c.in-Some.is c.in_ok-number.ensures.known in
    let list = all t c.self.invariant packet.now le in
    let apart = (all_sound t c.self.invariant packet.now le).apart in
    let keeps = keep_now t c.self.invariant packet.now le in
    let same = sym (k.any_block list apart keeps block) in
    rw (← c.self.view_is) (record {
      answered = (k.sends list apart (all_taken t c.self.invariant packet.now le) keeps
          (table_out (table_model t) c.self.invariant.state packet c.requires.number c.requires.block).sound.apart).0
          ∙ ap
          (λ (o : OutboundEffect). o.number) same;
      left = shown_after t (record t { events = c.and-self-inside.result; bindings = c.send_known.new.self }) packet.now
          (Sent packet) refl refl c.in_ok-number.ensures.timers k.place k.at c.and-self-inside.ensures
          ∙ ap (λ (o : OutboundEffect). let s : TableModel = record (table_model t) { list = o.list; at = packet.now }
          in s) same;
    })

pub returns-in-Some-clause-named : goal.returns-in-Some-clause-named
returns-in-Some-clause-named c =
    let t = c.self.inside in
    let packet = c.args.packet in
    let le : t.bindings.at ≤ packet.now =
    subst (λ (s : TableModel). s.at ≤ packet.now) (sym c.self.view_is) c.requires.later in
    let k : SendsKnown packet t.bindings c.send_known.new.self c.in-Some.number =
    subst (λ (found : Option ℕ). IfSome found (λ number.
    SendsKnown packet t.bindings c.send_known.new.self number)) c.in-Some.is c.in_ok-number.ensures.known in
    let sound = all_sound t c.self.invariant packet.now le in
    let list = all t c.self.invariant packet.now le in
    subst (λ (r : Result ℕ Cause). IfOk r (IsNumber packet.protocol))
    (sym (k.sends list sound.apart (all_taken t c.self.invariant packet.now le)
    (keep_now t c.self.invariant packet.now le)
    (table_out (table_model t) c.self.invariant.state packet c.requires.number c.requires.block).sound.apart).0)
    (out_named (λ host. t.bindings.held.address) t.bindings.held.address t.bindings.timers t.bindings.held.assignment
    packet
    c.requires.block
    list sound)

pub returns-in-Some-clause-found : goal.returns-in-Some-clause-found
returns-in-Some-clause-found c =
    let t = c.self.inside in
    let packet = c.args.packet in
    let le : t.bindings.at ≤ packet.now =
    subst (λ (s : TableModel). s.at ≤ packet.now) (sym c.self.view_is) c.requires.later in
    let k : SendsKnown packet t.bindings c.send_known.new.self c.in-Some.number =
    subst (λ (found : Option ℕ). IfSome found (λ number.
    SendsKnown packet t.bindings c.send_known.new.self number)) c.in-Some.is c.in_ok-number.ensures.known in
    rw (← c.self.view_is) (sym (found_now t c.self.invariant packet.now le packet.protocol packet.inside true
    (k.finds (all t c.self.invariant packet.now le) (all_sound t c.self.invariant packet.now le).apart
    (keep_now t c.self.invariant packet.now le))))

pub returns-in-None-clause-found : goal.returns-in-None-clause-found
returns-in-None-clause-found c =
    let t = c.self.inside in
    let packet = c.args.packet in
    let le : t.bindings.at ≤ packet.now =
    subst (λ (s : TableModel). s.at ≤ packet.now) (sym c.self.view_is) c.requires.later in
    let none : FindsLiveBinding false packet t.bindings =
    (c.send_known.ensures.unknown (c.in_ok-number.was ∙ ap Ok c.in-None.is)).1
    in
    rw (← c.self.view_is) (sym (found_now t c.self.invariant packet.now le packet.protocol packet.inside false
    (none (all t c.self.invariant packet.now le) (all_sound t c.self.invariant packet.now le).apart
    (keep_now t c.self.invariant packet.now le))))

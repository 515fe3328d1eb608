-- `outbound_in_block`: the answer and the list after it are those of `step_out`, and the invariant is preserved.
use Rattle.std.proofs.Common.{◌≤◌, refl, sym, subst}
use Rattle.napt_table.specs.{declared.table_event.TableEvent.TheVariants.Sent, TableModels.table_model, Tables.TableModel}
use Rattle.napt_table.proofs.{TableSteps.{all, all_sound, all_taken, keep_now, shown_after, keeps_after, keeps_same}, Tables.table_out}
use Rattle.napt_laws.proofs.RowNumbers.{out_named}
use Rattle.napt_table.proofs.table.Table.outbound_in_block.Goals as goal

pub invariant_of-self : goal.invariant_of-self
invariant_of-self c = keeps_same c.self.inside _ refl refl c.in_err-answer.ensures.refused refl c.self.invariant

pub invariant_of-self-2 : goal.invariant_of-self-2
invariant_of-self-2 c =
    let t = c.self.inside in
    let packet = c.args.packet in
    let le : t.bindings.at ≤ packet.now =
    subst (λ (s : TableModel). s.at ≤ packet.now) (sym c.self.view_is) c.requires.later in
    let k = c.in_ok-answer.ensures in
    keeps_after t _ packet.now (Sent packet) refl
    refl k.timers k.place k.at c.and-self-inside.ensures
    (table_out (table_model t) c.self.invariant.state packet c.requires.number c.requires.block)
    (k.sends (all t c.self.invariant packet.now le) (all_sound t c.self.invariant packet.now le).apart
    (all_taken t c.self.invariant packet.now le) (keep_now t c.self.invariant packet.now le)
    (table_out (table_model t) c.self.invariant.state packet c.requires.number c.requires.block).sound.apart).1

pub returns-clause-answer : goal.returns-clause-answer
returns-clause-answer c =
    let t = c.self.inside in
    let packet = c.args.packet in
    let le : t.bindings.at ≤ packet.now =
    subst (λ (s : TableModel). s.at ≤ packet.now) (sym c.self.view_is) c.requires.later in
    rw (← c.self.view_is) (c.in_ok-answer.ensures.sends (all t c.self.invariant packet.now le)
    (all_sound t c.self.invariant packet.now le).apart (all_taken t c.self.invariant packet.now le)
    (keep_now t c.self.invariant packet.now le)
    (table_out (table_model t) c.self.invariant.state packet c.requires.number c.requires.block).sound.apart).0

pub returns-clause-left : goal.returns-clause-left
returns-clause-left c =
    let packet = c.args.packet in
    let k = c.in_ok-answer.ensures in
    rw (← c.self.view_is) (shown_after c.self.inside
    (record c.self.inside { events = c.and-self-inside.result; bindings = c.send.new.self }) packet.now
    (Sent packet) refl refl k.timers k.place k.at c.and-self-inside.ensures)

pub returns-clause-named : goal.returns-clause-named
returns-clause-named c =
    let t = c.self.inside in
    let packet = c.args.packet in
    let le : t.bindings.at ≤ packet.now =
    subst (λ (s : TableModel). s.at ≤ packet.now) (sym c.self.view_is) c.requires.later in
    let sound = all_sound t c.self.invariant packet.now le in
    rw (c.in_ok-answer.ensures.sends (all t c.self.invariant packet.now le) sound.apart
    (all_taken t c.self.invariant packet.now le) (keep_now t c.self.invariant packet.now le)
    (table_out (table_model t) c.self.invariant.state packet c.requires.number c.requires.block).sound.apart).0
    (out_named (λ host. t.bindings.held.address) t.bindings.held.address t.bindings.timers t.bindings.held.assignment
    packet
    c.requires.block
    (all t c.self.invariant packet.now le) sound)

-- `free_number`: the number is the least that no live or held binding of the list has, and the invariant is preserved.
use Rattle.std.{proofs.Common.{◌≤◌, refl, sym, subst}, specs.Option.is_some}
use Rattle.napt_rules.specs.Prelude.{by_number, hold_ago}
use Rattle.napt_table.specs.{declared.table_event.TableEvent.TheVariants.Purged, HeldLists.seen_binding, BindingIndexes.held_at, TableModels.{table_model, list_of}, Tables.TableModel}
use Rattle.napt_table.proofs.{LeastFree.first_agrees, TableSteps.{all, keep_now, shown_after, keeps_after}, Tables.table_purged}
use Rattle.napt_table.proofs.HeldThroughTime.{purged_keeps, some_agree}
use Rattle.napt_laws.proofs.SeenElements.{ago_later}
use Rattle.napt_table.proofs.table.Table.free_number.Goals as goal

pub invariant_of-self : goal.invariant_of-self
invariant_of-self c =
    let t = c.self.inside in
    let now = c.args.now in
    let le : t.bindings.at ≤ now = subst (λ (s : TableModel). s.at ≤ now) (sym c.self.view_is) c.requires.later in
    let k = c.free_number-number.ensures.purged in
    keeps_after t _ now (Purged now) refl refl k.timers_is k.keeps.place k.at_is c.and-self-inside.ensures
    (table_purged (table_model t) c.self.invariant.state now)
    (purged_keeps t.bindings.timers now t.bindings.held.address t.bindings.held c.free_number-number.new.self.held
    (all t c.self.invariant now le) (keep_now t c.self.invariant now le) (λ key. k.keeps.seen_same key))

pub returns-clause-answer : goal.returns-clause-answer
returns-clause-answer c =
    let t = c.self.inside in
    let now = c.args.now in
    let protocol = c.args.protocol in
    let le : t.bindings.at ≤ now = subst (λ (s : TableModel). s.at ≤ now) (sym c.self.view_is) c.requires.later in
    let ago = hold_ago t.bindings.timers now in
    let apart = c.self.invariant.state.sound.apart in
    rw (← c.self.view_is) (first_agrees (λ n. is_some
    (seen_binding t.bindings.timers ago (held_at t.bindings.held protocol n)))
    (λ n. is_some (by_number t.bindings.timers t.bindings.held.address ago protocol n (list_of t))) 1 65536
    (λ n small. sym (some_agree t.bindings.timers ago t.bindings.held.address protocol n (list_of t) apart
    (held_at t.bindings.held protocol n) (c.self.invariant.keeps.held protocol n ago
    (ago_later t.bindings.timers t.bindings.at now le)))) c.free_number-number.result
    c.free_number-number.ensures.spare)

pub returns-clause-left : goal.returns-clause-left
returns-clause-left c =
    let k = c.free_number-number.ensures.purged in
    rw (← c.self.view_is) (shown_after c.self.inside
    (record c.self.inside { events = c.and-self-inside.result; bindings = c.free_number-number.new.self }) c.args.now
    (Purged c.args.now) refl refl k.timers_is k.keeps.place k.at_is c.and-self-inside.ensures)

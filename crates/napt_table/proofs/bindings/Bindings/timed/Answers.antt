-- `timed`: the row and the end are those of the live binding with the number.
use Rattle.std.{proofs.Common.{◌≡◌, Option, Some, None, cond, sym, ◌∙◌, ap}, specs.Option.option_map}
use Rattle.napt_config.specs.declared.settings.Timers.{Timers}
use Rattle.napt_rules.specs.Prelude.{Binding, with_live_flows, row}
use Rattle.napt_binding.{specs.Ends.end_of, proofs.FirstEnds.end_without_dead}
use Rattle.napt_table.specs.{declared.TimedRow.TimedRow, TimedRows.timed_row, HeldLists.seen_binding, BindingIndexes.held_at}
use Rattle.napt_table.proofs.bindings.Bindings.timed.Goals as goal

pub returns-in-Some : goal.returns-in-Some
returns-in-Some c =
    let timers : Timers = c.self.inside.timers in
    let b : Binding = c.in-Some.binding.now in
    let held_is : held_at c.self.inside.held c.args.protocol c.args.number ≡ Some b = sym c.in-Some.ensures.value in
    let end_is : c.end_of.result ≡ end_of timers (with_live_flows timers c.args.now b) = c.end_of.ensures
    ∙ sym (end_without_dead timers c.are_within_limits.ensures c.args.now b
    (sym c.is_live.ensures ∙ c.if-is_live.true)) in
    rw (← c.self.view_is)
    (ap (λ (r : _). let t : TimedRow = record { row = r; end = c.end_of.result } in Some t) c.row.ensures.row
    ∙ (ap (λ (e : _). let t : TimedRow = record { row = row b; end = e } in Some t) end_is
    ∙ (sym (ap (λ v. option_map (timed_row timers) (cond v (Some (with_live_flows timers c.args.now b)) None))
    (sym c.is_live.ensures ∙ c.if-is_live.true))
    ∙ sym (ap (λ (o : Option Binding). option_map (timed_row timers) (seen_binding timers c.args.now o)) held_is))))

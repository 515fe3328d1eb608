-- `bindings`: the sorted rows are those of the list's live bindings.
use Rattle.std.proofs.{Common.{rules, ◌≤◌, sym, ap, ◌∙◌, subst}, lemmas.List.Sorted.{answers_always, IsNonDecreasingBy-from_sort}}
use Rattle.napt_rules.specs.Prelude.{rank, sorted_rows, rows}
use Rattle.napt_table.{specs.Tables.TableModel, proofs.ListedRows.made_in_order}
use Rattle.napt_laws.proofs.Orders.{in_order-from_sort}
use Rattle.napt_table.proofs.table.Table.bindings.Goals as goal

pub returns : goal.returns
returns c =
    let t = c.self.inside in
    let le : t.bindings.at ≤ c.args.now =
    subst (λ (s : TableModel). s.at ≤ c.args.now) (sym c.self.view_is) c.requires.later in
    let keys = answers_always _ _ _ (λ f a r next called. search rules) in
    in_order-from_sort _ _ (IsNonDecreasingBy-from_sort rank _ (c.in_ok-sort_by_key.ensures.sorted rank keys))
    (c.sort_by_key.ensures.stable rank keys)
    ∙ (ap sorted_rows c.in_ok-made.ensures.rows
    ∙ (made_in_order t c.self.invariant c.args.now le c.keep_names.ensures c.in_ok-made.ensures.read
    ∙ ap (λ (s : TableModel). rows s.timers c.args.now s.list) c.self.view_is))

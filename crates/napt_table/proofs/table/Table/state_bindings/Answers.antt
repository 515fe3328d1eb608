-- `state_bindings`: the sorted bindings are alike to the live and held ones of the list.
use Rattle.std.proofs.{Common.{rules, ◌≤◌, sym, subst}, lemmas.List.Sorted.{answers_always, IsNonDecreasingBy-from_sort}}
use Rattle.napt_rules.specs.Prelude.{Binding, live_and_held, rank, AreBindingsLeft}
use Rattle.napt_table.{specs.Tables.TableModel, proofs.LeftBindings.left_is}
use Rattle.napt_table.proofs.table.Table.state_bindings.Goals as goal

pub returns : goal.returns
returns c =
    let t = c.self.inside in
    let le : t.bindings.at ≤ c.args.now =
    subst (λ (s : TableModel). s.at ≤ c.args.now) (sym c.self.view_is) c.requires.later in
    let keys = answers_always _ _ _ (λ f a r next called. search rules) in
    subst (λ (s : TableModel). AreBindingsLeft s.timers c.args.now (live_and_held s.timers c.args.now s.list)
    c.sort_by_key.new.self.items) c.self.view_is
    (left_is t c.self.invariant c.args.now le c.keep_names.ensures c.in_ok-made.ensures.unique
    c.state_bindings.ensures.used
    c.in_ok-made.made.items c.sort_by_key.new.self.items c.in_ok-made.ensures.bindings c.in_ok-made.ensures.distinct
    c.sort_by_key.ensures.permutation (IsNonDecreasingBy-from_sort (λ (b : Binding). rank b.row) _
    (c.in_ok-sort_by_key.ensures.sorted (λ (b : Binding). rank b.row) keys)))

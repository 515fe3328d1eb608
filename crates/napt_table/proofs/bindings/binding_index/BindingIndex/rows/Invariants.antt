-- `rows`: the invariant of the loop over the stored bindings.
use Rattle.std.proofs.Common.{◌≡◌, ◌++◌, All, map, filter}
use Rattle.napt_rules.specs.Prelude.{is_live, row}
use Rattle.napt_table.specs.HeldRows.{held_rows, HasPortNumber}
use Rattle.napt_table.proofs.bindings.binding_index.BindingIndex.rows.Given as goal

-- The rows so far, and those of the live bindings of the rest, are `held_rows`.
abbrev pub invariant-loop-binding : goal.invariant-loop-binding
invariant-loop-binding l = record {
  rest : l.made.items ++ map row (filter (is_live l.timers l.now) l.binding-iterator)
      ≡ held_rows l.timers l.now l.self;
  small : All HasPortNumber l.made.items;
}

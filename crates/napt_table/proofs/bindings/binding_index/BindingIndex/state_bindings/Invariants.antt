-- `state_bindings`: the invariant of the loop over the stored bindings.
use Rattle.std.proofs.Common.{◌≡◌, ◌++◌, All, map, filter}
use Rattle.std.specs.Map.{values_of}
use Rattle.napt_rules.specs.Prelude.{is_live, with_live_flows, purge}
use Rattle.napt_binding.specs.Slots.{AreDistinct}
use Rattle.napt_table.proofs.bindings.binding_index.BindingIndex.state_bindings.Given as goal

-- The bindings so far, and those of the rest that are live, are the stored ones after a purge.
abbrev pub invariant-loop-binding : goal.invariant-loop-binding
invariant-loop-binding l = record {
  rest : l.made.items ++ map (with_live_flows l.timers l.ago) (filter (is_live l.timers l.ago) l.binding-iterator)
      ≡ purge l.timers l.ago (values_of l.self.entries);
  distinct : All (λ b. AreDistinct b.flows) l.made.items;
}

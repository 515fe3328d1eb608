-- `new`: an index without bindings satisfies its invariant.
use Rattle.std.proofs.Common.{◌∙◌}
use Rattle.napt_table.proofs.IndexConsistency.{none_held}
use Rattle.napt_table.proofs.bindings.binding_index.BindingIndex.new.Goals as goal

pub invariant_of-result : goal.invariant_of-result
invariant_of-result c = none_held _ c.new.ensures.empty c.new-3.ensures.empty c.in_ok-new.ensures.by_protocol
    c.in_ok-new.ensures.none (c.new-5.ensures.counted ∙ c.is_some.ensures) c.new-5.ensures.none

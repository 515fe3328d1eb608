-- `choose`: the first candidate that is not in use is the first that no binding has.
use Rattle.std.proofs.Common.{◌∙◌}
use Rattle.napt_table.proofs.IndexConsistency.{choice_held}
use Rattle.napt_table.proofs.bindings.binding_index.BindingIndex.choose.Goals as goal

pub returns : goal.returns
returns c = rw (← c.self.view_is) (c.choose.ensures
    ∙ choice_held c.self.inside c.self.invariant c.self.inside.assignment.choosing
    c.args.block c.requires c.args.protocol c.args.inside)

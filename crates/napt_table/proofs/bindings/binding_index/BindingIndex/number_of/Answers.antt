-- `number_of`: a look-up of an inside endpoint finds the number of its binding.
use Rattle.std.{proofs.Common.{sym, ap, ◌∙◌, subst}, specs.Map.lookup}
use Rattle.napt_table.{specs.{declared.bindings.keys.InsideKey.InsideKey, Keys.inside_eq, BindingIndexes.IsNumberOf, HeldModels.holdings_of}, proofs.IndexConsistency.number_found}
use Rattle.napt_table.proofs.bindings.binding_index.BindingIndex.number_of.Goals as goal

pub returns-in-Some : goal.returns-in-Some
returns-in-Some c = rw (← c.self.view_is) (subst (IsNumberOf (holdings_of c.self.inside) c.args.protocol c.args.inside)
    (ap (λ (k : InsideKey). lookup (inside_eq k) c.self.inside.by_inside.entries) (sym c.inside_key.ensures)
    ∙ sym c.in-Some.ensures.value)
    (number_found c.self.inside c.self.invariant c.args.protocol c.args.inside))

pub returns-in-None : goal.returns-in-None
returns-in-None c = rw (← c.self.view_is) (subst (IsNumberOf (holdings_of c.self.inside) c.args.protocol c.args.inside)
    (ap (λ (k : InsideKey). lookup (inside_eq k) c.self.inside.by_inside.entries) (sym c.inside_key.ensures)
    ∙ sym c.in-None.ensures.value)
    (number_found c.self.inside c.self.invariant c.args.protocol c.args.inside))

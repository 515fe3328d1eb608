-- `least_free`: the least number that is not in use is the least that no binding has.
use Rattle.std.specs.Option.{is_some}
use Rattle.napt_table.{specs.{HeldModels.holdings_of, BindingIndexes.held_at, NumbersInUse.is_in_use, Keys.external_key}, proofs.LeastFree.first_agrees}
use Rattle.napt_table.proofs.bindings.binding_index.BindingIndex.least_free.Goals as goal

pub returns : goal.returns
returns c = rw (← c.self.view_is) (first_agrees
    (λ n. is_in_use c.self.inside.numbers (external_key c.args.protocol n))
    (λ n. is_some (held_at (holdings_of c.self.inside) c.args.protocol n)) 1 65536
    (λ n small. c.self.invariant.used_is (external_key c.args.protocol n) small) c.least_free.result
    c.least_free.ensures)

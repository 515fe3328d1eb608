-- `rows_are_in_order`: the rows of a list are sorted, and are those of its bindings.
use Rattle.napt_laws.proofs.Orders.{rows_in_order}
use Rattle.napt_laws.proofs.steps.rows_are_in_order.Goals as goal

pub returns : goal.returns
returns c = rows_in_order

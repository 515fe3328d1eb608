-- is_full: a list of fewer than `FEW` flows is never full, and for a longer one the standing flows are counted.
use Rattle.std.proofs.Common.{◌∙◌, sym, ap, is_some}
use Rattle.napt_binding.proofs.ListLengths.{never_full, full_where}
use Rattle.napt_binding.proofs.flows.is_full.Goals as goal

pub returns-then-flows-lt-FEW : goal.returns-then-flows-lt-FEW
returns-then-flows-lt-FEW c = sym (never_full c.args.timers c.args.sent c.args.flows.now c.if-flows-lt-FEW.true)

pub returns-then-count_standing-ge-FEW : goal.returns-then-count_standing-ge-FEW
returns-then-count_standing-ge-FEW c =
    full_where c.args.timers c.args.sent c.args.flows.now c.count_standing.result c.is_none.result
    c.count_standing.ensures c.if-count_standing-ge-FEW.true
    (sym (ap is_some c.standing_place.ensures) ∙ c.is_none.ensures)

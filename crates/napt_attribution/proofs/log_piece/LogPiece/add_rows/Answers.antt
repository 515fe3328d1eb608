-- add_rows: all rows after the first one are added.
use Rattle.std.proofs.Common.{◌≡◌, true, false, rules}
use Rattle.napt_attribution.proofs.RowReads.{goes_on, stops}
use Rattle.napt_attribution.proofs.log_piece.LogPiece.add_rows.Goals as goal

pub returns-in-Ok-false : goal.returns-in-Ok-false
returns-in-Ok-false g c = λ config asked events fit bytes tells.
    let is : c.in-Ok-false.field-0 ≡ false = search rules in
    stops config asked events (g.R.Read.remaining c.loop-row.log.reader) (g.R.Read.remaining c.add_next.new.log.reader)
    c.loop-row.rows c.add_next.new.rows c.in-Ok-false.field-0 (c.in-Ok-false.ensures.row config asked)
    c.in-Ok-false.ensures.end
    (c.loop-row.invariant config asked events fit bytes tells) is

pub loop-row-preserved : goal.loop-row-preserved
loop-row-preserved g c = λ config asked events fit bytes tells.
    let is : c.in-Ok-true.field-0 ≡ true = search rules in
    goes_on config asked events (g.R.Read.remaining c.loop-row.log.reader)
    (g.R.Read.remaining c.add_next.new.log.reader)
    c.loop-row.rows c.add_next.new.rows c.in-Ok-true.field-0 (c.in-Ok-true.ensures.row config asked)
    c.in-Ok-true.ensures.end
    (c.loop-row.invariant config asked events fit bytes tells) is

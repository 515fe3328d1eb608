-- add_read: the row that was read is added.
use Rattle.napt_attribution.proofs.RowReads.{same_row}
use Rattle.napt_attribution.proofs.log_piece.LogPiece.add_read.Goals as goal

pub returns-in-Ok-Some-clause-row : goal.returns-in-Ok-Some-clause-row
returns-in-Ok-Some-clause-row c = λ asked events event read tells.
    let is = rw read at c.in-Ok-Some.field-0-is in c.add_row.ensures asked events event (same_row _ _ is) tells

-- add_next: the first of the remaining rows is added.
use Rattle.std.proofs.lemmas.Result.{IfOk-weaker}
use Rattle.napt_attribution.proofs.RowReads.{unless}
use Rattle.napt_attribution.proofs.log_piece.LogPiece.add_next.Goals as goal

pub returns-clause-row : goal.returns-clause-row
returns-clause-row g c = λ rules asked events event rest fits left tells.
    unless c.next-read.result _ c.add_read.result _ (c.next-read.ensures.row rules event rest fits left)
    (λ read. IfOk-weaker c.add_read.result _ _ (λ more h. (h.0, h.1, h.2, read.1))
    (c.add_read.ensures.row asked events event read.0 tells)) c.add_read.ensures.err

pub returns-clause-end : goal.returns-clause-end
returns-clause-end g c = λ left.
    unless c.next-read.result _ c.add_read.result _ (c.next-read.ensures.end left) c.add_read.ensures.end
    c.add_read.ensures.err

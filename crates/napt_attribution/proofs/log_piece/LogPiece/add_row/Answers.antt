-- add_row: the row of an event is added to those before it.
use Rattle.std.proofs.Common.{refl}
use Rattle.napt_attribution.proofs.log_piece.LogPiece.add_row.Goals as goal

pub returns-2 : goal.returns-2
returns-2 c = λ asked events event is tells. let told = c.in_ok-made.ensures asked events event tells is in
    (refl, told.0, told.1)

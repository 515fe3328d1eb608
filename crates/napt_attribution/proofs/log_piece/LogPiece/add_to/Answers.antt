-- add_to: all rows of the device are added.
use Rattle.std.proofs.Common.{◌∙◌, ap}
use Rattle.std.specs.List.{flat_map}
use Rattle.napt_log_text.specs.Rows.{csv_row}
use Rattle.napt_attribution.proofs.RowReads.{behind_buffer}
use Rattle.napt_attribution.proofs.log_piece.LogPiece.add_to.Goals as goal

pub returns-in-Ok-open : goal.returns-in-Ok-open
returns-in-Ok-open g c = λ rules asked events first fit bytes tells.
    let whole = behind_buffer _ _ _ _ c.in-Ok.ensures.capacity c.in-Ok.ensures.empty
    (ap g.D.Read.remaining c.in-Ok.ensures.inner ∙ bytes) in
    c.add_rows.ensures rules asked events fit (c.in-Ok-open.ensures.names (flat_map (csv_row rules) events) whole) tells

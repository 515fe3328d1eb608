-- add_rows: the rows before this one were added, and the others have not been read.
use Rattle.std.proofs.Common.{◌≡◌, List, [], Some}
use Rattle.std.specs.List.{flat_map}
use Rattle.napt_config.specs.Rules.{Rules}
use Rattle.napt_rules.specs.Prelude.{Each}
use Rattle.napt_log_text.specs.{LogRows.IsEvent, Rows.csv_row, declared.event.LogEvent.LogEvent}
use Rattle.napt_attribution.specs.{SavedLogs.RowsTrackEvents, declared.requests.HolderRequest.HolderRequest}
use Rattle.napt_attribution.proofs.RowReads.{IsRead}
use Rattle.napt_attribution.proofs.log_piece.LogPiece.add_rows.Given as goal

abbrev pub invariant-loop-row : goal.invariant-loop-row
invariant-loop-row g l = (rules : Rules) (asked : List HolderRequest) (events : List LogEvent) → Each IsEvent events →
    g.R.Read.remaining l.fn.log.reader ≡ Some (flat_map (csv_row rules) events) → RowsTrackEvents asked l.fn.rows [] →
    IsRead rules asked events (g.R.Read.remaining l.log.reader) l.rows

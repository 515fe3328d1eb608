-- push_rows: the report has the lines of the rows so far.
use Rattle.std.proofs.Common.{◌≡◌, ◌++◌, flat_map, string_bytes, take}
use Rattle.napt_records.specs.Report as model
use Rattle.napt_records.proofs.report.push_rows.Given as goal

abbrev pub invariant-loop-row : goal.invariant-loop-row
invariant-loop-row l = string_bytes l.report ≡ string_bytes l.fn.report ++ flat_map model.row_line
    (take l.row-index l.rows)

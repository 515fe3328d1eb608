-- add_refused: the rows so far have been appended.
use Rattle.std.proofs.Common.{◌≡◌, ◌++◌, string_bytes, take}
use Rattle.napt_log_text.specs.Logs.{refused_rows}
use Rattle.napt_log_text.proofs.log_rows.add_refused.Given as goal

abbrev pub invariant-loop-shortage : goal.invariant-loop-shortage
invariant-loop-shortage l = string_bytes l.text ≡ string_bytes l.fn.text ++ refused_rows l.config
    (take l.shortage-index l.refused)

-- add_repeated: the rows so far have been appended.
use Rattle.std.proofs.Common.{◌≡◌, ◌++◌, string_bytes, take}
use Rattle.napt_log_text.specs.Logs.{repeated_rows}
use Rattle.napt_log_text.proofs.log_rows.add_repeated.Given as goal

abbrev pub invariant-loop-listed : goal.invariant-loop-listed
invariant-loop-listed l = string_bytes l.text ≡ string_bytes l.fn.text ++ repeated_rows l.config
    (take l.listed-index l.repeated)

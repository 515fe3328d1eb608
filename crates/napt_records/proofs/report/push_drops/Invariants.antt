-- push_drops: the report has the lines of the causes so far.
use Rattle.std.proofs.Common.{◌≡◌, ◌++◌, codes, flat_map, slice_index, string_bytes, take}
use Rattle.napt_records.specs.Counts.{cause_place}
use Rattle.napt_records.specs.Report as model
use Rattle.napt_records.proofs.report.push_drops.Given as goal

abbrev pub invariant-loop-cause : goal.invariant-loop-cause
invariant-loop-cause l =
    string_bytes l.report
    ≡ string_bytes l.fn.report ++ flat_map (λ cause. codes "drop " ++ model.count_line (model.cause_name cause)
    (slice_index l.dropped (cause_place cause))) (take l.cause-index l.causes)

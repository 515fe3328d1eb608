-- report_of: the counts, the cuts and the rows in this order are the report.
use Rattle.std.proofs.Common.{ℕ, List, [], ◌++◌, ◌∙◌, ap, flat_map, string_bytes}
use Rattle.napt_records.specs.Report as model
use Rattle.napt_records.proofs.Texts.{three_pieces}
use Rattle.napt_records.proofs.report.report_of.Goals as goal

pub returns : goal.returns
returns c outcomes are =
    three_pieces [] (model.counts_text outcomes) (model.cuts_text c.args.cut_inside c.args.cut_outside)
    (flat_map model.row_line c.args.bindings.now)
    (string_bytes c.push_counts.new.report) (string_bytes c.push_cuts.new.report) (string_bytes c.push_rows.new.report)
    (c.in_ok-push_counts.ensures outcomes are ∙ ap (λ (text : List ℕ). text ++ model.counts_text outcomes)
    c.new-report.ensures.bytes) c.in_ok-push_cuts.ensures c.in_ok-push_rows.ensures

-- push_counts: the lines of the counts are those of the definition, in its order.
use Rattle.std.proofs.Common.{◌≡◌, ℕ, ◌++◌, ◌∙◌, ap, codes, count_by, flat_map, length, slice_index, string_bytes}
use Rattle.napt_wire.specs.declared.Cause.{Cause}
use Rattle.napt_records.{specs.Counts.cause_place, proofs.Texts.{four_pieces, same_pieces}}
use Rattle.napt_records.specs.Report as model
use Rattle.napt_records.proofs.report.push_counts.Goals as goal

pub returns : goal.returns
returns c outcomes are =
    let drop_lines : flat_map (λ cause. codes "drop " ++ model.count_line (model.cause_name cause)
    (slice_index c.args.counts.now.dropped (cause_place cause))) model.causes
    ≡ flat_map (model.drop_line outcomes) model.causes =
    same_pieces (λ cause. codes "drop " ++ model.count_line (model.cause_name cause)
    (slice_index c.args.counts.now.dropped (cause_place cause))) (model.drop_line outcomes)
    (λ (cause : Cause). ap (λ (count : ℕ). codes "drop " ++ model.count_line (model.cause_name cause) count)
    (are.dropped cause)) model.causes in
    four_pieces (string_bytes c.args.report.now) (model.count_line (codes "packets") (length outcomes))
    (model.count_line (codes "to outside") (count_by model.is_to_outside outcomes))
    (model.count_line (codes "to inside") (count_by model.is_to_inside outcomes))
    (flat_map (model.drop_line outcomes) model.causes)
    (string_bytes c.push_count.new.report) (string_bytes c.push_count-2.new.report)
    (string_bytes c.push_count-3.new.report) (string_bytes c.push_drops.new.report)
    (c.in_ok-push_count.ensures ∙ ap (λ (count : ℕ). string_bytes c.args.report.now
    ++ model.count_line (codes "packets") count) are.packets)
    (c.in_ok-push_count-2.ensures ∙ ap (λ (count : ℕ). string_bytes c.push_count.new.report
    ++ model.count_line (codes "to outside") count) are.to_outside)
    (c.in_ok-push_count-3.ensures ∙ ap (λ (count : ℕ). string_bytes c.push_count-2.new.report
    ++ model.count_line (codes "to inside") count) are.to_inside)
    (c.in_ok-push_drops.ensures ∙ ap (λ (lines : model.ReportText). string_bytes c.push_count-3.new.report
    ++ lines) drop_lines)

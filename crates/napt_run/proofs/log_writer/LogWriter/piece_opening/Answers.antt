-- piece_opening: the time of the last input decides whether a piece begins, and a piece lists the open entries.
use Rattle.std.proofs.Common.{◌≡◌, ◌==◌, cond, sym, ◌∙◌, ap, [], ◌++◌, Some, None, ℕ, Bool, string_bytes}
use Rattle.std.specs.Prelude.{if◌then◌else◌}
use Rattle.napt_account.specs.{LogBuilders.LogBuilderModel, LogParts.kept_at}
use Rattle.napt_log_text.specs.{Logs.{begins_piece, opening_text}, Times.TimeText}
use Rattle.napt_run.specs.RunningLogs.{last_time, left_with}
use Rattle.napt_run.proofs.InputRowWrites.{last_is}
use Rattle.napt_run.proofs.log_writer.LogWriter.piece_opening.Goals.{then-begins_piece+in_ok-kept+in_ok-add_opening, else-begins_piece}
use Rattle.napt_run.proofs.log_writer.LogWriter.piece_opening.Goals as goal

pub returns : goal.returns
returns g c from before at =
    let now : ℕ = c.args.now in
    let last : c.last.result ≡ last_time None before =
    c.last.ensures ∙ (ap (λ (l : LogBuilderModel). cond (l.taken == 0) None (Some l.clock)) at.log
    ∙ last_is from.origin.state.clock before) in
    let begins : c.begins_piece.result ≡ begins_piece from.each (last_time None before) now =
    c.begins_piece.ensures ∙ (λ i. begins_piece (at.each i) (last i) now) in
    let opens : Bool → TimeText = λ b. if b then opening_text from.origin.rules (left_with from before) else [] in
    elim c.if-begins_piece.branch [
      | then-begins_piece+in_ok-kept+in_ok-add_opening w ↦
          let going = ap (λ (l : LogBuilderModel). l.is_stopped) at.log in
          let kept = w.in_ok-kept.ensures going
          ∙ ap (λ (l : LogBuilderModel). kept_at l.clock l.log) at.log in
          let rules = w.config.ensures ∙ ap (λ (l : LogBuilderModel). l.rules) at.log in
          ap string_bytes w.text-is ∙ (w.in_ok-add_opening.ensures
          ∙ ((λ i. c.new-text.ensures.bytes i ++ opening_text (rules i) (kept i))
          ∙ sym (ap opens (sym begins ∙ w.if-begins_piece.true))))
      | else-begins_piece w ↦ ap string_bytes w.text-is ∙ (c.new-text.ensures.bytes
          ∙ sym (ap opens (sym begins ∙ w.if-begins_piece.false)))
    ]

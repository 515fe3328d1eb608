-- rows: the log records the trace, and the text has the rows that this adds, if it adds any.
use Rattle.std.proofs.Common.{◌++◌, append-nil, refl, sym, ◌∙◌, ap}
use Rattle.napt_account.specs.{LogBuilders.{LogBuilderModel, part_in}}
use Rattle.napt_log_text.specs.{Logs.part_rows, Times.TimeText}
use Rattle.napt_run.specs.RunningLogs.{opening_before}
use Rattle.napt_run.proofs.InputRowWrites.{few_more, known_more, part_is}
use Rattle.napt_run.proofs.log_writer.LogWriter.rows.Goals as goal

pub returns-then-is_quiet-clause-rows : goal.returns-then-is_quiet-clause-rows
returns-then-is_quiet-clause-rows g c from before at =
    let going = ap (λ (l : LogBuilderModel). l.is_stopped) at.log in
    let entered = c.in_ok-part.ensures in
    let part = part_is from before c.args.trace c.args.self.now.log at.log (part_in c.in_ok-part.part)
    (entered.tells going) in
    let opening : TimeText = opening_before from before c.args.trace.now in
    record {
      log = known_more from before c.args.trace c.args.self.now.log at.log c.enter.new.self (entered.goes going);
      few = few_more from before c.args.trace c.args.self.now.log at.log (entered.few going);
      output = refl;
      each = refl;
      goes_on = refl;
      rows = c.in_ok-text.ensures from before at ∙ (sym (append-nil opening) ∙ ap (λ (l : TimeText). opening ++ l)
          (ap (part_rows from.origin.rules) (sym (c.is_quiet.ensures c.if-is_quiet.true) ∙ part)));
    }

pub returns-clause-rows : goal.returns-clause-rows
returns-clause-rows g c from before at =
    let going = ap (λ (l : LogBuilderModel). l.is_stopped) at.log in
    let entered = c.in_ok-part.ensures in
    let part = part_is from before c.args.trace c.args.self.now.log at.log (part_in c.in_ok-part.part)
    (entered.tells going) in
    let log = known_more from before c.args.trace c.args.self.now.log at.log c.enter.new.self (entered.goes going) in
    let rules = c.config.ensures ∙ ap (λ (l : LogBuilderModel). l.rules) log in
    record {
      log = log;
      few = few_more from before c.args.trace c.args.self.now.log at.log (entered.few going);
      output = refl;
      each = refl;
      goes_on = refl;
      rows = c.in_ok-add_part.ensures
          ∙ (λ i. c.in_ok-text.ensures from before at i ++ part_rows (rules i) (part i));
    }

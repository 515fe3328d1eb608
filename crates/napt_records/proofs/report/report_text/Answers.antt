-- report_text: the report of the counts is the report of the run.
use Rattle.std.proofs.Common.{◌≡◌, List, IfOk, ◌∙◌, ap, string_bytes, subst}
use Rattle.napt_rules.specs.{declared.{Row.Row, Outcome.Outcome}, Prelude.RunResult}
use Rattle.napt_records.specs.Report as model
use Rattle.napt_records.specs.Report.{report_text}
use Rattle.napt_records.proofs.report.report_text.Goals as goal

pub returns : goal.returns
unfolding report_text
returns c =
    let outcomes : c.deref.result.now ≡ c.args.run.now.outcomes = c.deref.ensures.value
    ∙ ap (λ (run : RunResult). run.outcomes) c.run.view_is in
    let bindings : c.deref-2.result.now ≡ c.args.run.now.bindings = c.deref-2.ensures.value
    ∙ ap (λ (run : RunResult). run.bindings) c.run.view_is in
    let Reports : List Outcome → List Row → Type 0 = λ all rows. IfOk c.report_of.result (λ report. string_bytes report
    ≡ model.report_of c.args.cut_inside c.args.cut_outside all rows) in
    subst (λ (rows : List Row). Reports c.args.run.now.outcomes rows) bindings
    (subst (λ (all : List Outcome). Reports all c.deref-2.result.now) outcomes
    (c.report_of.ensures c.deref.result.now c.counts_of-counts.ensures))

-- make_outputs: the captures in memory and the report are the texts of the definition.
use Rattle.std.proofs.Common.{◌≡◌, IfOk, string_bytes, refl, ap₂, ◌∙◌, subst}
use Rattle.napt_wire.specs.declared.Side.TheVariants as sides
use Rattle.napt_capture.specs.{Contents.CaptureModel, Watched.device_of}
use Rattle.napt_records.specs.{Report.{report_of, report_text}, RecordMerging.merged_inputs}
use Rattle.napt_run.{specs.Captures.arrivals_of, proofs.PassesAll.{kept_text, told_report}}
use Rattle.napt_run.specs.Origins.{GivesState, origin_of, ran_by}
use Rattle.napt_run.proofs.captures.make_outputs.Goals as goal

pub returns-clause-ok : goal.returns-clause-ok
returns-clause-ok g c =
    let origin = origin_of c.args.setting.start in
    let arrivals = arrivals_of c.args.captures in
    let are : c.new-inputs.result ≡ arrivals = c.new-inputs.ensures.merged
    ∙ ap₂ (λ (a b : CaptureModel). merged_inputs a.records b.records) c.inside.view_is c.outside.view_is in
    record {
      to_outside = kept_text origin sides.Outside c.new-inputs.result arrivals (device_of c.new-to_outside.result)
          (device_of c.run_into.new.to_outside) c.into_inner.result
          (c.new-to_outside.ensures.device ∙ c.in_ok-new.ensures) are c.into_inner.ensures
          c.in_ok-counts.ensures.to_outside;
      to_inside = kept_text origin sides.Inside c.new-inputs.result arrivals (device_of c.new-to_inside.result)
          (device_of c.run_into.new.to_inside) c.into_inner-2.result
          (c.new-to_inside.ensures.device ∙ c.in_ok-new-2.ensures) are c.into_inner-2.ensures
          c.in_ok-counts.ensures.to_inside;
      report = told_report origin c.new-inputs.result arrivals c.in_ok-counts.field-0 c.in_ok-counts.field-0.counts
          c.deref.result.now c.inside.inside.cut c.outside.inside.cut (string_bytes c.in_ok-report.report) are
          c.in_ok-counts.ensures.tally refl c.deref.ensures.value
          (λ outcomes counted. subst (λ r. IfOk r (λ report. string_bytes report
          ≡ report_of c.inside.inside.cut c.outside.inside.cut outcomes c.deref.result.now)) c.in_ok-report.was
          (c.report_of.ensures outcomes counted))
          ∙ ap₂ (λ (a b : CaptureModel). report_text a.cut b.cut (ran_by origin arrivals)) c.inside.view_is
          c.outside.view_is;
      leaves = subst (λ l. GivesState origin l c.in_ok-counts.field-0.summary) are c.in_ok-counts.ensures.tally.leaves;
    }

-- A run ends with its report.
use native.Mathlib.Omega.{arith}
use Rattle.std.proofs.lemmas.{Grind.common_steps, Bool.Decides.nat_tests}
use Rattle.std.proofs.Common.{◌≡◌, ◌∙◌, ℕ, ◌+◌, List, Option, Result, Ok, Err, ap, refl, subst}
use Rattle.napt_capture.specs.declared.device.Sink.{Ghosts}
use Rattle.napt_run.specs.Origins.{OriginModel, ran_by}
use Rattle.napt_records.specs.{Counts.AreCountsOf, Report.{report_of, report_text}, declared.{Fault.{Fault, TheVariants.{Capture, Run, Write}}}}
use Rattle.napt_records.specs.declared.Which.TheVariants.{Outside, Inside, Report, Log}
use Rattle.napt_wire.specs.declared.Side.TheVariants as sides
use Rattle.napt_rules.specs.{Prelude.{Arrival}, declared.Outcome.Outcome}
use Rattle.napt_run.specs.{Captures.{failed_readings, failed_writings}, LogLaws.held, Posts.IsBeforeReport, Runs.{IfHeld, IsToldOf}}
use Rattle.napt_run.specs.Streams.{GetsReport, HasRead, IsOfRun, IsReportFault, LeavesInTheEnd, ReportGetsFrom, Reports, ReportsAll}
use Rattle.napt_run.{specs.declared.capture_run.ReportData.ReportData, proofs.BytesAtEnd.IfHeld-all}
use Rattle.napt_sequential.specs.declared.fault.RunFault.TheVariants as faults

-- THE REPORT

abbrev Written : ReportData → Result (Unit {0}) Fault → Option (List ℕ) → Option (List ℕ) → Type 0
Written totals result old new = (outcomes : List Outcome) → AreCountsOf outcomes totals.counts →
    GetsReport (report_of totals.cuts.inside totals.cuts.outside outcomes totals.summary.bindings.items) result old new

text_told : (origin : OriginModel) (totals : ReportData) (inputs : List Arrival) →
    totals.summary.bindings.items ≡ (ran_by origin inputs).bindings →
    report_of totals.cuts.inside totals.cuts.outside (ran_by origin inputs).outcomes totals.summary.bindings.items
    ≡ report_text totals.cuts.inside totals.cuts.outside (ran_by origin inputs)
unfolding report_text
text_told origin totals inputs is = grind (arith, common_steps, nat_tests)

all_reported : (origin : OriginModel) (inside outside : Option (List ℕ)) (old new : Option (List ℕ))
    (totals : ReportData) (result : Result (Unit {0}) Fault) → IsToldOf origin inside outside totals →
    Written totals result old new → IfHeld inside outside (λ all. ReportsAll origin result all old new)
all_reported origin inside outside old new totals result told written =
    held (λ all. all ≡ record { arrivals = told.inputs; end = Ok totals.cuts })
    (λ all. ReportsAll origin result all old new) inside outside (λ all is. rw is (
      totals.cuts,
      refl,
      subst (λ t. GetsReport t result old new) (text_told origin totals told.inputs told.bindings)
          (written (ran_by origin told.inputs).outcomes told.counts),
    )) told.all

reported : (origin : OriginModel) (inside outside : Option (List ℕ)) (old new : Option (List ℕ)) (totals : ReportData)
    (fault : Fault) → IsReportFault fault → IsToldOf origin inside outside totals →
    Written totals (Err fault) old new → Reports origin (Err fault) inside outside old new
reported origin inside outside old new totals (Write Report fault) report told written =
    all_reported origin inside outside old new totals (Err (Write Report fault)) told written
reported origin inside outside old new totals (Run faults.Memory) report told written =
    IfHeld-all (λ all. new ≡ old) inside outside (λ all. written (ran_by origin told.inputs).outcomes told.counts)
reported origin inside outside old new totals other report told written = grind (arith, common_steps, nat_tests)

unreported : (origin : OriginModel) (inside outside : Option (List ℕ)) (old : Option (List ℕ)) (fault : Fault) →
    IsBeforeReport fault → Reports origin (Err fault) inside outside old old
unreported origin inside outside old fault stop = grind (arith, common_steps, nat_tests, IfHeld-all)

none_written : (fault : Fault) → IsBeforeReport fault →
    (let r : Result (Unit {0}) Fault = Err fault in failed_writings Report r ≡ 0)
none_written fault p = grind (arith, common_steps, nat_tests)

module _ {U : Type 0} (S : Ghosts U) (origin : OriginModel) (inside outside : Option (List ℕ)) where
  -- The report was not begun.
  pub report_unbegun : (report : U) (fault : Fault) → IsBeforeReport fault →
      ReportGetsFrom S origin inside outside (Err fault) report report
  report_unbegun report fault stop = record {
    gets = unreported origin inside outside (S.contents report) fault stop;
    count = grind (arith, common_steps, nat_tests, none_written);
    settled = tt;
  }

  module _ (old new : U) (totals : ReportData) (told : IsToldOf origin inside outside totals) where
    -- The report could not be made or written.
    pub report_failed : (fault : Fault) → IsReportFault fault →
        Written totals (Err fault) (S.contents old) (S.contents new) →
        (let r : Result (Unit {0}) Fault = Err fault in S.failed new ≡ S.failed old + failed_writings Report r) →
        ReportGetsFrom S origin inside outside (Err fault) old new
    report_failed fault report written counted = record {
      gets = reported origin inside outside (S.contents old) (S.contents new) totals fault report told written;
      count = counted;
      settled = tt;
    }

    -- The report was written.
    pub report_written : Written totals (Ok tt) (S.contents old) (S.contents new) → S.failed new ≡ S.failed old + 0 →
        S.is_flushed new → ReportGetsFrom S origin inside outside (Ok tt) old new
    report_written written counted flushed = record {
      gets = all_reported origin inside outside (S.contents old) (S.contents new) totals (Ok tt) told written;
      count = counted;
      settled = flushed;
    }

-- The value that gives the state that is left.
pub left_told : (origin : OriginModel) (inside outside : Option (List ℕ)) (totals : ReportData) →
    IsToldOf origin inside outside totals → LeavesInTheEnd origin inside outside totals.summary
left_told origin inside outside totals told = grind (arith, common_steps, nat_tests, held)

-- If the report failed, as many reads failed as before.
pub reads_after : {R Q : Type 0} (of : R → ℕ) (if : Q → ℕ) (old new : R) (other last : Q) (fault : Fault) →
    IsReportFault fault → ((let r : Result (Unit {0}) Fault = Ok tt in (¬ IsOfRun r) →
    HasRead of if old new other last r)) → (let r : Result (Unit {0}) Fault = Err fault in (¬ IsOfRun r) →
    HasRead of if old new other last r)
reads_after of if old new other last (Write Report fault) report reads none =
    let (read, is, ours, theirs) = reads (λ run. run) in (
      Err (Write Report fault),
      refl,
      ours ∙ ap (λ (r : Result (Unit {0}) Fault). of old + failed_readings sides.Inside r) is,
      theirs ∙ ap (λ (r : Result (Unit {0}) Fault). if other + failed_readings sides.Outside r) is,
    )
reads_after of if old new other last (Run faults.Memory) report reads none = absurd (none tt)
reads_after of if old new other last (Run faults.TooMany) report reads none = absurd report
reads_after of if old new other last (Run (faults.Pool fault)) report reads none = absurd report
reads_after of if old new other last (Capture side fault) report reads none = absurd report
reads_after of if old new other last (Write Outside fault) report reads none = absurd report
reads_after of if old new other last (Write Inside fault) report reads none = absurd report
reads_after of if old new other last (Write Log fault) report reads none = absurd report

-- If a run fails at its end, its outputs are the same as after success, and so is its log if the report fails.
use Rattle.std.specs.{Prelude.{◌≡◌, ◌≤◌, ℕ, List, length, take, Option, Some, None, Result, Ok, Err, refl}, Io.KnownBytes.Appends}
use Rattle.std.proofs.Common.{inl, subst, sym}
use Rattle.napt_capture.specs.declared.device.Sink.{Ghosts}
use Rattle.napt_account.specs.Log.{LogModel}
use Rattle.napt_records.specs.{RecordMerging.MergedInputs, declared.{Fault.{Fault, TheVariants.{Capture, Run, Write}}, Which.{Which, TheVariants.{Outside, Inside, Report, Log}}}}
use Rattle.napt_rules.specs.Prelude.{Arrival}
use Rattle.napt_sequential.specs.declared.fault.RunFault.TheVariants.{Memory, TooMany, Pool}
use Rattle.napt_run.specs.{Files.files_until, LogOrigins.LogTexts, Logs.LogPost, Origins.OriginModel, Posts.{ExtentPost, FailedPost, OutputPost, SinkPost, output_text_by}, Runs.IfHeld}
use Rattle.napt_run.specs.{Streams.IsReportFault, declared.log_writer.LogWriter.LogWriter}

pub held : (P Q : MergedInputs → Type 0) (inside outside : Option (List ℕ)) → ((all : MergedInputs) → P all → Q all) →
    IfHeld inside outside P → IfHeld inside outside Q
held P Q None outside more p = p
held P Q (Some bytes) None more p = p
held P Q (Some bytes) (Some others) more p = more (files_until bytes others) p

-- If a run that succeeded fails after that, the text of an output and its number of failed calls are the same.
module _ {D : Type 0} (S : Ghosts D) (texts : LogTexts) (which : Which) (inside outside : Option (List ℕ))
    (old new : D) where
  pub after_success : (result : Result (Unit {0}) Fault) → output_text_by texts result ≡ texts.whole →
      ((all : MergedInputs) (inputs : List Arrival) → ExtentPost which (Ok tt) all inputs (length (texts.whole inputs))
      (length (texts.whole inputs)) → ExtentPost which result all inputs (length (texts.whole inputs))
      (length (texts.whole inputs))) →
      (S.failed new ≡ S.failed old → FailedPost which result (S.failed old) (S.failed new)) →
      SinkPost S texts which inside outside (Ok tt) old new → SinkPost S texts which inside outside result old new
  after_success result is extent failed p = record {
    contents = held (λ all. OutputPost texts which (Ok tt) all (S.contents old) (S.contents new))
        (λ all. OutputPost texts which result all (S.contents old) (S.contents new)) inside outside (λ all has. record {
          inputs = has.inputs;
          front = has.front;
          count = has.count;
          within = subst (λ (t : List Arrival → List ℕ). has.count ≤ length (t has.inputs)) (sym is) has.within;
          appended = subst (λ (t : List Arrival → List ℕ). Appends (S.contents old) (S.contents new)
              (take has.count (t has.inputs))) (sym is) has.appended;
          extent = subst (λ (t : List Arrival → List ℕ). ExtentPost which result all has.inputs has.count
              (length (t has.inputs))) (sym is)
              (subst (λ (n : ℕ). ExtentPost which result all has.inputs n (length (texts.whole has.inputs)))
              (sym has.extent.2) (extent all has.inputs (has.extent.0, has.extent.1, refl)));
        }) p.contents;
    failed = failed p.failed;
    flushed = λ settled. p.flushed tt;
  }

pub log_unreported : {L : Type 0} {S : Ghosts L} (origin : OriginModel) (inside outside : Option (List ℕ))
    (log : LogModel) (fault : Fault) (old new : LogWriter L S) → IsReportFault fault →
    LogPost origin inside outside (Ok log) old new → LogPost origin inside outside (Err fault) old new
log_unreported origin inside outside log (Write Report fault) old new report p = record {
  written = record {
    same = p.written.same;
    post = after_success _ _ Log inside outside _ _ (Err (Write Report fault)) refl (λ all inputs e. e) (λ f. f)
        p.written.post;
  };
  tried = p.tried;
  kept = tt;
  few = p.few;
}
log_unreported origin inside outside log (Run Memory) old new report p = record {
  written = record {
    same = p.written.same;
    post = after_success _ _ Log inside outside _ _ (Err (Run Memory)) refl (λ all inputs e. tt) (λ f. inl f)
        p.written.post;
  };
  tried = p.tried;
  kept = tt;
  few = λ done. absurd done;
}
log_unreported origin inside outside log (Run TooMany) old new report p = absurd report
log_unreported origin inside outside log (Run (Pool fault)) old new report p = absurd report
log_unreported origin inside outside log (Capture side fault) old new report p = absurd report
log_unreported origin inside outside log (Write Outside fault) old new report p = absurd report
log_unreported origin inside outside log (Write Inside fault) old new report p = absurd report
log_unreported origin inside outside log (Write Log fault) old new report p = absurd report

-- An output contains this number of bytes of the text of these inputs at the end of a run.
use Rattle.std.{proofs.{Common.{◌≡◌, ◌∙◌, inl, inr, ℕ, ◌+◌, ◌≤◌, Bool, true, false, List, [], length, take, Option, None, Some, Result, Ok, Err, refl, sym, ap, subst, arith, append-nil, length-append}, Math.Seq.take-append_seam}, specs.{Prelude.IsOk, Io.KnownBytes.Appends}}
use Rattle.napt_capture.specs.{Text.file_header, declared.{device.Sink.Ghosts, fault.WriteFault.WriteFault}}
use Rattle.napt_wire.specs.declared.Side.{Side}
use Rattle.napt_laws.specs.Dispatching.{IsFrontOf}
use Rattle.napt_records.specs.{RecordMerging.MergedInputs, declared.{Fault.{Fault, TheVariants.{Capture, Run, Write}}, Which.{Which, TheVariants.{Outside, Inside, Report, Log}}}}
use Rattle.napt_rules.specs.Prelude.{Arrival}
use Rattle.napt_sequential.specs.declared.fault.RunFault.TheVariants.{Memory, TooMany, Pool}
use Rattle.napt_run.specs.{Files.files_until, LogLaws.after_success, LogOrigins.LogTexts, Origins.OriginModel, Outputs.{OutputBreaks, OutputGrows}}
use Rattle.napt_run.specs.{Posts.{AtMostOneMore, CapturePost, ExtentPost, FailedPost, FailedWrites, FaultPost, IsBeforeReport, IsBegun, IsEndFault, IsTextFault, OutputEnds, OutputPost, SinkPost, WriteExtent, capture_to, output_text_by, text_if}, OutcomeWriters.records_text, Runs.{IfHeld, run_left_of}}
use Rattle.napt_run.{specs.{Streams.{IsOfRun, IsReportFault, IsSettledBy, capture_text, side_of}, declared.output.Output.Output}, proofs.OutcomePrefixes.capture_is}

-- WHAT IS KNOWN OF THE CAPTURES

pub IfHeld-by : (P : MergedInputs → Type 0) (inside outside : Option (List ℕ))
    → ((bytes others : List ℕ) → inside ≡ Some bytes → outside ≡ Some others →
    P (files_until bytes others)) → IfHeld inside outside P
IfHeld-by P None outside p = tt
IfHeld-by P (Some bytes) None p = tt
IfHeld-by P (Some bytes) (Some others) p = p bytes others refl refl

pub IfHeld-all : (P : MergedInputs → Type 0) (inside outside : Option (List ℕ)) →
    ((all : MergedInputs) → P all) → IfHeld inside outside P
IfHeld-all P inside outside all = IfHeld-by P inside outside (λ b o is same. all (files_until b o))

pub IfHeld-both : (P Q R : MergedInputs → Type 0) (inside outside : Option (List ℕ)) →
    ((all : MergedInputs) → P all → Q all → R all) → IfHeld inside outside P → IfHeld inside outside Q →
    IfHeld inside outside R
IfHeld-both P Q R None outside more p q = tt
IfHeld-both P Q R (Some bytes) None more p q = tt
IfHeld-both P Q R (Some bytes) (Some others) more p q = more (files_until bytes others) p q

pub none_held : (inside outside : Option (List ℕ)) → IfHeld inside outside (λ all. IsFrontOf [] all.arrivals)
none_held inside outside = IfHeld-all (λ all. IsFrontOf [] all.arrivals) inside outside (λ all. (all.arrivals, refl))

pub take_whole : (l : List ℕ) → take (length l) l ≡ l
take_whole l = ap (λ (k : List ℕ). take (length l) k) (sym (append-nil l)) ∙ take-append_seam l []

-- AN OUTPUT

module _ {D : Type 0} {S : Ghosts D} (texts : LogTexts) (which : Which) (inside outside : Option (List ℕ))
    (result : Result (Unit {0}) Fault) (old new : Output D S) (inputs : List Arrival) (text : List ℕ)
    (is : output_text_by texts result inputs ≡ text)
    (front : IfHeld inside outside (λ all. IsFrontOf inputs all.arrivals)) where
  abbrev pub Extent : ℕ → MergedInputs → Type 0
  Extent count all = ExtentPost which result all inputs count (length text)

  abbrev Failed : Type 0
  Failed = FailedPost which result (S.failed old.device.now) (S.failed new.device.now)

  ends_if : (count : ℕ) → count ≤ length text →
      Appends (S.contents old.device.now) (S.contents new.device.now) (take count text) →
      IfHeld inside outside (Extent count) → new.device.ghost_name ≡ old.device.ghost_name → Failed →
      (IsSettledBy result → S.is_flushed new.device.now) → OutputEnds texts which inside outside result old new
  ends_if count within appended extent same failed flushed = record {
    same = same;
    post = record {
      contents = IfHeld-both (λ all. IsFrontOf inputs all.arrivals) (Extent count)
          (λ all. OutputPost texts which result all (S.contents old.device.now) (S.contents new.device.now))
          inside outside (λ all f e. record {
            inputs = inputs;
            front = f;
            count = count;
            within = subst (λ (l : List ℕ). count ≤ length l) (sym is) within;
            appended = subst (λ (l : List ℕ). Appends (S.contents old.device.now) (S.contents new.device.now)
                (take count l)) (sym is) appended;
            extent = subst (λ (l : List ℕ). ExtentPost which result all inputs count (length l)) (sym is) e;
          }) front extent;
      failed = failed;
      flushed = flushed;
    };
  }

  pub ends : (count : ℕ) → count ≤ length text →
      Appends (S.contents old.device.now) (S.contents new.device.now) (take count text) →
      ((all : MergedInputs) → Extent count all) → new.device.ghost_name ≡ old.device.ghost_name → Failed →
      (IsSettledBy result → S.is_flushed new.device.now) → OutputEnds texts which inside outside result old new
  ends count within appended extent =
      ends_if count within appended (IfHeld-all (Extent count) inside outside extent)

  -- All of the text was written.
  pub grown_if : OutputGrows old text new → IfHeld inside outside (Extent (length text)) →
      (S.failed new.device.now ≡ S.failed old.device.now → Failed) →
      (IsSettledBy result → S.is_flushed new.device.now) →
      OutputEnds texts which inside outside result old new
  grown_if p extent failed flushed =
      ends_if (length text) (omega arith) (subst (λ (l : List ℕ). Appends (S.contents old.device.now)
      (S.contents new.device.now) l) (sym (take_whole text)) p.appended) extent p.same (failed p.kept) flushed

  pub grown : OutputGrows old text new → ((all : MergedInputs) → Extent (length text) all) →
      (S.failed new.device.now ≡ S.failed old.device.now → Failed) →
      (IsSettledBy result → S.is_flushed new.device.now) →
      OutputEnds texts which inside outside result old new
  grown p extent = grown_if p (IfHeld-all (Extent (length text)) inside outside extent)

  -- Otherwise some first bytes of it were written, and a call failed.
  pub broken : (fault : WriteFault) (p : OutputBreaks old text fault new) →
      ((all : MergedInputs) → Extent p.count all) →
      (S.failed new.device.now ≡ S.failed old.device.now + 1 → Failed) → (IsSettledBy result → ⊥) →
      OutputEnds texts which inside outside result old new
  broken fault p extent failed never =
      ends p.count p.within p.appended extent p.same (failed p.failed_once) (λ settled. absurd (never settled))

-- The device of an output, as the output leaves it.
pub of_device : {D : Type 0} {S : Ghosts D} (texts : LogTexts) (which : Which) (inside outside : Option (List ℕ))
    (result : Result (Unit {0}) Fault) (old new : Output D S) → OutputEnds texts which inside outside result old new →
    (start last : D) → old.device.now ≡ start →
    (new.device.ghost_name ≡ old.device.ghost_name → last ≡ new.device.now) →
    SinkPost S texts which inside outside result start last
of_device texts which inside outside result old new p start last from at = rw (at p.same, sym from) p.post

-- A CAPTURE

-- The text of a capture is the same whether or not the run came to its end.
pub same_text : (origin : OriginModel) (which : Which) (whole : Bool) (inputs : List Arrival) →
    text_if whole (capture_to which origin) inputs ≡ capture_text origin (side_of which) inputs
same_text origin which true inputs = refl
same_text origin which false inputs = refl

pub headed : (origin : OriginModel) (side : Side) (inputs : List Arrival) →
    length file_header ≤ length (capture_text origin side inputs)
headed origin side inputs = subst (λ (l : List ℕ). length file_header ≤ length l) (capture_is origin side inputs)
    (omega (arith, length-append file_header (records_text side (run_left_of origin inputs))))

-- All of it, if the run succeeds.
pub all_of : (origin : OriginModel) (which : Which) (all : MergedInputs) (old new : Option (List ℕ)) →
    OutputPost (capture_to which origin) which (Ok tt) all old new →
    IsOk all.end × Appends old new (capture_text origin (side_of which) all.arrivals)
all_of origin which all old new p = (
  p.extent.0,
  subst (λ (inputs : List Arrival). Appends old new (capture_text origin (side_of which) inputs)) p.extent.1
      (subst (λ (l : List ℕ). Appends old new l) (take_whole (capture_text origin (side_of which) p.inputs))
      (subst (λ (n : ℕ). Appends old new (take n (capture_text origin (side_of which) p.inputs))) p.extent.2
      p.appended)),
)

-- A fault of another output, or of the run, explains the text of a capture.
pub record IsCapture (which : Which) : Type 0 where
  pub begun : (count : ℕ) → length file_header ≤ count → IsBegun which count
  pub log_extent : (fault : WriteFault) (count size : ℕ) → IsBegun which count → WriteExtent which Log fault count size
  pub log_failed : (old new : ℕ) → AtMostOneMore old new → FailedWrites which Log old new
  pub report_failed : (old new : ℕ) → new ≡ old → FailedWrites which Report old new

pub outside_is : IsCapture Outside
outside_is = record {
  begun = λ count p. p;
  log_extent = λ fault count size p. p;
  log_failed = λ old new p. p;
  report_failed = λ old new p. p;
}

pub inside_is : IsCapture Inside
inside_is = record {
  begun = λ count p. p;
  log_extent = λ fault count size p. p;
  log_failed = λ old new p. p;
  report_failed = λ old new p. p;
}

-- WHERE THE END OF A RUN FAILED

module _ {D : Type 0} (S : Ghosts D) (origin : OriginModel) (inside outside : Option (List ℕ)) (which : Which)
    (of : IsCapture which) (old new : D) where
  abbrev Ended : Result (Unit {0}) Fault → Type 0
  Ended result = SinkPost S (capture_to which origin) which inside outside result old new

  begun_whole : (inputs : List Arrival) → IsBegun which (length (capture_text origin (side_of which) inputs))
  begun_whole inputs = of.begun _ (headed origin (side_of which) inputs)

  pub capture_ended : (fault : Fault) → IsEndFault fault → Ended (Ok tt) → Ended (Err fault)
  capture_ended (Write Report fault) end p =
      after_success S _ which inside outside old new (Err (Write Report fault)) refl
      (λ all inputs e. e) (of.report_failed _ _) p
  capture_ended (Write Log fault) end p = after_success S _ which inside outside old new (Err (Write Log fault)) refl
      (λ all inputs e. of.log_extent fault _ _ (begun_whole inputs)) (λ f. of.log_failed _ _ (inl f)) p
  capture_ended (Run Memory) end p = after_success S _ which inside outside old new (Err (Run Memory)) refl
      (λ all inputs e. begun_whole inputs) (λ f. inl f) p
  capture_ended (Run TooMany) end p = absurd end
  capture_ended (Run (Pool fault)) end p = absurd end
  capture_ended (Capture side fault) end p = absurd end
  capture_ended (Write Outside fault) end p = absurd end
  capture_ended (Write Inside fault) end p = absurd end

  pub post_ended : (is_kept : Bool) (fault : Fault) → IsEndFault fault →
      CapturePost S is_kept which origin inside outside (Ok tt) old new →
      CapturePost S is_kept which origin inside outside (Err fault) old new
  post_ended is_kept fault end (inl p) = inl (capture_ended fault end p)
  post_ended is_kept fault end (inr p) = absurd p.1

-- A text of the log could not be made or written.
pub record OfText (is_kept open_gate : Bool) (inside outside : Option (List ℕ)) (fault : Fault) : Type 0 where
  pub kept : is_kept ≡ true
  pub explained : FaultPost is_kept open_gate inside outside fault
  pub end : IsEndFault fault
  pub of_run : let result : Result (Unit {0}) Fault = Err fault in IsOfRun result
  pub before : IsBeforeReport fault

module _ (is_kept open_gate : Bool) (inside outside : Option (List ℕ)) where
  pub of_text : (fault : Fault) → IsTextFault is_kept fault → OfText is_kept open_gate inside outside fault
  of_text (Write Log fault) p = record {
    kept = p;
    explained = record { explained = p; gate = λ is. refl };
    end = tt;
    of_run = tt;
    before = tt;
  }
  of_text (Run Memory) p = record {
    kept = p;
    explained = record { explained = tt; gate = λ is. refl };
    end = tt;
    of_run = tt;
    before = tt;
  }
  of_text (Run TooMany) p = absurd p
  of_text (Run (Pool fault)) p = absurd p
  of_text (Capture side fault) p = absurd p
  of_text (Write Outside fault) p = absurd p
  of_text (Write Inside fault) p = absurd p
  of_text (Write Report fault) p = absurd p

  -- Otherwise the report could not be made or written.
  pub of_report : (fault : Fault) → IsReportFault fault →
      IsEndFault fault × FaultPost is_kept open_gate inside outside fault
  of_report (Write Report fault) p = (tt, record { explained = tt; gate = λ is. refl })
  of_report (Run Memory) p = (tt, record { explained = tt; gate = λ is. refl })
  of_report (Run TooMany) p = absurd p
  of_report (Run (Pool fault)) p = absurd p
  of_report (Capture side fault) p = absurd p
  of_report (Write Outside fault) p = absurd p
  of_report (Write Inside fault) p = absurd p
  of_report (Write Log fault) p = absurd p

-- The outputs took all that left during a run, and the log recorded it.
use Rattle.std.proofs.lemmas.{Grind.common_steps, Bool.Decides.nat_tests, List.map-append}
use Rattle.std.proofs.Common.{◌≡◌, ◌⊎◌, inl, inr, ℕ, Bool, List, [], ◌∷◌, ◌++◌, length, map, Option, Some, None, Result, Ok, Err, refl, sym, ◌∙◌, ap, subst, arith, append_assoc}
use Rattle.napt_wire.specs.declared.Side.{Side}
use Rattle.napt_capture.specs.declared.device.Sink as sink
use Rattle.napt_capture.specs.declared.device.Source as source
use Rattle.napt_capture.specs.declared.fault.CaptureFault.{CaptureFault}
use Rattle.napt_run.specs.Origins.{OriginModel, ran_by}
use Rattle.napt_dispatch.specs.{Dispatch.{input_results, input_result}, RunsThrough.{HasCome, timed_results}, declared.{outcome_sink.InputResult.InputResult, faults.PassFault.PassFault}}
use Rattle.napt_dispatch.specs.declared.workers.RunSummary.{RunSummary}
use Rattle.napt_dispatch.specs.RunsThrough as passing
use Rattle.napt_dispatch.specs.declared.faults.PassFault.TheVariants as pass_faults
use Rattle.napt_laws.specs.Dispatching.{IsFrontOf}
use Rattle.napt_records.specs.{NewStreams.IsMergerNew, StreamMergers.{MergeEndsWith, HandsOutInputs}, declared.{Fault.{Fault, TheVariants.{Capture, Run, Write}}, Which.TheVariants.{Outside, Inside, Report, Log}}}
use Rattle.napt_records.specs.declared.stream_merger.{StreamMerger.StreamMerger, SideFault.SideFault}
use Rattle.napt_rules.specs.Prelude.{Arrival}
use Rattle.napt_sequential.specs.declared.{outcome.StepResult.StepResult, passage.{Passage.Passage, Trace.Trace}}
use Rattle.napt_sequential.proofs.StepsInOrder.{steps_long, steps_outcomes, steps_traces}
use Rattle.napt_run.specs.{OutcomeWriters.{FailsToBegin, SinkTakes, TimedOutcome}, LogRuns.{EntersFront, LogFailsOver, Legs, LogsTo, legs_told}}
use Rattle.napt_run.specs.LoggedOutcomeWriters.{AreSettled, FailsEither, FailsLog, FailsOutput, IsSameSinkPlace, TakesBoth, legs_in, outcomes_in}
use Rattle.napt_run.specs.CaptureRuns.{EntersBy, EntersFirst, EntersOr, EntersTo, FailsAfter, FailsFirst, PassesBy, PassesOr, RunPassesHalted, RunPassesTo}
use Rattle.napt_run.specs.{Posts.IsBeforeReport, Runs.{IfHeld, run_left_of}, declared.{capture_run.ReportData.ReportData, outcome_writer.OutcomeWriter.OutcomeWriter, logged_outcome_writer.LoggedOutcomeWriter.LoggedOutcomeWriter}}
use Rattle.napt_run.proofs.{AfterHeaders.{Refuses, fault_of, front, refused_held, taken_of, whole_is}, BytesAtEnd.none_held, OutcomePrefixes.outcomes_of, TracePrefixes.{TraceFront, trace_front}}

-- WHAT LEAVES

module _ {P : Type 0} (tells : Passage → P) where
  abbrev legs_of : Trace → Legs P
  legs_of trace = (trace.now, tells trace.first, tells trace.second)

  abbrev Goes : OriginModel → List Arrival → List (ℕ × InputResult P)
  Goes origin inputs = timed_results inputs (input_results tells origin.rules origin.state inputs)

  timed_outcomes : (inputs : List Arrival) (all : List StepResult) →
      outcomes_in (timed_results inputs (map (input_result tells) all))
      ≡ timed_results inputs (map (λ s. s.outcome) all)
  timed_outcomes [] all = refl
  timed_outcomes (input ∷ inputs) [] = refl
  timed_outcomes (input ∷ inputs) (step ∷ all) = grind (arith, common_steps, nat_tests, timed_outcomes inputs all)

  timed_legs : (inputs : List Arrival) (all : List StepResult) → length all ≡ length inputs →
      legs_in (timed_results inputs (map (input_result tells) all)) ≡ map legs_of (map (λ s. s.trace) all)
  timed_legs [] [] same = refl
  timed_legs [] (step ∷ all) same = absurd (omega (arith, same))
  timed_legs (input ∷ inputs) [] same = absurd (omega (arith, same))
  timed_legs (input ∷ inputs) (step ∷ all) same =
      ap (λ (l : List (Legs P)). legs_of step.trace ∷ l) (timed_legs inputs all (omega (arith, same)))

  outcomes_left : (origin : OriginModel) (inputs : List Arrival) →
      outcomes_in (Goes origin inputs) ≡ run_left_of origin inputs
  outcomes_left origin inputs = grind (arith, common_steps, nat_tests, timed_outcomes, steps_outcomes, outcomes_of)

  legs_left : (origin : OriginModel) (inputs : List Arrival) →
      legs_in (Goes origin inputs) ≡ legs_told tells origin inputs
  legs_left origin inputs = grind (arith, common_steps, nat_tests, timed_legs, steps_long, steps_traces)

  outcomes_front : (origin : OriginModel) (inputs : List Arrival) (went : List (ℕ × InputResult P)) →
      IsFrontOf went (Goes origin inputs) → IsFrontOf (outcomes_in went) (run_left_of origin inputs)
  outcomes_front origin inputs went (rest, is) = (
    outcomes_in rest,
    sym (map-append (λ left. let t : TimedOutcome = (left.0, left.1.outcome) in t) went rest)
        ∙ (ap (λ l. outcomes_in l) is ∙ outcomes_left origin inputs),
  )

  legs_front : (origin : OriginModel) (inputs : List Arrival) (went : List (ℕ × InputResult P)) →
      IsFrontOf went (Goes origin inputs) → TraceFront legs_of origin inputs (legs_in went)
  legs_front origin inputs went (rest, is) =
      trace_front legs_of origin inputs (legs_in went) (legs_in rest)
      (sym (map-append (λ left. let l : Legs P = (left.1.now, left.1.first, left.1.second) in l) went rest)
      ∙ (ap (λ l. legs_in l) is ∙ legs_left origin inputs))

-- A RUN

module _ {P A F W V K : Type 0} {S : sink.Ghosts W} {T : sink.Ghosts V} (tells : Passage → P) (origin : OriginModel)
    (hands : A → List Arrival → A → Type 0) (ends : A → Option F → A → Type 0)
    (enters : K → List (Legs P) → K → Type 0) (fails : K → List (Legs P) → Fault → K → Type 0) (is_settled : K → Type 0)
    (more : (x y z : K) (xs ys : List (Legs P)) → enters x xs y → enters y ys z → enters x (xs ++ ys) z)
    (fails_more : (x y z : K) (xs ys : List (Legs P)) (fault : Fault) → enters x xs y → fails y ys fault z →
    fails x (xs ++ ys) fault z) (from : A) (before : LoggedOutcomeWriter W V K S T) (left : A)
    (after : LoggedOutcomeWriter W V K S T) where
  abbrev Told : Option F → Type 0
  Told end = passing.RunThroughEnd tells origin.rules origin.state hands ends (TakesBoth enters)
      (FailsEither enters fails)
      (AreSettled is_settled) from before left after end

  abbrev Halted : Type 0
  Halted = passing.RunThroughErr tells origin.rules origin.state hands ends (TakesBoth enters)
      (FailsEither enters fails)
      (AreSettled is_settled) from before left after

  abbrev pub RunPasses : Result RunSummary (PassFault F Fault) → Type 0
  RunPasses result = passing.RunThroughPost tells origin.rules origin.state hands ends (TakesBoth enters)
      (FailsEither enters fails)
      (AreSettled is_settled) from before left after result

  abbrev First : Type 0
  First = EntersFirst tells origin hands ends enters fails is_settled from before.log.now left after.log.now

  abbrev FailedFirst : Fault → Type 0
  FailedFirst fault =
      FailsFirst tells origin hands ends enters fails is_settled from before.log.now left after.log.now fault

  passes_to : (end : Option F) → Told end → RunPassesTo origin hands ends from before.leaving left after.leaving end
  passes_to end p = grind (arith, common_steps, nat_tests, outcomes_left)

  enters_to : (end : Option F) → Told end →
      EntersTo tells origin hands ends enters fails is_settled from before.log.now left after.log.now end
  enters_to end p = grind (arith, common_steps, nat_tests, legs_left)

  -- The first of the outcomes that leave have left.
  module _ (inputs : List Arrival) (went : List (ℕ × InputResult P)) (come : HasCome hands ends from inputs left)
      (front : IsFrontOf went (Goes tells origin inputs)) where
    enters_first : enters before.log.now (legs_in went) after.log.now → First
    enters_first entered =
        let f : TraceFront (legs_of tells) origin inputs (legs_in went) = legs_front tells origin inputs went front in
        record {
          first = f.first;
          later = f.later;
          come = subst (λ (l : List Arrival). HasCome hands ends from l left) (sym f.whole) come;
          entered = subst (λ (l : List (Legs P)). enters before.log.now l after.log.now) f.went_is entered;
        }

    -- Otherwise a fault came meanwhile.
    module _ (fault : Fault)
        (f : passing.DeparturesFail (TakesBoth enters) (FailsEither enters fails) before went fault after) where
      legs_join : legs_in f.first ++ legs_in f.others ≡ legs_in went
      legs_join = sym (ap (λ (l : List (ℕ × InputResult P)). legs_in l) f.went_is
          ∙ map-append (λ left. let l : Legs P = (left.1.now, left.1.first, left.1.second) in l) f.first f.others)

      -- An output failed, and all traces were entered in the log.
      output_failed : FailsOutput enters f.middle f.others fault after →
          FailsAfter before.leaving (outcomes_in went) fault after.leaving × First
      output_failed o = (
        record {
          first = outcomes_in f.first;
          others = outcomes_in f.others;
          middle = f.middle.leaving;
          went_is = ap (λ (l : List (ℕ × InputResult P)). outcomes_in l) f.went_is
              ∙ map-append (λ left. let t : TimedOutcome = (left.0, left.1.outcome) in t) f.first f.others;
          took = f.took.took;
          failed = o.failed;
        },
        enters_first (subst (λ (l : List (Legs P)). enters before.log.now l after.log.now) legs_join
            (more before.log.now f.middle.log.now after.log.now (legs_in f.first) (legs_in f.others) f.took.entered
            o.entered)),
      )

      -- The log failed, and the outputs have what left before.
      log_failed : FailsLog fails f.middle f.others fault after →
          RunPassesHalted origin hands ends from before.leaving left after.leaving × FailedFirst fault
      log_failed l =
          let g : TraceFront (legs_of tells) origin inputs (legs_in went) =
          legs_front tells origin inputs went front in (
            record {
              inputs = inputs;
              went = outcomes_in f.first;
              come = come;
              front = outcomes_front tells origin inputs f.first (
                f.others ++ front.0,
                sym (append_assoc f.first f.others front.0)
                    ∙ (ap (λ (l : List (ℕ × InputResult P)). l ++ front.0) (sym f.went_is) ∙ front.1),
              );
              took = inl (subst (λ (x : OutcomeWriter W V S T). SinkTakes before.leaving (outcomes_in f.first) x)
                  (sym l.kept)
                  f.took.took);
            },
            record {
              first = g.first;
              later = g.later;
              come = subst (λ (l : List Arrival). HasCome hands ends from l left) (sym g.whole) come;
              of_log = l.of_log;
              failed = subst (λ (l : List (Legs P)). fails before.log.now l fault after.log.now) (legs_join ∙ g.went_is)
                  (fails_more before.log.now f.middle.log.now after.log.now (legs_in f.first) (legs_in f.others) fault
                  f.took.entered l.failed);
            },
          )

      same_failed : IsSameSinkPlace before after
      same_failed = elim f.failed [
        | inl o ↦ o.same ∙ f.took.same
        | inr l ↦ l.same ∙ f.took.same
      ]

  abbrev Both : Type 0
  Both = RunPassesHalted origin hands ends from before.leaving left after.leaving
      × (First ⊎ ((fault : Fault) × FailedFirst fault))

  halted_by : (p : Halted) (fault : Fault)
      (f : passing.DeparturesFail (TakesBoth enters) (FailsEither enters fails) before p.went fault after) → Both
  halted_by p fault f = elim f.failed [
    | inl o ↦ let both = output_failed p.inputs p.went p.come p.front fault f o in (
      record {
        inputs = p.inputs;
        went = outcomes_in p.went;
        come = p.come;
        front = outcomes_front tells origin p.inputs p.went p.front;
        took = inr (fault, both.0);
      },
      inl both.1,
    )
    | inr l ↦ let both = log_failed p.inputs p.went p.come p.front fault f l in (both.0, inr (fault, both.1))
  ]

  halted : (p : Halted) → Both
  halted p = elim p.took [
    | inl took ↦ (
      record {
        inputs = p.inputs;
        went = outcomes_in p.went;
        come = p.come;
        front = outcomes_front tells origin p.inputs p.went p.front;
        took = inl took.took;
      },
      inl (enters_first p.inputs p.went p.come p.front took.entered),
    )
    | inr failed ↦ halted_by p failed.0 failed.1
  ]

  pub passes_by : (result : Result RunSummary (PassFault F Fault)) → RunPasses result →
      PassesBy origin hands ends from before.leaving left after.leaving result
  unfolding passes_to ran_by
  passes_by (Ok summary) p = record { whole = passes_to None p.whole; bindings = p.bindings; leaves = p.leaves }
  passes_by (Err (pass_faults.Arrival fault)) p = passes_to (Some fault) p
  passes_by (Err (pass_faults.Departure fault)) p = elim p.failed.failed [
    | inl o ↦ inl (
      o.of_output,
      record {
        inputs = p.inputs;
        went = outcomes_in p.went;
        come = p.come;
        front = outcomes_front tells origin p.inputs p.went p.front;
        failed = (output_failed p.inputs p.went p.come p.front fault p.failed o).0;
      },
    )
    | inr l ↦ inr (l.of_log, (log_failed p.inputs p.went p.come p.front fault p.failed l).0)
  ]
  passes_by (Err (pass_faults.Run fault)) p = (halted p).0

  pub enters_by : (result : Result RunSummary (PassFault F Fault)) → RunPasses result →
      EntersBy tells origin hands ends enters fails is_settled from before.log.now left after.log.now result
  enters_by (Ok summary) p = enters_to None p.whole
  enters_by (Err (pass_faults.Arrival fault)) p = enters_to (Some fault) p
  enters_by (Err (pass_faults.Departure fault)) p = elim p.failed.failed [
    | inl o ↦ inl (o.of_output, (output_failed p.inputs p.went p.come p.front fault p.failed o).1)
    | inr l ↦ inr (log_failed p.inputs p.went p.come p.front fault p.failed l).1
  ]
  enters_by (Err (pass_faults.Run fault)) p = (halted p).1

  -- WHERE THE OUTPUTS ARE LEFT

  pub same_place : (result : Result RunSummary (PassFault F Fault)) → RunPasses result →
      IsSameSinkPlace before after
  same_place result p = grind (arith, common_steps, nat_tests, same_failed)

-- OVER CAPTURES

module _ {R Q W V P K : Type 0} {G : source.Ghosts R} {H : source.Ghosts Q} {S : sink.Ghosts W} {T : sink.Ghosts V}
    (tells : Passage → P) (enters : K → List (Legs P) → K → Type 0) (fails : K → List (Legs P) → Fault → K → Type 0)
    (is_settled : K → Type 0) (open_gate : Bool) (origin : OriginModel) (from : StreamMerger R Q G H)
    (before : OutcomeWriter W V S T) (left : StreamMerger R Q G H) (after : OutcomeWriter W V S T) (old new : K) where
  abbrev By : Result RunSummary (PassFault SideFault Fault) → Type 0
  By result = EntersBy tells origin HandsOutInputs MergeEndsWith enters fails is_settled from old left new result

  abbrev Or : Result ReportData Fault → Type 0
  Or result = EntersOr open_gate tells origin HandsOutInputs MergeEndsWith enters fails is_settled from old left new
      result

  abbrev Outputs : Result RunSummary (PassFault SideFault Fault) → Type 0
  Outputs result = PassesBy origin HandsOutInputs MergeEndsWith from before left after result

  -- An output or the log reported this fault.
  pub departed : (fault : Fault) → Outputs (Err (pass_faults.Departure fault)) →
      By (Err (pass_faults.Departure fault)) →
      PassesOr origin from before left after (Err fault) × Or (Err fault)
  departed (Write Outside fault) (inl p) (inl e) = (p.1, e.1)
  departed (Write Outside fault) (inl p) (inr e) = absurd e.of_log
  departed (Write Outside fault) (inr p) e = absurd p.0
  departed (Write Inside fault) (inl p) (inl e) = (p.1, e.1)
  departed (Write Inside fault) (inl p) (inr e) = absurd e.of_log
  departed (Write Inside fault) (inr p) e = absurd p.0
  departed (Write Log fault) (inl p) e = absurd p.0
  departed (Write Log fault) (inr p) (inl e) = absurd e.0
  departed (Write Log fault) (inr p) (inr e) = (p.1, e)
  departed (Run fault) (inl p) e = absurd p.0
  departed (Run fault) (inr p) (inl e) = absurd e.0
  departed (Run fault) (inr p) (inr e) = (p.1, inr e)
  departed (Write Report fault) (inl p) e = absurd p.0
  departed (Write Report fault) (inr p) e = absurd p.0
  departed (Capture side fault) (inl p) e = absurd p.0
  departed (Capture side fault) (inr p) e = absurd p.0

  module _ (bytes others : Option (List ℕ))
      (begun : (b o : List ℕ) → bytes ≡ Some b → others ≡ Some o → IsMergerNew from b o) where
    held_front : (first later : List Arrival) → HasCome HandsOutInputs MergeEndsWith from (first ++ later) left →
        IfHeld bytes others (λ all. IsFrontOf first all.arrivals)
    held_front first later (inl handed) = front from left bytes others begun (first ++ later) first later left refl
        handed
    held_front first later (inr (end, came)) =
        front from left bytes others begun (first ++ later) first later came.last refl came.handed

    enters_front : EntersFirst tells origin HandsOutInputs MergeEndsWith enters fails is_settled from old left new →
        EntersFront tells origin enters fails is_settled bytes others old new
    enters_front e = record { inputs = e.first; front = held_front e.first e.later e.come; entered = e.entered }

    fails_over : (fault : Fault) → FailsFirst tells origin HandsOutInputs MergeEndsWith enters fails is_settled from old
        left new fault →
        LogFailsOver tells origin enters fails is_settled bytes others old new fault
    fails_over fault e = record {
      inputs = e.first;
      front = held_front e.first e.later e.come;
      of_log = e.of_log;
      failed = e.failed;
    }

    pub logs_to : (result : Result ReportData Fault) → PassesOr origin from before left after result → Or result →
        LogsTo tells origin enters fails is_settled bytes others old new open_gate result
    logs_to (Ok totals) p e = record {
      inputs = e.inputs;
      all = whole_is from left bytes others begun e.inputs totals.cuts e.came p.cut_inside p.cut_outside;
      entered = e.entered;
      settled = e.settled;
    }
    logs_to (Err (Capture side fault)) p e =
        let refuses = refused_held from left bytes others begun side fault e.inputs e.came in
        record {
          inputs = e.inputs;
          taken = taken_of side fault e.inputs bytes others refuses;
          is_fault = fault_of side fault e.inputs bytes others refuses;
          entered = e.entered;
          settled = e.settled;
        }
    logs_to (Err (Write Outside fault)) p e = enters_front e
    logs_to (Err (Write Inside fault)) p e = enters_front e
    logs_to (Err (Write Report fault)) p e = absurd e
    logs_to (Err (Write Log fault)) p e = fails_over (Write Log fault) e
    logs_to (Err (Run fault)) p (inl (under, inl entered)) = inl (under, inl (enters_front entered))
    logs_to (Err (Run fault)) p (inl (under, inr (other, failed))) = inl (under, inr (other, fails_over other failed))
    logs_to (Err (Run fault)) p (inr failed) = inr (fails_over (Run fault) failed)

-- BEFORE ANY INPUT

module _ {P K : Type 0} (tells : Passage → P) (open_gate : Bool) (origin : OriginModel)
    (enters : K → List (Legs P) → K → Type 0) (fails : K → List (Legs P) → Fault → K → Type 0) (is_settled : K → Type 0)
    (inside outside : Option (List ℕ)) (it : K) (none : enters it [] it) where
  abbrev Untouched : Fault → Type 0
  Untouched fault = LogsTo tells origin enters fails is_settled inside outside it it open_gate (Err fault)

  -- The headers of the outputs could not be written.
  pub unbegun_logs : {W V : Type 0} {S : sink.Ghosts W} {T : sink.Ghosts V} (old new : OutcomeWriter W V S T)
      (fault : Fault) → FailsToBegin old fault new → Untouched fault
  unbegun_logs old new (Write Outside fault) p =
      record { inputs = []; front = none_held inside outside; entered = none }
  unbegun_logs old new (Write Inside fault) p = record { inputs = []; front = none_held inside outside; entered = none }
  unbegun_logs old new (Write Report fault) p = absurd p
  unbegun_logs old new (Write Log fault) p = absurd p
  unbegun_logs old new (Capture side fault) p = absurd p
  unbegun_logs old new (Run fault) p = absurd p

  -- A header of a capture was refused.
  pub unread_logs : is_settled it → (side : Side) (fault : CaptureFault) →
      IfHeld inside outside (λ all. Refuses side fault all []) → Untouched (Capture side fault)
  unread_logs settled side fault refuses = record {
    inputs = [];
    taken = taken_of side fault [] inside outside refuses;
    is_fault = fault_of side fault [] inside outside refuses;
    entered = none;
    settled = settled;
  }

-- The report is not written yet.
pub before_report : {P K : Type 0} (tells : Passage → P) (open_gate : Bool) (origin : OriginModel)
    (enters : K → List (Legs P) → K → Type 0) (fails : K → List (Legs P) → Fault → K → Type 0) (is_settled : K → Type 0)
    (inside outside : Option (List ℕ)) (old new : K) (fault : Fault) →
    LogsTo tells origin enters fails is_settled inside outside old new open_gate (Err fault) → IsBeforeReport fault
before_report tells open_gate origin enters fails is_settled inside outside old new (Write Report fault) p = absurd p
before_report tells open_gate origin enters fails is_settled inside outside old new (Write Outside fault) p = tt
before_report tells open_gate origin enters fails is_settled inside outside old new (Write Inside fault) p = tt
before_report tells open_gate origin enters fails is_settled inside outside old new (Write Log fault) p = tt
before_report tells open_gate origin enters fails is_settled inside outside old new (Capture side fault) p = tt
before_report tells open_gate origin enters fails is_settled inside outside old new (Run fault) p = tt

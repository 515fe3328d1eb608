-- The effect of a run, from arrivals to departures, on its outputs and its log, by its result.
use Rattle.std.specs.Prelude.{◌≡◌, ◌⊎◌, ◌^◌, ◌<◌, Bool, List, ◌++◌, length, Option, None, Some, Result, Ok, Err}
use Rattle.napt_capture.specs.declared.device.Sink as sink
use Rattle.napt_capture.specs.declared.device.Source as source
use Rattle.napt_run.specs.Origins.{GivesState, OriginModel, ran_by}
use Rattle.napt_dispatch.specs.{Dispatch.IsFaultUnder, RunsThrough.HasCome, declared.{faults.PassFault.PassFault, workers.RunSummary.RunSummary}}
use Rattle.napt_dispatch.specs.declared.faults.PassFault.TheVariants as pass_faults
use Rattle.napt_laws.specs.Dispatching.{IsFrontOf}
use Rattle.napt_records.specs.{StreamMergers.{MergeEndsWith, HandsOutInputs, cut_of}, declared.{Fault.{Fault, TheVariants.{Capture, Run, Write}}, Which.TheVariants.{Outside, Inside, Report, Log}}}
use Rattle.napt_records.specs.declared.stream_merger.{StreamMerger.StreamMerger, SideFault.SideFault}
use Rattle.napt_rules.specs.Prelude.{Arrival}
use Rattle.napt_sequential.specs.{Inputs.InputsCame, declared.passage.Passage.Passage}
use Rattle.napt_run.specs.{OutcomeWriters.{IsOfOutput, SinkFails, IsSettled, SinkTakes, TimedOutcome}, LogRuns.{IsLogFault, Legs, legs_told}, Runs.run_left_of, declared.outcome_writer.OutcomeWriter.OutcomeWriter}
use Rattle.napt_run.specs.declared.capture_run.ReportData.{ReportData}

-- THE OUTPUTS

-- The outputs took the first of these outcomes, and the fault came with the others.
pub record FailsAfter {W V : Type 0} {S : sink.Ghosts W} {T : sink.Ghosts V} (before : OutcomeWriter W V S T)
    (went : List TimedOutcome) (fault : Fault) (after : OutcomeWriter W V S T) : Type 0 where
  pub first : List TimedOutcome
  pub others : List TimedOutcome
  pub middle : OutcomeWriter W V S T
  pub went_is : went ≡ first ++ others
  pub took : SinkTakes before first middle
  pub failed : SinkFails middle others fault after

module _ {A F W V : Type 0} {S : sink.Ghosts W} {T : sink.Ghosts V} (origin : OriginModel)
    (hands : A → List Arrival → A → Type 0) (ends : A → Option F → A → Type 0) (from : A)
    (before : OutcomeWriter W V S T)
    (left : A) (after : OutcomeWriter W V S T) where
  -- The arrivals ended or failed, and the outputs took the outcomes of all inputs before that.
  pub record RunPassesTo (end : Option F) : Type 0 where
    pub inputs : List Arrival
    pub came : InputsCame hands ends from inputs end left
    pub took : SinkTakes before (run_left_of origin inputs) after
    pub settled : IsSettled after
    pub few : length inputs < 2 ^ 64

  pub record RunPassesWell (summary : RunSummary) : Type 0 where
    pub whole : RunPassesTo None
    pub bindings : summary.bindings.items ≡ (ran_by origin whole.inputs).bindings
    pub leaves : GivesState origin whole.inputs summary

  -- An output failed, and the outcomes that left are the first outcomes of the run.
  pub record RunPassesEarly (fault : Fault) : Type 0 where
    pub inputs : List Arrival
    pub went : List TimedOutcome
    pub come : HasCome hands ends from inputs left
    pub front : IsFrontOf went (run_left_of origin inputs)
    pub failed : FailsAfter before went fault after

  -- The run itself failed, or its log; an output may have failed too.
  pub record RunPassesHalted : Type 0 where
    pub inputs : List Arrival
    pub went : List TimedOutcome
    pub come : HasCome hands ends from inputs left
    pub front : IsFrontOf went (run_left_of origin inputs)
    pub took : SinkTakes before went after ⊎ ((fault : Fault) × FailsAfter before went fault after)

  abbrev pub PassesBy : Result RunSummary (PassFault F Fault) → Type 0
  PassesBy (Ok summary) = RunPassesWell summary
  PassesBy (Err (pass_faults.Arrival fault)) = RunPassesTo (Some fault)
  PassesBy (Err (pass_faults.Departure fault)) =
      (IsOfOutput fault × RunPassesEarly fault) ⊎ (IsLogFault fault × RunPassesHalted)
  PassesBy (Err (pass_faults.Run fault)) = RunPassesHalted

module _ {R Q W V : Type 0} {G : source.Ghosts R} {H : source.Ghosts Q} {S : sink.Ghosts W} {T : sink.Ghosts V}
    (origin : OriginModel) (from : StreamMerger R Q G H) (before : OutcomeWriter W V S T)
    (left : StreamMerger R Q G H) (after : OutcomeWriter W V S T) where
  -- The run succeeded, with these totals for the report.
  pub record PassesAll (totals : ReportData) : Type 0 where
    pub well : RunPassesWell origin HandsOutInputs MergeEndsWith from before left after totals.summary
    pub counts : totals.counts ≡ after.counts
    pub cut_inside : totals.cuts.inside ≡ cut_of left.inside
    pub cut_outside : totals.cuts.outside ≡ cut_of left.outside

  abbrev pub PassesOr : Result ReportData Fault → Type 0
  PassesOr (Ok totals) = PassesAll totals
  PassesOr (Err (Capture side fault)) =
      RunPassesTo origin HandsOutInputs MergeEndsWith from before left after
      (Some (record { side = side; fault = fault }))
  PassesOr (Err (Write Outside fault)) =
      RunPassesEarly origin HandsOutInputs MergeEndsWith from before left after (Write Outside fault)
  PassesOr (Err (Write Inside fault)) =
      RunPassesEarly origin HandsOutInputs MergeEndsWith from before left after (Write Inside fault)
  PassesOr (Err (Write Report fault)) = ⊥
  PassesOr (Err (Write Log fault)) = RunPassesHalted origin HandsOutInputs MergeEndsWith from before left after
  PassesOr (Err (Run fault)) = RunPassesHalted origin HandsOutInputs MergeEndsWith from before left after

-- THE LOG

module _ {P A F K : Type 0} (tells : Passage → P) (origin : OriginModel) (hands : A → List Arrival → A → Type 0)
    (ends : A → Option F → A → Type 0) (enters : K → List (Legs P) → K → Type 0)
    (fails : K → List (Legs P) → Fault → K → Type 0) (is_settled : K → Type 0) (from : A) (old : K) (left : A)
    (new : K) where
  -- The arrivals ended or failed, the inputs before that were recorded in the log, and it is flushed.
  pub record EntersTo (end : Option F) : Type 0 where
    pub inputs : List Arrival
    pub came : InputsCame hands ends from inputs end left
    pub entered : enters old (legs_told tells origin inputs) new
    pub settled : is_settled new

  -- The log recorded the first of the inputs that came.
  pub record EntersFirst : Type 0 where
    pub first : List Arrival
    pub later : List Arrival
    pub come : HasCome hands ends from (first ++ later) left
    pub entered : enters old (legs_told tells origin first) new

  -- The log failed over the first of the inputs that came.
  pub record FailsFirst (fault : Fault) : Type 0 where
    pub first : List Arrival
    pub later : List Arrival
    pub come : HasCome hands ends from (first ++ later) left
    pub of_log : IsLogFault fault
    pub failed : fails old (legs_told tells origin first) fault new

  abbrev pub EntersBy : Result RunSummary (PassFault F Fault) → Type 0
  EntersBy (Ok summary) = EntersTo None
  EntersBy (Err (pass_faults.Arrival fault)) = EntersTo (Some fault)
  EntersBy (Err (pass_faults.Departure fault)) = (IsOfOutput fault × EntersFirst) ⊎ FailsFirst fault
  EntersBy (Err (pass_faults.Run fault)) = EntersFirst ⊎ ((fault : Fault) × FailsFirst fault)

module _ {P A K : Type 0} (open_gate : Bool) (tells : Passage → P) (origin : OriginModel)
    (hands : A → List Arrival → A → Type 0) (ends : A → Option SideFault → A → Type 0)
    (enters : K → List (Legs P) → K → Type 0) (fails : K → List (Legs P) → Fault → K → Type 0)
    (is_settled : K → Type 0) (from : A) (old : K) (left : A) (new : K) where
  -- The inputs and outcomes of a run over captures with this result, as in `EntersBy`. Its fault may be one of its log.
  abbrev pub EntersOr : Result ReportData Fault → Type 0
  EntersOr (Ok totals) = EntersTo tells origin hands ends enters fails is_settled from old left new None
  EntersOr (Err (Capture side fault)) =
      EntersTo tells origin hands ends enters fails is_settled from old left new
      (Some (record { side = side; fault = fault }))
  EntersOr (Err (Write Outside fault)) = EntersFirst tells origin hands ends enters fails is_settled from old left new
  EntersOr (Err (Write Inside fault)) = EntersFirst tells origin hands ends enters fails is_settled from old left new
  EntersOr (Err (Write Report fault)) = ⊥
  EntersOr (Err (Write Log fault)) =
      FailsFirst tells origin hands ends enters fails is_settled from old left new (Write Log fault)
  EntersOr (Err (Run fault)) =
      (IsFaultUnder open_gate fault × (EntersFirst tells origin hands ends enters fails is_settled from old left new
      ⊎ ((other : Fault) × FailsFirst tells origin hands ends enters fails is_settled from old left new other)))
      ⊎ FailsFirst tells origin hands ends enters fails is_settled from old left new (Run fault)

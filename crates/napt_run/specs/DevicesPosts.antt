-- The effect of a run on its devices.
use Rattle.std.specs.Prelude.{Bool, Result}
use Rattle.napt_capture.specs.declared.device.Sink as sink
use Rattle.napt_capture.specs.declared.device.Source as source
use Rattle.napt_records.specs.declared.{Fault.Fault, Which.TheVariants.{Outside, Inside}}
use Rattle.napt_run.specs.{Origins.OriginModel, Posts.{CapturePost, FaultPost}, Streams.{HasRead, IsOfRun, LeavesInTheEnd, ReportGetsFrom}}
use Rattle.napt_run.specs.declared.{devices.Devices.Devices, run_end.RunEnd.RunEnd}

module _ {R Q W V U L : Type 0} (A : source.Ghosts R) (B : source.Ghosts Q) (S : sink.Ghosts W) (T : sink.Ghosts V)
    (X : sink.Ghosts U) (is_kept : Bool) where
  -- Each output contains its part of its text after the run.
  pub record OutputsPost (origin : OriginModel) (old : Devices R Q W V U L) (result : Result (Unit {0}) Fault)
      (new : Devices R Q W V U L) : Type 0 where
    pub to_outside : CapturePost S is_kept Outside origin (A.remaining old.inside) (B.remaining old.outside) result
        old.to_outside
        new.to_outside
    pub to_inside : CapturePost T is_kept Inside origin (A.remaining old.inside) (B.remaining old.outside) result
        old.to_inside
        new.to_inside
    pub report : ReportGetsFrom X origin (A.remaining old.inside) (B.remaining old.outside) result old.report new.report

module _ {R Q W V U L : Type 0} (A : source.Ghosts R) (B : source.Ghosts Q) where
  -- The result gives the state at the end of the run.
  abbrev pub EndPost : OriginModel → Devices R Q W V U L → RunEnd → Type 0
  EndPost origin old end = LeavesInTheEnd origin (A.remaining old.inside) (B.remaining old.outside) end.summary

  -- The fault is one of the captures, or its cause is memory, a thread, a worker or an output.
  abbrev pub ExplainedBy : Bool → Bool → Devices R Q W V U L → Fault → Type 0
  ExplainedBy is_kept open_gate old fault =
      FaultPost is_kept open_gate (A.remaining old.inside) (B.remaining old.outside) fault

  -- The reads that failed are those of the result, unless the run or its log failed. A failed write may hide a read.
  abbrev pub ReadsPost : Devices R Q W V U L → Result (Unit {0}) Fault → Devices R Q W V U L → Type 0
  ReadsPost old result new = (¬ IsOfRun result) →
      HasRead A.failed B.failed old.inside new.inside old.outside new.outside result

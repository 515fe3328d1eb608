-- The effect on its devices of a run that reads both captures whole, runs in memory and then writes.
use Rattle.std.specs.Prelude.{◌≡◌, ℕ, ◌+◌, Bool, true, false, List, Option, Result, OnOk}
use Rattle.napt_wire.specs.declared.Side.TheVariants as sides
use Rattle.napt_capture.specs.declared.device.Sink as sink
use Rattle.napt_capture.specs.declared.device.Source as source
use Rattle.napt_records.specs.{Faults.is_shut_gate_fault, declared.{Fault.Fault, Which.{Which, TheVariants.{Outside, Inside, Report}}}}
use Rattle.napt_run.specs.{Captures.{Answers, Explains, GetsFrom, IfKnown, OutputIsLeft, failed_readings, failed_writings, share_of, texts_from}, Origins.OriginModel}
use Rattle.napt_run.specs.declared.{devices.Devices.Devices, run_end.RunEnd.RunEnd}

-- An output contains its share of its text.
pub record WholePost {D : Type 0} (S : sink.Ghosts D) (which : Which) (origin : OriginModel)
    (inside outside : Option (List ℕ)) (result : Result (Unit {0}) Fault) (old new : D) : Type 0 where
  pub contents : GetsFrom origin which (share_of which result) inside outside (S.contents old) (S.contents new)
  pub failed : S.failed new ≡ S.failed old + failed_writings which result
  pub flushed : OnOk result (S.is_flushed new)

module _ {R Q W V U L : Type 0} (A : source.Ghosts R) (B : source.Ghosts Q) (S : sink.Ghosts W) (T : sink.Ghosts V)
    (X : sink.Ghosts U) where
  pub record WholeOutputsPost (origin : OriginModel) (old : Devices R Q W V U L) (result : Result (Unit {0}) Fault)
      (new : Devices R Q W V U L) : Type 0 where
    pub to_outside : WholePost S Outside origin (A.remaining old.inside) (B.remaining old.outside) result
        old.to_outside new.to_outside
    pub to_inside : WholePost T Inside origin (A.remaining old.inside) (B.remaining old.outside) result old.to_inside
        new.to_inside
    pub report : WholePost X Report origin (A.remaining old.inside) (B.remaining old.outside) result old.report
        new.report

module _ {R Q W V U L : Type 0} (A : source.Ghosts R) (B : source.Ghosts Q) where
  -- The result is that of the texts.
  abbrev pub AnswerPost : OriginModel → Devices R Q W V U L → Result (Unit {0}) Fault → Type 0
  AnswerPost origin old result = IfKnown (A.remaining old.inside) (B.remaining old.outside)
      (λ bytes others. Answers (texts_from origin bytes others) result)

  abbrev pub WholeEndPost : OriginModel → Devices R Q W V U L → RunEnd → Type 0
  WholeEndPost origin old end = OutputIsLeft origin (A.remaining old.inside) (B.remaining old.outside) end.summary

  -- The fault is explained, and a gate that is always open is not reported as shut.
  pub record WholeFaultPost (open_gate : Bool) (old : Devices R Q W V U L) (fault : Fault) : Type 0 where
    pub explained : Explains (A.remaining old.inside) (B.remaining old.outside) fault
    pub gate : open_gate ≡ true → is_shut_gate_fault fault ≡ false

  -- The reads that failed are those of the result.
  pub record WholeReadsPost (old : Devices R Q W V U L) (result : Result (Unit {0}) Fault)
      (new : Devices R Q W V U L) : Type 0 where
    pub inside : A.failed new.inside ≡ A.failed old.inside + failed_readings sides.Inside result
    pub outside : B.failed new.outside ≡ B.failed old.outside + failed_readings sides.Outside result

-- The inputs that a run over captures, read as they arrive, recorded in its log.
use Rattle.std.specs.Prelude.{◌≡◌, ◌⊎◌, ⊤, ℕ, Bool, List, Option, map, Result, Ok, Err}
use Rattle.napt_wire.specs.declared.Side.{Side}
use Rattle.napt_capture.specs.declared.fault.CaptureFault.{CaptureFault}
use Rattle.napt_dispatch.specs.Dispatch.{IsFaultUnder}
use Rattle.napt_run.specs.Origins.{OriginModel}
use Rattle.napt_laws.specs.Dispatching.{IsFrontOf}
use Rattle.napt_records.specs.declared.{Fault.{Fault, TheVariants.{Capture, Run, Write}}, Which.TheVariants.{Outside, Inside, Report, Log}, stream_merger.CutFlags.CutFlags}
use Rattle.napt_rules.specs.Prelude.{Arrival}
use Rattle.napt_sequential.specs.{Traces.traces_of, declared.passage.{Passage.Passage, Trace.Trace}}
use Rattle.napt_run.specs.{Runs.IfHeld, Streams.{AreInputsBeforeFault, IsStreamFaultOf}, declared.capture_run.ReportData.ReportData}

-- The time of an input's legs, and the traces of the first and the second.
abbrev pub Legs : Type 0 → Type 0
Legs P = ℕ × P × P

abbrev pub traces_by : OriginModel → List Arrival → List Trace
traces_by origin inputs = traces_of origin.rules origin.state inputs

-- Returns the traces of the legs of these inputs in a run.
abbrev pub legs_told : {P : Type 0} → (Passage → P) → OriginModel → List Arrival → List (Legs P)
legs_told tells origin inputs =
    map (λ trace. (trace.now, tells trace.first, tells trace.second)) (traces_by origin inputs)

-- A log failed: it could not be written, or memory for its entries was refused.
abbrev pub IsLogFault : Fault → Type 0
IsLogFault (Write Log fault) = ⊤
IsLogFault (Run fault) = ⊤
IsLogFault other = ⊥

module _ {P K : Type 0} (tells : Passage → P) (origin : OriginModel) (enters : K → List (Legs P) → K → Type 0)
    (fails : K → List (Legs P) → Fault → K → Type 0) (is_settled : K → Type 0) (inside outside : Option (List ℕ))
    (old new : K) where
  -- All inputs were recorded, and the log is flushed.
  pub record EntersAll (cuts : CutFlags) : Type 0 where
    pub inputs : List Arrival
    pub all : IfHeld inside outside (λ all. all ≡ record { arrivals = inputs; end = Ok cuts })
    pub entered : enters old (legs_told tells origin inputs) new
    pub settled : is_settled new

  -- The inputs before a fault of a capture were recorded, and the log is flushed.
  pub record EntersToFault (side : Side) (fault : CaptureFault) : Type 0 where
    pub inputs : List Arrival
    pub taken : IfHeld inside outside (λ all. AreInputsBeforeFault side fault all inputs)
    pub is_fault : IfHeld inside outside (IsStreamFaultOf side fault)
    pub entered : enters old (legs_told tells origin inputs) new
    pub settled : is_settled new

  -- A prefix of the inputs was recorded.
  pub record EntersFront : Type 0 where
    pub inputs : List Arrival
    pub front : IfHeld inside outside (λ all. IsFrontOf inputs all.arrivals)
    pub entered : enters old (legs_told tells origin inputs) new

  -- The log recorded the first of the inputs, and then failed.
  pub record LogFailsOver (fault : Fault) : Type 0 where
    pub inputs : List Arrival
    pub front : IfHeld inside outside (λ all. IsFrontOf inputs all.arrivals)
    pub of_log : IsLogFault fault
    pub failed : fails old (legs_told tells origin inputs) fault new

  -- If the run failed, the log may have failed too.
  abbrev pub LogsTo : Bool → Result ReportData Fault → Type 0
  LogsTo open_gate (Ok totals) = EntersAll totals.cuts
  LogsTo open_gate (Err (Capture side fault)) = EntersToFault side fault
  LogsTo open_gate (Err (Write Outside fault)) = EntersFront
  LogsTo open_gate (Err (Write Inside fault)) = EntersFront
  LogsTo open_gate (Err (Write Report fault)) = ⊥
  LogsTo open_gate (Err (Write Log fault)) = LogFailsOver (Write Log fault)
  LogsTo open_gate (Err (Run fault)) =
      (IsFaultUnder open_gate fault × (EntersFront ⊎ ((other : Fault) × LogFailsOver other)))
      ⊎ LogFailsOver (Run fault)

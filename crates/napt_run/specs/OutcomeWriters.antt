-- The outcomes that leave during a run, and their effects on the outputs.
use Rattle.std.specs.Prelude.{◌≡◌, ⊤, ℕ, ◌^◌, ◌<◌, List, [], ◌++◌, length, map, filter_map, flat_map, All, false, Result, Ok, Err}
use Rattle.napt_wire.specs.declared.Side.{Side}
use Rattle.napt_wire.specs.declared.Side.TheVariants as sides
use Rattle.napt_capture.specs.{Text.{file_header, record_text}, declared.{device.Sink.Ghosts, fault.WriteFault.WriteFault}}
use Rattle.napt_rules.specs.declared.Outcome.{Outcome}
use Rattle.napt_records.specs.{Output.{packet_to, record_at, IsTime}, Counts.AreCountsOf, declared.{Fault.{Fault, TheVariants.Write}, Which.Which}}
use Rattle.napt_records.specs.declared.Which.TheVariants.{Outside, Inside}
use Rattle.napt_run.specs.{Outputs.{OutputGrows, OutputBreaks}, declared.outcome_writer.OutcomeWriter.OutcomeWriter}

-- An outcome, with the arrival time of its input.
abbrev pub TimedOutcome : Type 0
TimedOutcome = ℕ × Outcome

-- Returns the text of the records that go to a side.
abbrev pub records_text : Side → List TimedOutcome → List ℕ
records_text side all = flat_map record_text (filter_map (λ timed. record_at timed.0 (packet_to side timed.1)) all)

abbrev pub AreTimes : List TimedOutcome → Type 0
AreTimes all = All (λ timed. IsTime timed.0) all

-- No call of either output failed.
abbrev pub AreOutputsSound : {W V : Type 0} {S : Ghosts W} {T : Ghosts V} → OutcomeWriter W V S T → Type 0
AreOutputsSound leaving = (leaving.to_outside.is_broken ≡ false) × (leaving.to_inside.is_broken ≡ false)

module _ {W V : Type 0} {S : Ghosts W} {T : Ghosts V} where
  -- These outcomes left: each output contains its records of them, and they are counted.
  pub record SinkTakes (old : OutcomeWriter W V S T) (all : List TimedOutcome) (new : OutcomeWriter W V S T)
      : Type 0 where
    pub to_outside : AreTimes all → OutputGrows old.to_outside (records_text sides.Outside all) new.to_outside
    pub to_inside : AreTimes all → OutputGrows old.to_inside (records_text sides.Inside all) new.to_inside
    pub counts : (outcomes : List Outcome) → length (outcomes ++ map (λ timed. timed.1) all) < 2 ^ 64 →
        AreCountsOf outcomes old.counts → AreCountsOf (outcomes ++ map (λ timed. timed.1) all) new.counts

  -- An output failed while these outcomes left, and the other output contains none of them, or all.
  abbrev pub FailsBy : OutcomeWriter W V S T → List TimedOutcome → Fault → OutcomeWriter W V S T → Type 0
  FailsBy old all (Write Outside fault) new =
      OutputBreaks old.to_outside (records_text sides.Outside all) fault new.to_outside
      × OutputGrows old.to_inside [] new.to_inside
  FailsBy old all (Write Inside fault) new =
      OutputGrows old.to_outside (records_text sides.Outside all) new.to_outside
      × OutputBreaks old.to_inside (records_text sides.Inside all) fault new.to_inside
  FailsBy old all other new = ⊥

  abbrev pub SinkFails : OutcomeWriter W V S T → List TimedOutcome → Fault → OutcomeWriter W V S T → Type 0
  SinkFails old all fault new = AreOutputsSound old → AreTimes all → FailsBy old all fault new

  -- The headers were written.
  pub record SinkBegins (old new : OutcomeWriter W V S T) : Type 0 where
    pub to_outside : OutputGrows old.to_outside file_header new.to_outside
    pub to_inside : OutputGrows old.to_inside file_header new.to_inside
    pub counts : new.counts ≡ old.counts

  -- Writing a header failed; the header of the output to the outside is written first.
  abbrev pub FailsToBegin : OutcomeWriter W V S T → Fault → OutcomeWriter W V S T → Type 0
  FailsToBegin old (Write Outside fault) new =
      OutputBreaks old.to_outside file_header fault new.to_outside × (new.to_inside ≡ old.to_inside)
  FailsToBegin old (Write Inside fault) new =
      OutputGrows old.to_outside file_header new.to_outside × OutputBreaks old.to_inside file_header fault new.to_inside
  FailsToBegin old other new = ⊥

-- All that left is flushed.
abbrev pub IsSettled : {W V : Type 0} {S : Ghosts W} {T : Ghosts V} → OutcomeWriter W V S T → Type 0
IsSettled {W} {V} {S} {T} leaving =
    S.is_flushed leaving.to_outside.device.now × T.is_flushed leaving.to_inside.device.now

-- The fault is one of an output.
abbrev pub IsOfOutput : Fault → Type 0
IsOfOutput (Write Outside fault) = ⊤
IsOfOutput (Write Inside fault) = ⊤
IsOfOutput other = ⊥

-- Returns the result of a call of an output, with the name of the output.
abbrev pub result_of_output : Which → Result (Unit {0}) WriteFault → Result (Unit {0}) Fault
result_of_output which (Ok done) = Ok done
result_of_output which (Err fault) = Err (Write which fault)

-- The captures before anything is written.
pub record IsNewOutcomeWriter {W V : Type 0} {S : Ghosts W} {T : Ghosts V} (leaving : OutcomeWriter W V S T) : Type 0
  where
    pub sound : AreOutputsSound leaving
    pub none_outside : leaving.to_outside.written ≡ 0
    pub none_inside : leaving.to_inside.written ≡ 0
    pub counts : AreCountsOf [] leaving.counts

-- The effect of a run over captures, read as they arrive, on its outputs, after a text that both already contain.
use Rattle.std.specs.Prelude.{◌≡◌, ℕ, List, ◌++◌, Option, Ok}
use Rattle.napt_wire.specs.declared.Side.{Side}
use Rattle.napt_run.specs.Origins.{GivesState, OriginModel, ran_by}
use Rattle.napt_dispatch.specs.RunsThrough.{timed_results}
use Rattle.napt_records.specs.{Counts.AreCountsOf, RecordMerging.MergedInputs}
use Rattle.napt_run.specs.{Captures.IfKnown, OutcomeWriters.{TimedOutcome, records_text}, Files.files_until, declared.capture_run.ReportData.ReportData}
use Rattle.napt_rules.specs.Prelude.{Arrival}

-- The fact is true for the inputs of the captures, if their bytes are known.
abbrev pub IfHeld : Option (List ℕ) → Option (List ℕ) → (MergedInputs → Type 0) → Type 0
IfHeld inside outside Holds = IfKnown inside outside (λ bytes others. Holds (files_until bytes others))

-- Returns the outcomes of these inputs, with their times.
abbrev pub run_left_of : OriginModel → List Arrival → List TimedOutcome
run_left_of origin inputs = timed_results inputs (ran_by origin inputs).outcomes

-- Returns the text of the records that go to a side, after a text that is already there.
abbrev pub text_after : List ℕ → OriginModel → Side → List Arrival → List ℕ
text_after front origin side inputs = front ++ records_text side (run_left_of origin inputs)

-- The report has the counts of all inputs.
pub record IsToldOf (origin : OriginModel) (inside outside : Option (List ℕ)) (totals : ReportData) : Type 0 where
  pub inputs : List Arrival
  pub all : IfHeld inside outside (λ all. all ≡ record { arrivals = inputs; end = Ok totals.cuts })
  pub counts : AreCountsOf (ran_by origin inputs).outcomes totals.counts
  pub bindings : totals.summary.bindings.items ≡ (ran_by origin inputs).bindings
  pub leaves : GivesState origin inputs totals.summary

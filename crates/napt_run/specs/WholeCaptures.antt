-- The end of a run over inputs that are all in memory.
use Rattle.std.specs.Prelude.{◌≡◌, ℕ, List}
use Rattle.napt_wire.specs.declared.Side.TheVariants as sides
use Rattle.napt_capture.specs.declared.device.Sink.{Ghosts}
use Rattle.napt_run.specs.Origins.{GivesState, OriginModel, ran_by}
use Rattle.napt_records.specs.Counts.{AreCountsOf}
use Rattle.napt_rules.specs.Prelude.{Arrival}
use Rattle.napt_run.specs.{Outputs.OutputGrows, Runs.text_after, declared.{outcome_writer.OutcomeWriter.OutcomeWriter, whole_captures.ReportTally.ReportTally}}

-- The tally has the counts of the report over these inputs, and gives the state after them.
pub record IsTallyOf (origin : OriginModel) (inputs : List Arrival) (tally : ReportTally) : Type 0 where
  pub counts : AreCountsOf (ran_by origin inputs).outcomes tally.counts
  pub bindings : tally.summary.bindings.items ≡ (ran_by origin inputs).bindings
  pub leaves : GivesState origin inputs tally.summary

-- Both outputs have the records of these inputs, after the text that was there, and the tally is that of the inputs.
pub record WritesAll {W V : Type 0} {S : Ghosts W} {T : Ghosts V} (front : List ℕ) (origin : OriginModel)
    (inputs : List Arrival) (old new : OutcomeWriter W V S T) (tally : ReportTally) : Type 0 where
  pub to_outside : OutputGrows old.to_outside (text_after front origin sides.Outside inputs) new.to_outside
  pub to_inside : OutputGrows old.to_inside (text_after front origin sides.Inside inputs) new.to_inside
  pub is_tally : IsTallyOf origin inputs tally

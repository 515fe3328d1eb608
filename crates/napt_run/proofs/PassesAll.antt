-- The outputs of a run over inputs that are all in memory contain the records of its outcomes.
use native.Mathlib.Omega.{arith}
use Rattle.std.proofs.lemmas.{Grind.common_steps, Bool.Decides.nat_tests}
use Rattle.std.{proofs.Common.{◌≡◌, ℕ, Bool, List, [], ◌++◌, All, None, Result, Ok, Err, IfOk, OnOk, subst, sym}, specs.Io.KnownBytes.Appends}
use Rattle.napt_wire.specs.declared.Side.{Side}
use Rattle.napt_wire.specs.declared.Side.TheVariants as sides
use Rattle.napt_capture.specs.{Text.file_header, declared.device.Sink.Ghosts}
use Rattle.napt_run.specs.Origins.{OriginModel, ran_by}
use Rattle.napt_dispatch.specs.declared.workers.RunSummary.{RunSummary}
use Rattle.napt_records.specs.{Counts.AreCountsOf, Output.IsTimely, Report.{report_of, report_text}, declared.report.OutcomeCounts.OutcomeCounts}
use Rattle.napt_rules.specs.{Prelude.{Arrival}, declared.{Outcome.Outcome, Row.Row}}
use Rattle.napt_sequential.{proofs.Inputs.came_whole, specs.declared.fault.RunFault.RunFault}
use Rattle.napt_run.specs.{OutcomeWriters.SinkBegins, OutcomeWriterLaws.grows_more, Outputs.OutputGrows, CaptureRuns.RunPassesWell, Runs.text_after}
use Rattle.napt_run.specs.{Streams.capture_text, WholeCaptures.{IsTallyOf, WritesAll}, declared.{outcome_writer.OutcomeWriter.OutcomeWriter, output.Output.Output, whole_captures.ReportTally.ReportTally}}
use Rattle.napt_run.proofs.{OutcomeCounts.all_counted, OutcomePrefixes.{capture_is, times_of}}

-- The run over all inputs.
pub passes_all : {F W V : Type 0} {S : Ghosts W} {T : Ghosts V} (origin : OriginModel) (from left : List Arrival)
    (old new : OutcomeWriter W V S T) (summary : RunSummary) → AreCountsOf [] old.counts → All IsTimely from →
    RunPassesWell {F = F} origin (λ x xs y. x ≡ xs ++ y) (λ x end y. x ≡ []) from old left new summary →
    WritesAll [] origin from old new (record { counts = new.counts; summary = summary })
passes_all origin from left old new summary none timely p =
    let inputs : List Arrival = p.whole.inputs in
    let whole : from ≡ inputs = came_whole (λ x. x) from left inputs None p.whole.came in
    let times = times_of inputs (ran_by origin inputs).outcomes (subst (λ (l : List Arrival). All IsTimely l) whole
    timely) in
    let tally : ReportTally = record { counts = new.counts; summary = summary } in
    subst (λ (l : List Arrival). WritesAll [] origin l old new tally) (sym whole) (record {
      to_outside = p.whole.took.to_outside times;
      to_inside = p.whole.took.to_inside times;
      is_tally = record {
        counts = all_counted origin inputs old new none p.whole.few p.whole.took;
        bindings = p.bindings;
        leaves = p.leaves;
      };
    })

-- The run after the headers.
pub headed_all : {W V : Type 0} {S : Ghosts W} {T : Ghosts V} (origin : OriginModel) (inputs : List Arrival)
    (old mid new : OutcomeWriter W V S T) → SinkBegins old mid → (r : Result ReportTally RunFault) →
    IfOk r (WritesAll [] origin inputs mid new) → IfOk r (WritesAll file_header origin inputs old new)
headed_all origin inputs old mid new begins (Err fault) p = tt
headed_all origin inputs old mid new begins (Ok tally) p = record {
  to_outside = grows_more old.to_outside mid.to_outside new.to_outside _ _ begins.to_outside p.to_outside;
  to_inside = grows_more old.to_inside mid.to_inside new.to_inside _ _ begins.to_inside p.to_inside;
  is_tally = p.is_tally;
}

-- The device of an output, which is left as the output leaves it.
capture_appended : {D : Type 0} {S : Ghosts D} (origin : OriginModel) (side : Side) (inputs : List Arrival)
    (old new : Output D S) → OutputGrows old (text_after file_header origin side inputs) new → (start last : D) →
    old.device.now ≡ start → (new.device.ghost_name ≡ old.device.ghost_name → last ≡ new.device.now) →
    Appends (S.contents start) (S.contents last) (capture_text origin side inputs)
capture_appended origin side inputs old new grown start last from at =
    grind (arith, common_steps, nat_tests, ℕ, capture_is)

module _ {W V : Type 0} {S : Ghosts W} {T : Ghosts V} (origin : OriginModel) (inputs : List Arrival)
    (old new : OutcomeWriter W V S T) where
  pub told_outside : (r : Result ReportTally RunFault) → IfOk r (WritesAll file_header origin inputs old new) →
      (start last : W) → old.to_outside.device.now ≡ start →
      (new.to_outside.device.ghost_name ≡ old.to_outside.device.ghost_name → last ≡ new.to_outside.device.now) →
      OnOk r (Appends (S.contents start) (S.contents last) (capture_text origin sides.Outside inputs))
  told_outside r p start last from at = grind (arith, common_steps, nat_tests, capture_appended)

  pub told_inside : (r : Result ReportTally RunFault) → IfOk r (WritesAll file_header origin inputs old new) →
      (start last : V) → old.to_inside.device.now ≡ start →
      (new.to_inside.device.ghost_name ≡ old.to_inside.device.ghost_name → last ≡ new.to_inside.device.now) →
      OnOk r (Appends (T.contents start) (T.contents last) (capture_text origin sides.Inside inputs))
  told_inside r p start last from at = grind (arith, common_steps, nat_tests, capture_appended)

  pub told_tally : (r : Result ReportTally RunFault) → IfOk r (WritesAll file_header origin inputs old new) →
      IfOk r (IsTallyOf origin inputs)
  told_tally r p = grind (arith, common_steps, nat_tests)

-- THE OUTPUTS THAT ARE MADE

-- A capture that was kept in memory, as it is taken out of its device.
pub kept_text : (origin : OriginModel) (side : Side) (inputs arrivals : List Arrival) (none last kept : List ℕ) →
    none ≡ [] →
    inputs ≡ arrivals → kept ≡ last → last ≡ none ++ capture_text origin side inputs →
    kept ≡ capture_text origin side arrivals
kept_text origin side inputs arrivals none last kept empty are taken appended =
    grind (arith, common_steps, nat_tests, ℕ)

pub told_report : (origin : OriginModel) (inputs arrivals : List Arrival) (tally : ReportTally) (counts : OutcomeCounts)
    (rows : List Row)
    (cut_inside cut_outside : Bool) (told : List ℕ) → inputs ≡ arrivals → IsTallyOf origin inputs tally →
    counts ≡ tally.counts → rows ≡ tally.summary.bindings.items → ((outcomes : List Outcome) →
    AreCountsOf outcomes counts →
    told ≡ report_of cut_inside cut_outside outcomes rows) →
    told ≡ report_text cut_inside cut_outside (ran_by origin arrivals)
unfolding report_text
told_report origin inputs arrivals tally counts rows cut_inside cut_outside told are tells counts_are rows_are says =
    grind (arith, common_steps, nat_tests)

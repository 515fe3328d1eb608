-- The outcomes that leave are counted.
use Rattle.std.proofs.Common.{◌≡◌, ◌^◌, ◌<◌, List, [], length, map, ap, subst, arith}
use Rattle.napt_capture.specs.declared.device.Sink.{Ghosts}
use Rattle.napt_run.specs.Origins.{OriginModel, ran_by}
use Rattle.napt_records.specs.Counts.{AreCountsOf}
use Rattle.napt_rules.specs.{Prelude.{Arrival}, declared.Outcome.Outcome}
use Rattle.napt_run.{specs.{OutcomeWriters.{SinkTakes, TimedOutcome}, Runs.run_left_of, declared.outcome_writer.OutcomeWriter.OutcomeWriter}, proofs.OutcomePrefixes.{as_many, outcomes_back}}

-- All outcomes of a run left.
pub all_counted : {W V : Type 0} {S : Ghosts W} {T : Ghosts V} (origin : OriginModel) (inputs : List Arrival)
    (old new : OutcomeWriter W V S T) → AreCountsOf [] old.counts → length inputs < 2 ^ 64 →
    SinkTakes old (run_left_of origin inputs) new → AreCountsOf (ran_by origin inputs).outcomes new.counts
all_counted origin inputs old new none few took =
    let back : map (λ (t : TimedOutcome). t.1) (run_left_of origin inputs) ≡ (ran_by origin inputs).outcomes =
    outcomes_back inputs (ran_by origin inputs).outcomes (as_many origin inputs) in
    let short : length (map (λ (t : TimedOutcome). t.1) (run_left_of origin inputs)) < 2 ^ 64 =
    omega (arith, few, ap (λ (l : List Outcome). length l) back, as_many origin inputs) in
    subst (λ (l : List Outcome). AreCountsOf l new.counts) back (took.counts [] short none)

-- The results that leave during a run, and their effects on the log and then on the outputs.
use Rattle.std.{specs.Prelude.{◌≡◌, ◌⊎◌, ℕ, List, [], ◌++◌, map, refl}, proofs.{Common.{sym, ◌∙◌, subst}, lemmas.List.map-append}}
use Rattle.napt_capture.specs.declared.device.Sink.{Ghosts}
use Rattle.napt_dispatch.specs.declared.outcome_sink.InputResult.{InputResult}
use Rattle.napt_run.specs.{OutcomeWriters.{IsOfOutput, SinkFails, IsSettled, SinkTakes, TimedOutcome}, OutcomeWriterLaws.{takes_none, takes_more}, LogRuns.{IsLogFault, Legs}}
use Rattle.napt_records.specs.declared.Fault.{Fault}
use Rattle.napt_run.specs.declared.logged_outcome_writer.LoggedOutcomeWriter.{LoggedOutcomeWriter}

-- Returns the outcomes of results that left, with the arrival times of their inputs.
abbrev pub outcomes_in : {P : Type 0} → List (ℕ × InputResult P) → List TimedOutcome
outcomes_in all = map (λ left. (left.0, left.1.outcome)) all

-- Returns the traces of the legs of results that left.
abbrev pub legs_in : {P : Type 0} → List (ℕ × InputResult P) → List (Legs P)
legs_in all = map (λ left. (left.1.now, left.1.first, left.1.second)) all

module _ {W V K : Type 0} {S : Ghosts W} {T : Ghosts V} where
  -- Both logs write to the same device.
  abbrev pub IsSameSinkPlace : LoggedOutcomeWriter W V K S T → LoggedOutcomeWriter W V K S T → Type 0
  IsSameSinkPlace old new = new.log.ghost_name ≡ old.log.ghost_name

  -- All that left is flushed, and so is the log.
  abbrev pub AreSettled : (K → Type 0) → LoggedOutcomeWriter W V K S T → Type 0
  AreSettled is_settled it = IsSettled it.leaving × is_settled it.log.now

module _ {P W V K : Type 0} {S : Ghosts W} {T : Ghosts V} where
  -- All that left was recorded in the log, and the outputs contain its records.
  pub record TakesBoth (enters : K → List (Legs P) → K → Type 0) (old : LoggedOutcomeWriter W V K S T)
      (all : List (ℕ × InputResult P)) (new : LoggedOutcomeWriter W V K S T) : Type 0 where
    pub took : SinkTakes old.leaving (outcomes_in all) new.leaving
    pub entered : enters old.log.now (legs_in all) new.log.now
    pub same : IsSameSinkPlace old new

  -- An output failed, and everything was recorded in the log.
  pub record FailsOutput (enters : K → List (Legs P) → K → Type 0) (old : LoggedOutcomeWriter W V K S T)
      (all : List (ℕ × InputResult P)) (fault : Fault) (new : LoggedOutcomeWriter W V K S T) : Type 0 where
    pub of_output : IsOfOutput fault
    pub failed : SinkFails old.leaving (outcomes_in all) fault new.leaving
    pub entered : enters old.log.now (legs_in all) new.log.now
    pub same : IsSameSinkPlace old new

  -- The log failed, and no output contains more than before.
  pub record FailsLog (fails : K → List (Legs P) → Fault → K → Type 0) (old : LoggedOutcomeWriter W V K S T)
      (all : List (ℕ × InputResult P)) (fault : Fault) (new : LoggedOutcomeWriter W V K S T) : Type 0 where
    pub of_log : IsLogFault fault
    pub kept : new.leaving ≡ old.leaving
    pub failed : fails old.log.now (legs_in all) fault new.log.now
    pub same : IsSameSinkPlace old new

  abbrev pub FailsEither : (K → List (Legs P) → K → Type 0) → (K → List (Legs P) → Fault → K → Type 0) →
      LoggedOutcomeWriter W V K S T → List (ℕ × InputResult P) → Fault → LoggedOutcomeWriter W V K S T → Type 0
  FailsEither enters fails old all fault new =
      FailsOutput enters old all fault new ⊎ FailsLog fails old all fault new

  pub both_none : (enters : K → List (Legs P) → K → Type 0) → ((x : K) → enters x [] x) →
      (x : LoggedOutcomeWriter W V K S T) → TakesBoth enters x [] x
  both_none enters none x = record { took = takes_none x.leaving; entered = none x.log.now; same = refl }

  pub both_more : (enters : K → List (Legs P) → K → Type 0) → ((x y z : K) (xs ys : List (Legs P)) →
      enters x xs y → enters y ys z → enters x (xs ++ ys) z) → (x y z : LoggedOutcomeWriter W V K S T)
      (first second : List (ℕ × InputResult P)) →
      TakesBoth enters x first y → TakesBoth enters y second z → TakesBoth enters x (first ++ second) z
  both_more enters more x y z first second one two = record {
    took = subst (λ (l : List TimedOutcome). SinkTakes x.leaving l z.leaving)
        (sym (map-append (λ left. (left.0, left.1.outcome)) first second))
        (takes_more x.leaving y.leaving z.leaving _ _ one.took two.took);
    entered = subst (λ (l : List (Legs P)). enters x.log.now l z.log.now)
        (sym (map-append (λ left. (left.1.now, left.1.first, left.1.second)) first second))
        (more x.log.now y.log.now z.log.now (legs_in first) (legs_in second) one.entered two.entered);
    same = two.same ∙ one.same;
  }

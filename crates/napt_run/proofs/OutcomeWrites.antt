-- An outcome that leaves adds a record to one output.
use Rattle.std.{proofs.lemmas.{Grind.common_steps, Bool.Decides.nat_tests, List.Elements.All-head}, specs.Prelude.MatchResult}
use Rattle.std.proofs.Common.{◌≡◌, ℕ, ◌-◌, ◌^◌, ◌<◌, List, [], ◌∷◌, ◌++◌, length, Result, IfErr, OnOk, false, sym, subst, arith, append-nil, length-append}
use Rattle.napt_capture.specs.{Text.{entry_of_packet, record_text}, declared.{device.Sink.Ghosts, fault.WriteFault.WriteFault}}
use Rattle.napt_rules.specs.declared.Outcome.{Outcome, TheVariants.{ToOutside, ToInside}}
use Rattle.napt_records.specs.{Counts.AreCountsOf, Output.IsTime, declared.{report.OutcomeCounts.OutcomeCounts, Which.TheVariants.{Outside, Inside}}}
use Rattle.napt_run.specs.{Outputs.{OutputGrows, OutputBreaks}, OutcomeWriters.{AreTimes, SinkTakes, SinkFails, result_of_output}, declared.{output.Output.Output, outcome_writer.OutcomeWriter.OutcomeWriter}}

time_of_one : (time : ℕ) (outcome : Outcome) → AreTimes ((time, outcome) ∷ []) → IsTime time
time_of_one time outcome all = All-head (λ timed. IsTime timed.0) (time, outcome) [] all

-- One more outcome was counted.
abbrev Counted : OutcomeCounts → Outcome → OutcomeCounts → Type 0
Counted old outcome new = (outcomes : List Outcome) → length outcomes < 2 ^ 64 - 1 → AreCountsOf outcomes old →
    AreCountsOf (outcomes ++ outcome ∷ []) new

fewer : (outcomes : List Outcome) (outcome : Outcome) → length (outcomes ++ outcome ∷ []) < 2 ^ 64 →
    length outcomes < 2 ^ 64 - 1
fewer outcomes outcome few = omega (arith, few, length-append outcomes (outcome ∷ []))

-- The text of a single record, or a prefix of it.
module _ {W : Type 0} {S : Ghosts W} (old new : Output W S) where
  grows_one : (text : List ℕ) → OutputGrows old text new → OutputGrows old (text ++ []) new
  grows_one text p = subst (λ (l : List ℕ). OutputGrows old l new) (sym (append-nil text)) p

  breaks_one : (text : List ℕ) (fault : WriteFault) → OutputBreaks old text fault new →
      OutputBreaks old (text ++ []) fault new
  breaks_one text fault p = subst (λ (l : List ℕ). OutputBreaks old l fault new) (sym (append-nil text)) p

module _ {W V : Type 0} {S : Ghosts W} {T : Ghosts V} (time : ℕ) (packet : List ℕ) (old : OutcomeWriter W V S T) where
  -- A packet to the outside.
  pub leaves_outside : (output : Output W S) (counts : OutcomeCounts) (r : Result (Unit {0}) WriteFault) →
      (IsTime time → OnOk r (OutputGrows old.to_outside (record_text (entry_of_packet time packet)) output)) →
      (IsTime time → IfErr r (λ fault. old.to_outside.is_broken ≡ false →
      OutputBreaks old.to_outside (record_text (entry_of_packet time packet)) fault output)) →
      Counted old.counts (ToOutside packet) counts →
      MatchResult (result_of_output Outside r) (λ _. SinkTakes old ((time, ToOutside packet) ∷ [])
      (record old { to_outside = output; counts = counts }))
      (λ fault. SinkFails old ((time, ToOutside packet) ∷ []) fault
      (record old { to_outside = output; counts = counts }))
  leaves_outside output counts r ok err counted =
      grind (arith, common_steps, nat_tests, grows_one, time_of_one, fewer, breaks_one)

  -- A packet to the inside.
  pub leaves_inside : (output : Output V T) (counts : OutcomeCounts) (r : Result (Unit {0}) WriteFault) →
      (IsTime time → OnOk r (OutputGrows old.to_inside (record_text (entry_of_packet time packet)) output)) →
      (IsTime time → IfErr r (λ fault. old.to_inside.is_broken ≡ false →
      OutputBreaks old.to_inside (record_text (entry_of_packet time packet)) fault output)) →
      Counted old.counts (ToInside packet) counts →
      MatchResult (result_of_output Inside r) (λ _. SinkTakes old ((time, ToInside packet) ∷ [])
      (record old { to_inside = output; counts = counts })) (λ fault. SinkFails old ((time, ToInside packet) ∷ []) fault
      (record old { to_inside = output; counts = counts }))
  leaves_inside output counts r ok err counted =
      grind (arith, common_steps, nat_tests, grows_one, time_of_one, fewer, breaks_one)

-- A fault in a later text is a fault in the whole text.
use Rattle.std.proofs.Common.{◌≡◌, ℕ, ◌≤◌, List, [], length, Result, Ok, Err, IfErr, false, subst, arith, append-nil}
use Rattle.napt_capture.specs.declared.{device.Sink.Ghosts, fault.WriteFault.WriteFault}
use Rattle.napt_run.specs.{OutcomeWriterLaws.breaks_more, Outputs.{OutputGrows, OutputBreaks}, declared.output.Output.Output}

module _ {W : Type 0} {S : Ghosts W} where
  pub first_within : (x y z : Output W S) (first second : List ℕ) (fault : WriteFault) (one : OutputGrows x first y)
      (two : OutputBreaks y second fault z) → length first ≤ (breaks_more x y z first second fault one two).count
  unfolding breaks_more
  first_within x y z first second fault one two = omega arith

  -- A flush failed after a text.
  pub flush_breaks : (x y z : Output W S) (text : List ℕ) (r : Result (Unit {0}) WriteFault) →
      OutputGrows x text y → IfErr r (λ fault. y.is_broken ≡ false → OutputBreaks y [] fault z) →
      IfErr r (λ fault. x.is_broken ≡ false → OutputBreaks x text fault z)
  flush_breaks x y z text (Ok done) one two = tt
  flush_breaks x y z text (Err fault) one two = λ sound.
      subst (λ (l : List ℕ). OutputBreaks x l fault z) (append-nil text)
      (breaks_more x y z text [] fault one (two (one.sound sound)))

-- The effects of a call of an output.
use Rattle.std.specs.{Prelude.{◌≡◌, ℕ, ◌+◌, ◌-◌, ◌^◌, ◌≤◌, min, List, length, take, true, false}, Io.KnownBytes.Appends}
use Rattle.napt_capture.specs.declared.{device.Sink.Ghosts, fault.WriteFault.WriteFault}
use Rattle.napt_run.specs.declared.output.Output.{Output}

-- This text was written, and no call failed.
pub record OutputGrows {W : Type 0} {S : Ghosts W} (old : Output W S) (text : List ℕ) (new : Output W S) : Type 0 where
  pub same : new.device.ghost_name ≡ old.device.ghost_name
  pub sound : old.is_broken ≡ false → new.is_broken ≡ false
  pub counted : (a : ℕ) → old.written ≡ min a (2 ^ 64 - 1) → new.written ≡ min (a + length text) (2 ^ 64 - 1)
  pub appended : Appends (S.contents old.device.now) (S.contents new.device.now) text
  pub kept : S.failed new.device.now ≡ S.failed old.device.now

-- A prefix of the text was written, and a call failed.
pub record OutputBreaks {W : Type 0} {S : Ghosts W} (old : Output W S) (text : List ℕ) (fault : WriteFault)
    (new : Output W S) : Type 0 where
  pub same : new.device.ghost_name ≡ old.device.ghost_name
  pub count : ℕ
  pub within : count ≤ length text
  pub counted : (a : ℕ) → old.written ≡ min a (2 ^ 64 - 1) → fault.written ≡ min (a + count) (2 ^ 64 - 1)
  pub appended : Appends (S.contents old.device.now) (S.contents new.device.now) (take count text)
  pub broken : new.is_broken ≡ true
  pub failed_once : S.failed new.device.now ≡ S.failed old.device.now + 1

-- What a writer does that appends a text to what it wrote before.
use Rattle.std.specs.{Prelude.{ℕ, ◌+◌, ◌≤◌, ◌≡◌, List, length, take, Option, Result, Ok, Err}, Io.KnownBytes.Appends}
use Rattle.napt_capture.specs.declared.fault.WriteFault.{WriteFault}

-- All of the text was appended, where `old` and `new` are the bytes of the writer, if known. `before` bytes were
-- written earlier, and `written` are written now.
pub record PutOk (before : ℕ) (old new : Option (List ℕ)) (text : List ℕ) (written : ℕ) : Type 0 where
  pub counted : written ≡ before + length text
  pub appended : Appends old new text

-- Only the first bytes of the text were appended, and the fault has the number of bytes written in all.
pub record PutErr (before : ℕ) (old new : Option (List ℕ)) (text : List ℕ) (fault : WriteFault) : Type 0 where
  pub taken : ℕ
  pub within : taken ≤ length text
  pub counted : fault.written ≡ before + taken
  pub appended : Appends old new (take taken text)

abbrev pub PutPost : ℕ → Option (List ℕ) → Option (List ℕ) → List ℕ → Result ℕ WriteFault → Type 0
PutPost before old new text (Ok written) = PutOk before old new text written
PutPost before old new text (Err fault) = PutErr before old new text fault

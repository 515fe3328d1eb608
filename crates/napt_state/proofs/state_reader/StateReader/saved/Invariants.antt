-- saved: the contents so far are those of the lines that were read, and the lines after them are not read yet.
use Rattle.std.proofs.Common.{◌≡◌, ℕ, List, Some}
use Rattle.napt_state.specs.StateFiles.{StateFileModel}
use Rattle.napt_state.specs.{Saved.IsSaved, StateText.saved_text}
use Rattle.napt_state.proofs.LinesAhead.{IsAhead, Taken}
use Rattle.napt_state.proofs.state_reader.StateReader.saved.Given as goal

abbrev pub invariant-loop : goal.invariant-loop
invariant-loop g l = record {
  read : (whole : StateFileModel) → IsSaved whole → g.R.Read.remaining l.fn.self.reader ≡ Some (saved_text whole) →
      IsAhead whole l.saved (g.R.Read.remaining l.self.reader);
  exact : (text : List ℕ) → g.R.Read.remaining l.fn.self.reader ≡ Some text →
      Taken text l.saved (g.R.Read.remaining l.self.reader);
}

-- The contents of the file of a state, as contracts see them.
use Rattle.std.specs.Prelude.{ℕ, List, Option}
use Rattle.napt_state.specs.declared.{line.LogPosition.LogPosition, saved_bindings.SavedBinding.SavedBinding}

pub record StateFileModel : Type 0 where
  pub clock : ℕ
  -- The log of the run, if it had one.
  pub log : Option LogPosition
  pub bindings : List SavedBinding

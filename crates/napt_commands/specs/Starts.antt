-- The start of a run.
use Rattle.napt_rules.specs.Prelude.{Rules, State, TakesState}
use Rattle.std.specs.Prelude.{◌≡◌, true}
use Rattle.napt_account.specs.LogStarts.{SavedLogStateModel, is_saved_log_state}

pub record RunStartModel : Type 0 where
  pub rules : Rules
  pub state : State
  -- The accounts of a log that the state contains.
  pub saved : SavedLogStateModel

-- A run can start here: its configuration accepts the state, and the saved counts of the log are small enough.
pub record CanStart (start : RunStartModel) : Type 0 where
  pub taken : TakesState start.rules start.state
  pub saved : is_saved_log_state start.state start.saved ≡ true

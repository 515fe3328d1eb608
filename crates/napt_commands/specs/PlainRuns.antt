-- A run whose outcomes alone are needed, by the inputs that it has processed.
use Rattle.std.specs.Prelude.{◌≡◌, Bool, List, [], ◌∷◌, ◌++◌, false}
use Rattle.napt_rules.specs.Prelude.{Arrival, Rules, State, effect_from, with_redirects}
use Rattle.napt_rules.specs.declared.Outcome.{Outcome}
use Rattle.napt_commands.specs.Starts.{RunStartModel}

pub record PlainRunModel : Type 0 where
  pub rules : Rules
  -- The state from which the run continues.
  pub state : State
  pub inputs : List Arrival
  -- Whether a step has failed, after which the run does not continue.
  pub is_stopped : Bool

abbrev pub plain_from : RunStartModel → PlainRunModel
plain_from start = record {
  rules = start.rules;
  state = with_redirects start.rules start.state;
  inputs = [];
  is_stopped = false;
}

-- The outcome is the last of the sequential run over the inputs so far and this one.
abbrev pub IsOutcome : PlainRunModel → Arrival → Outcome → Type 0
IsOutcome run input outcome = (effect_from run.rules run.state (run.inputs ++ input ∷ [])).outcomes
    ≡ (effect_from run.rules run.state run.inputs).outcomes ++ outcome ∷ []

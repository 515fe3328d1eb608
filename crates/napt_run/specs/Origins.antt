-- The origin of a run: a configuration, and a state.
use Rattle.std.specs.Prelude.{List}
use Rattle.napt_config.specs.Rules.{Rules}
use Rattle.napt_rules.specs.Prelude.{Arrival, RunResult, State, initial_state, next_state, run_result_from, with_redirects}
use Rattle.napt_dispatch.specs.{RunsThrough.LeavesState, declared.workers.RunSummary.RunSummary}
use Rattle.napt_run.specs.declared.start.Start.{Start}

pub record OriginModel : Type 0 where
  pub rules : Rules
  pub state : State

-- Returns the origin of a run of a configuration before any input.
abbrev pub initial_origin : Rules → OriginModel
initial_origin rules = record { rules = rules; state = initial_state rules }

-- Returns the origin of a run that continues from a state under a configuration.
abbrev pub resumed_origin : Rules → State → OriginModel
resumed_origin rules state = record { rules = rules; state = with_redirects rules state }

abbrev pub origin_of : Start → OriginModel
origin_of start = resumed_origin start.config.now start.state.now

-- Returns the result of a run over these inputs.
unfoldable pub ran_by : OriginModel → List Arrival → RunResult
ran_by origin inputs = run_result_from origin.rules origin.state inputs

-- The returned summary gives the state at the end of the run.
abbrev pub GivesState : OriginModel → List Arrival → RunSummary → Type 0
GivesState origin inputs summary = LeavesState origin.rules (next_state origin.rules origin.state inputs) summary

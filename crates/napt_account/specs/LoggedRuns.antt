-- A run with its log, as a function of its inputs.
use Rattle.std.specs.Prelude.{◌≡◌, ℕ, ◌^◌, ◌≤◌, Bool, false, List, [], ◌∷◌, ◌++◌, length}
use Rattle.napt_rules.specs.Prelude.{Arrival, Rules, RulesInvariant, State, effect_from, last_clock, with_redirects}
use Rattle.napt_sequential.specs.{SequentialRuns.SequentialRunInvariant, Traces.traces_of, declared.{fault.RunFault.RunFault, passage.Trace.Trace, sequential_run.SequentialRun.SequentialRun}}
use Rattle.napt_sequential.specs.declared.fault.RunFault.TheVariants as reasons
use Rattle.napt_account.specs.{declared.logged_run.LogStep.LogStep, BindingTallies.use_of, Effects.EffectsComeFrom, Log.{LogModel, log_on}, LogBuilders.{LogBuilderModel, part_in}, LogStarts.{SavedLogStateModel, empty_state, log_started, no_saved_log}, ResumedLogRuns.part_of}

pub record LoggedRunModel : Type 0 where
  pub rules : Rules
  -- The state from which the run starts, with the redirects of its configuration, and the log there.
  pub state : State
  pub log : LogModel
  pub inputs : List Arrival
  -- True if a step failed.
  pub is_stopped : Bool

-- Returns the only value in a ghost log, or a default if it has none.
abbrev pub only_in : {X : Type 0} → X → List (ℕ × X) → X
only_in none [] = none
only_in none (kept ∷ more) = kept.1

abbrev pub state_begun : Rules → List (ℕ × State) → State
state_begun rules kept = with_redirects rules (only_in empty_state kept)

abbrev pub log_begun : Rules → List (ℕ × State) → List (ℕ × SavedLogStateModel) → LogModel
log_begun rules kept saved = log_started rules (only_in empty_state kept) (only_in no_saved_log saved)

-- A step fails because there were too many inputs, or because memory is refused.
abbrev pub IsStepFault : List Arrival → RunFault → Type 0
IsStepFault inputs reasons.TooMany = 2 ^ 32 ≤ length inputs
IsStepFault inputs reasons.Memory = Unit {0}
IsStepFault inputs (reasons.Pool fault) = ⊥

-- The run had these inputs from a state, and its log has the effects of their legs.
pub record IsLoggedRun (state : State) (log : LogModel) (inputs : List Arrival) (it : SequentialRun)
    (builder : LogBuilderModel) : Type 0 where
  pub keeps : RulesInvariant builder.rules
  pub stands : SequentialRunInvariant builder.rules state inputs it
  pub come : EffectsComeFrom builder.rules state log
  pub clock : builder.clock ≡ last_clock state.clock inputs
  pub log_is : builder.log ≡ log_on builder.rules state log inputs
  pub taken : builder.taken ≡ length inputs
  pub goes_on : builder.is_stopped ≡ false

-- The result of a step on one more input of the run: the last outcome of the run over all inputs, the bindings that the
-- packet used, and the part of the log.
pub record LoggedStepPost (run : LoggedRunModel) (input : Arrival) (step : LogStep) : Type 0 where
  pub outcome : (effect_from run.rules run.state (run.inputs ++ input ∷ [])).outcomes
      ≡ (effect_from run.rules run.state run.inputs).outcomes ++ step.outcome ∷ []
  pub effects : Trace
  pub trace : traces_of run.rules run.state (run.inputs ++ input ∷ [])
      ≡ traces_of run.rules run.state run.inputs ++ effects ∷ []
  pub used : step.part.used ≡ use_of (log_on run.rules run.state run.log run.inputs) effects
  pub part : part_in step.part ≡ part_of run.rules run.state run.log run.inputs input

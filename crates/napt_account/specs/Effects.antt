-- The log by the effects of the inputs, as the translators record them, without the inputs themselves.
use Rattle.std.specs.{Prelude.{◌≡◌, ◌≤◌, ℕ, true, false, List, [], ◌∷◌, ◌++◌}, List.{fold, list_any}}
use Rattle.napt_rules.specs.Prelude.{Arrival, Rules, RulesInvariant, State, TakesState, last_clock, with_redirects}
use Rattle.napt_binding.specs.Ends.{is_before}
use Rattle.napt_sequential.specs.{Traces.traces_of, declared.passage.{Passage.{Passage, TheVariants.{Made, Out, In}}, Trace.Trace}}
use Rattle.napt_account.specs.{Log.{LogModel, after_input, after_leg, entry_is_of, log_on}, ResumedLogRuns.IsLogOf}

abbrev pub log_after : LogModel → List Trace → LogModel
log_after log effects = fold after_input log effects

-- A leg can have this effect at a time, in ns, after this log: the end of its binding is later, and the external
-- endpoint of a binding that it makes has no open entry.
abbrev pub CanCome : ℕ → LogModel → Passage → Type 0
CanCome now log (Made timed) = (is_before now timed.end ≡ true)
    × (list_any (λ numbered. entry_is_of now timed.row numbered.entry) log.entries ≡ false)
CanCome now log (Out timed) = is_before now timed.end ≡ true
CanCome now log (In timed) = is_before now timed.end ≡ true
CanCome now log _ = Unit {0}

-- The legs of the next input can have these effects.
pub record AreNextEffects (was : ℕ) (log : LogModel) (effects : Trace) : Type 0 where
  pub later : was ≤ effects.now
  pub first : CanCome effects.now log effects.first
  pub second : CanCome effects.now (after_leg effects.now effects.first log) effects.second

-- LAWS: the log by the effects of a run's inputs is the log of the run, and each of these effects is possible

abbrev pub EffectsAreTheLog : Type 0
EffectsAreTheLog = (rules : Rules) (state : State) (log : LogModel) (inputs : List Arrival) →
    log_after log (traces_of rules state inputs) ≡ log_on rules state log inputs

abbrev pub EffectsComeFrom : Rules → State → LogModel → Type 0
EffectsComeFrom rules state log = (before : List Arrival) (input : Arrival) (effects : Trace) →
    traces_of rules state (before ++ input ∷ []) ≡ traces_of rules state before ++ effects ∷ [] →
    AreNextEffects (last_clock state.clock before) (log_on rules state log before) effects

abbrev pub EffectsCome : Type 0
EffectsCome = (rules : Rules) → RulesInvariant rules → (state : State) → TakesState rules state → (log : LogModel) →
    IsLogOf rules (with_redirects rules state) log → EffectsComeFrom rules (with_redirects rules state) log

-- LAWS: a run over two lists of inputs is a run over the first, and then one over the second from the state after it.
use Rattle.std.specs.{Prelude.{◌≡◌, ℕ, ◌+◌, ◌^◌, ◌<◌, ◌≤◌, max, List, ◌++◌, length, map, zip, flat_map, Some, slice_get}, List.Sorted.{IsNonDecreasingBy, IsPermutation}}
use Rattle.napt_config.specs.Rules.{Rules, RulesInvariant, pair_of}
use Rattle.napt_rules.specs.{Bindings.{Binding, bindings_at}, Life.{purge, hold_ago, live_and_held}, Rows.{row, rank}, Endpoints.IsSound, Lists.Each, Inputs.Arrival, Misfits.with_redirects, RunLaws.{AreFlowsOwn, TakesState}}
use Rattle.napt_config.specs.declared.settings.Timers.{Timers}
use Rattle.napt_rules.specs.Sequential.{LegAct, RunResult, last_clock, State, taken_at_clock, effect_from, next_state, run_result_from}

-- An act of a run whose inputs come after `before` others, by which the number of its leg is greater.
abbrev pub act_behind : ℕ → LegAct → LegAct
act_behind before a = record a { leg = record a.leg { number = before + a.leg.number } }

-- Adds the counts of two runs, address by address.
abbrev pub added_counts : List ℕ → List ℕ → List ℕ
added_counts counts others = map (λ both. both.0 + both.1) (zip counts others)

-- The result of a run and then of one that is resumed from it; the rows are those of the bindings live at the end.
abbrev pub run_then : RunResult → RunResult → RunResult
run_then first rest = record {
  outcomes = first.outcomes ++ rest.outcomes;
  bindings = rest.bindings;
  legs = added_counts first.legs rest.legs;
}

pub record RunGoesOn (rules : Rules) (state : State) (first rest : List Arrival) : Type 0 where
  pub ran : run_result_from rules state (first ++ rest)
      ≡ run_then (run_result_from rules state first) (run_result_from rules (next_state rules state first) rest)
  pub acts : (effect_from rules state (first ++ rest)).acts ≡ (effect_from rules state first).acts
      ++ map (act_behind (length first)) (effect_from rules (next_state rules state first) rest).acts
  pub left : next_state rules state (first ++ rest) ≡ next_state rules (next_state rules state first) rest

abbrev pub RunsGoOn : Type 0
RunsGoOn = (rules : Rules) (state : State) (first rest : List Arrival) → RunGoesOn rules state first rest

-- Bindings and flows of a state that are neither live nor held at its clock change nothing that follows.
pub record GoneBindingsDoNotCount (rules : Rules) (state : State) (inputs : List Arrival) : Type 0 where
  pub ran : run_result_from rules (taken_at_clock rules state) inputs ≡ run_result_from rules state inputs
  pub acts : (effect_from rules (taken_at_clock rules state) inputs).acts ≡ (effect_from rules state inputs).acts
  pub left : next_state rules (taken_at_clock rules state) inputs ≡ next_state rules state inputs

abbrev pub GoneBindingsChangeNothing : Type 0
GoneBindingsChangeNothing = (rules : Rules) (state : State) (inputs : List Arrival) →
    GoneBindingsDoNotCount rules state inputs

-- THE CLOCKS OF THE INPUTS, which start again in a resumed run

abbrev pub raised : ℕ → Arrival → Arrival
raised clock input = record input { clock = max clock input.clock }

-- The inputs, with each clock that is below `clock` raised to it.
abbrev pub inputs_from_clock : ℕ → List Arrival → List Arrival
inputs_from_clock clock inputs = map (raised clock) inputs

-- Inputs with a clock before that of the state count as if they had the state's clock.
pub record EarlierInputsCountAtClock (rules : Rules) (state : State) (inputs : List Arrival) : Type 0 where
  pub course : effect_from rules state (inputs_from_clock state.clock inputs) ≡ effect_from rules state inputs
  pub last : last_clock state.clock (inputs_from_clock state.clock inputs) ≡ last_clock state.clock inputs

abbrev pub EarlierClocksAreTheStates : Type 0
EarlierClocksAreTheStates = (rules : Rules) (state : State) (inputs : List Arrival) →
    EarlierInputsCountAtClock rules state inputs

-- ALIKE: two states that are the same as packets see them

-- From a time on, packets see no difference between the lists: the same bindings live, and the same are held as long.
pub record AreAlike (timers : Timers) (now : ℕ) (list other : List Binding) : Type 0 where
  pub live : IsPermutation (purge timers now list) (purge timers now other)
  pub held : (t : ℕ) → hold_ago timers now ≤ t → IsPermutation (map row (purge timers t list))
      (map row (purge timers t other))

-- The bindings `made` stand for those of `list`: alike, each live or held, none used after `now`, and sorted by rank.
pub record AreBindingsLeft (timers : Timers) (now : ℕ) (list made : List Binding) : Type 0 where
  pub alike : AreAlike timers now list made
  pub taken : live_and_held timers now made ≡ made
  pub last : Each (λ b. b.last ≤ now) made
  pub flows : Each (λ b. AreFlowsOwn now b.flows) made
  pub order : IsNonDecreasingBy (λ b. rank b.row) made

-- A state in the order in which it is saved: one external address after another, as in the pool.
pub record IsStateInOrder (rules : Rules) (state ordered : State) : Type 0 where
  pub clock : ordered.clock ≡ state.clock
  pub parts : List (List Binding)
  pub list : ordered.list ≡ flat_map (λ part. part) parts
  pub many : length parts ≡ length rules.pool
  pub each : (place address : ℕ) (part : List Binding) → slice_get rules.pool place ≡ Some address →
      slice_get parts place ≡ Some part → AreBindingsLeft rules.timers state.clock (bindings_at address state.list) part

-- A run from an alike state of the same clock gives the same (rows if numbers are below 2 ^ 16), and leaves one alike.
pub record AlikeRunGoesOn (rules : Rules) (state other : State) (inputs : List Arrival) : Type 0 where
  pub outcomes : (effect_from rules other inputs).outcomes ≡ (effect_from rules state inputs).outcomes
  pub acts : (effect_from rules other inputs).acts ≡ (effect_from rules state inputs).acts
  pub ran : Each (λ r. r.external.number < 2 ^ 16) (run_result_from rules state inputs).bindings →
      run_result_from rules other inputs ≡ run_result_from rules state inputs
  pub left : AreAlike rules.timers (last_clock state.clock inputs) (next_state rules state inputs).list
      (next_state rules other inputs).list

abbrev pub AlikeStatesGoOn : Type 0
AlikeStatesGoOn = (rules : Rules) → RulesInvariant rules → (state other : State) →
    IsSound (pair_of rules) state.list → IsSound (pair_of rules) other.list → other.clock ≡ state.clock →
    AreAlike rules.timers state.clock state.list other.list → (inputs : List Arrival) →
    AlikeRunGoesOn rules state other inputs

-- SAVED in that order, and resumed

-- Law: a sound state and the state as it is saved are alike.
abbrev pub OrderedStatesAreAlike : Type 0
OrderedStatesAreAlike = (rules : Rules) → RulesInvariant rules → (state ordered : State) →
    IsSound (pair_of rules) state.list →
    IsStateInOrder rules state ordered → AreAlike rules.timers state.clock state.list ordered.list

-- Law: a configuration that takes a state takes it as it is saved.
abbrev pub OrderedStatesAreTaken : Type 0
OrderedStatesAreTaken = (rules : Rules) → RulesInvariant rules → (state ordered : State) → TakesState rules state →
    IsStateInOrder rules state ordered → TakesState rules ordered

-- A configuration takes the state that a run saves, and the run from there is the rest of the run over all inputs.
pub record SavedRunGoesOn (rules : Rules) (state saved : State) (first rest : List Arrival) : Type 0 where
  pub taken : TakesState rules saved
  pub outcomes : (effect_from rules state (first ++ rest)).outcomes
      ≡ (effect_from rules state first).outcomes ++ (effect_from rules (with_redirects rules saved) rest).outcomes
  pub acts : (effect_from rules state (first ++ rest)).acts ≡ (effect_from rules state first).acts
      ++ map (act_behind (length first)) (effect_from rules (with_redirects rules saved) rest).acts
  pub ran : Each (λ r. r.external.number < 2 ^ 16) (run_result_from rules state (first ++ rest)).bindings →
      run_result_from rules state (first ++ rest)
      ≡ run_then (run_result_from rules state first) (run_result_from rules (with_redirects rules saved) rest)
  pub left : AreAlike rules.timers (last_clock state.clock (first ++ rest))
      (next_state rules state (first ++ rest)).list
      (next_state rules (with_redirects rules saved) rest).list

abbrev pub SavedRunsGoOn : Type 0
SavedRunsGoOn = (rules : Rules) → RulesInvariant rules → (state saved : State) → TakesState rules state →
    (first rest : List Arrival) → IsStateInOrder rules (next_state rules (with_redirects rules state) first) saved →
    SavedRunGoesOn rules (with_redirects rules state) saved first rest

-- LAWS of runs, after any inputs.
use Rattle.std.specs.Prelude.{AllPairs, List, ◌≡◌, ℕ, ◌≤◌, max, Some, None, true, false, map, IfSome}
use Rattle.napt_config.specs.Rules.{Rules, RulesInvariant, pair_of, block_of, is_inside}
use Rattle.napt_rules.specs.{Bindings.Binding, Endpoints.{IsSound, AreApart}, Opening.opening, Inputs.Arrival, Quota.count_for, declared.{Flow.Flow, Row.Row}, Lists.Each}
use Rattle.napt_rules.specs.{Classes.IsBlockNumber, Rows.row, Sequential.{run, last_clock, State, initial_state, effect_from, next_state}, Misfits.{with_redirects, flows_share, misfit}}

-- SOUND: no two bindings share an endpoint

-- Law: this holds under every configuration, since its redirects share no endpoint (RFC 4787, REQ-1 and REQ-3).
abbrev pub RunsAreSound : Type 0
RunsAreSound = (rules : Rules) → RulesInvariant rules → (inputs : List Arrival) →
    IsSound (pair_of rules) (run rules inputs (opening rules)).list

-- Law: the same, stated of each two bindings.
abbrev pub RunsStayApart : Type 0
RunsStayApart = (rules : Rules) → RulesInvariant rules → (inputs : List Arrival) →
    AllPairs AreApart (run rules inputs (opening rules)).list

-- QUOTA: no inside host has more bindings than the quota allows (RFC 6888, REQ-4)

-- Law: this holds of every host at every external address.
abbrev pub RunsKeepQuota : Type 0
RunsKeepQuota = (rules : Rules) (quota : ℕ) → rules.quota ≡ Some quota → (inputs : List Arrival) (address host : ℕ) →
    count_for address host (run rules inputs (opening rules)).list ≤ quota

-- BLOCKS: every binding but a redirect has an external number of its inside host's block (RFC 7422, section 2), so that
-- the configuration alone shows which host had a number

-- The row is a redirect, its host has no block, or its external number is in the block of its host.
abbrev pub IsInItsBlock : Rules → Row → Type 0
IsInItsBlock rules row = row.fixed ≡ false →
    IfSome (block_of rules row.inside.address) (λ block. IsBlockNumber block row.external.number)

abbrev pub RunsKeepToBlocks : Type 0
RunsKeepToBlocks = (rules : Rules) → RulesInvariant rules → (inputs : List Arrival) →
    Each (IsInItsBlock rules) (map row (run rules inputs (opening rules)).list)

-- FROM A STATE: what holds of every run holds of a run from a state that its configuration takes

abbrev pub TakesState : Rules → State → Type 0
TakesState rules state = misfit rules state ≡ None

abbrev pub TakenStatesAreSound : Type 0
TakenStatesAreSound = (rules : Rules) → RulesInvariant rules → (state : State) → TakesState rules state →
    (inputs : List Arrival) →
    IsSound (pair_of rules) (effect_from rules (with_redirects rules state) inputs).list

abbrev pub TakenStatesKeepToBlocks : Type 0
TakenStatesKeepToBlocks = (rules : Rules) → RulesInvariant rules → (state : State) → TakesState rules state →
    (inputs : List Arrival) →
    Each (IsInItsBlock rules) (map row (effect_from rules (with_redirects rules state) inputs).list)

-- Law: no host gets more bindings than the quota allows or, if that is more, than it had in the state.
abbrev pub TakenStatesKeepQuota : Type 0
TakenStatesKeepQuota = (rules : Rules) (quota : ℕ) → rules.quota ≡ Some quota → (state : State) (inputs : List Arrival)
    (address host : ℕ) → count_for address host (effect_from rules (with_redirects rules state) inputs).list
    ≤ max quota (count_for address host (with_redirects rules state).list)

-- The flows were last used at the clock or before, and no two of them have the same remote endpoint.
pub record AreFlowsOwn (clock : ℕ) (flows : List Flow) : Type 0 where
  pub by : Each (λ f. f.last ≤ clock) flows
  pub single : flows_share flows ≡ false

-- The binding is of an inside host, and it and its flows were last used at the clock or before.
pub record IsBindingOwn (rules : Rules) (clock : ℕ) (b : Binding) : Type 0 where
  pub host : is_inside rules b.row.inside.address ≡ true
  pub last : b.last ≤ clock
  pub flows : AreFlowsOwn clock b.flows

-- Every binding of the list that is not a redirect is such a binding.
abbrev pub AreAllOwn : Rules → ℕ → List Binding → Type 0
AreAllOwn rules clock list = Each (λ b. b.row.fixed ≡ false → IsBindingOwn rules clock b) list

abbrev pub TakenStatesAreOwn : Type 0
TakenStatesAreOwn = (rules : Rules) → RulesInvariant rules → (state : State) → TakesState rules state →
    (inputs : List Arrival) →
    AreAllOwn rules (last_clock state.clock inputs) (effect_from rules (with_redirects rules state) inputs).list

-- RESUMED UNDER THE SAME CONFIGURATION

-- Law: taking up the initial state, or the state after a run under the same configuration, does not change it.
abbrev pub OwnStatesStay : Type 0
OwnStatesStay = (rules : Rules) → (with_redirects rules (initial_state rules) ≡ initial_state rules) ×
    ((state : State) (inputs : List Arrival) →
    with_redirects rules (next_state rules (with_redirects rules state) inputs)
    ≡ next_state rules (with_redirects rules state) inputs)

-- Law: a configuration takes its initial state, and the state after a run from any state that it takes.
abbrev pub OwnStatesAreTaken : Type 0
OwnStatesAreTaken = (rules : Rules) → TakesState rules (initial_state rules) × (RulesInvariant rules → (state : State) →
    TakesState rules state → (inputs : List Arrival) →
    TakesState rules (next_state rules (with_redirects rules state) inputs))

-- The legs that a dispatcher offers to its workers, and the answers that it takes from them.
--
-- As long as the answers are right, they are those of the run, and the next leg offered is that of the run. It is a
-- premise here that they are right, which is proved once the workers are joined.
use Rattle.std.specs.Prelude.{◌≡◌, ⊤, ℕ, zero, suc, ◌<◌, ◌≤◌, max, Bool, true, false, List, [], ◌∷◌, ◌++◌, map, length, slice_index, slice_index_or, Result, Ok, Err}
use Rattle.napt_config.specs.Rules.{Rules}
use Rattle.napt_rules.specs.{Prelude.{bindings_at, live_and_held, Arrival, rows, State, initial_state, effect_from, legs_at, LocalState}, declared.{Row.Row, Leg.Leg, Outcome.Outcome}}
use Rattle.napt_translate.specs.Translators.{TranslatorModel, initial_translator, with_local_state}
use Rattle.napt_pool.specs.{Faults.{IsFaultOf, is_shut}, declared.fault.PoolFault.PoolFault}
use Rattle.napt_sequential.specs.declared.{fault.RunFault.RunFault, passage.Passage.Passage, leg_trace.TracedAnswer.TracedAnswer, outcome.StepResult.StepResult}
use Rattle.napt_sequential.specs.Steps.{steps_of, traced_replies}
use Rattle.napt_dispatch.specs.declared.outcome_sink.InputResult.{InputResult}
use Rattle.napt_sequential.specs.declared.fault.RunFault.TheVariants as faults
use Rattle.napt_laws.specs.Dispatching.{IsFrontOf}

-- WORKERS

-- Returns the bindings of a state at one external address, and the clock of the state, in ns.
abbrev pub local_bindings : State → ℕ → LocalState
local_bindings start address = record { list = bindings_at address start.list; at = start.clock }

-- Returns the translators of the first n addresses of the pool, each with the bindings of the state at its address.
abbrev pub started_from : Rules → State → ℕ → List TranslatorModel
started_from rules start zero = []
started_from rules start (suc n) =
    started_from rules start n ++ with_local_state (initial_translator n rules)
    (local_bindings start (slice_index rules.pool n)) ∷ []

-- Returns the translators of the first n addresses of the pool before any leg.
abbrev pub started_translators : Rules → ℕ → List TranslatorModel
started_translators rules n = started_from rules (initial_state rules) n

-- Returns the list of worker w, from a list with one list for each worker.
abbrev pub of_worker : {X : Type 0} → List (List X) → ℕ → List X
of_worker lists w = slice_index_or lists w []

-- The fault may come in a run that has started. A gate that is always open is never reported as shut.
abbrev pub IsFaultUnder : Bool → RunFault → Type 0
IsFaultUnder open_gate faults.Memory = ⊤
IsFaultUnder open_gate faults.TooMany = ⊥
IsFaultUnder open_gate (faults.Pool fault) = open_gate ≡ true → is_shut fault ≡ false

-- The fault may come from dispatching, which starts no threads. A gate that is always open is not reported as shut.
abbrev pub IsDispatchFault : Bool → RunFault → Type 0
IsDispatchFault open_gate faults.Memory = ⊤
IsDispatchFault open_gate faults.TooMany = ⊥
IsDispatchFault open_gate (faults.Pool fault) = IsFaultOf (λ w. ⊤) fault × (open_gate ≡ true → is_shut fault ≡ false)

-- Returns the rows of a translator that are live at the later of `now` and its own time, in ns.
abbrev pub rows_after : ℕ → TranslatorModel → List Row
rows_after now state = rows state.rules.timers (max now state.table.at) state.table.list

-- The translator has the bindings of its address in the state, which are live or held at the state's clock.
pub record IsLeftWith (rules : Rules) (state : State) (address : ℕ) (translator : TranslatorModel) : Type 0 where
  pub timers : translator.rules.timers ≡ rules.timers
  pub past : translator.table.at ≤ state.clock
  pub taken_are : live_and_held rules.timers state.clock translator.table.list ≡ bindings_at address state.list

-- OFFERS AND ANSWERS

-- The answers taken from each worker, with their records, are its translator's first answers to the legs offered to it.
abbrev pub AnswersAreRight : {P : Type 0} → (Passage → P) → Rules → State → List (List Leg) →
    List (List (TracedAnswer P)) → Type 0
AnswersAreRight tells rules start offered taken =
    (w : ℕ) → w < length rules.pool →
    let address : ℕ = slice_index rules.pool w in
    IsFrontOf (of_worker taken w) (traced_replies tells rules address (of_worker offered w)
    (local_bindings start address))

-- THE RESULTS OF INPUTS

-- Returns the result of an input from its step in the run. `tells` gives the record of each leg.
abbrev pub input_result : {P : Type 0} → (Passage → P) → StepResult → InputResult P
input_result tells step = record {
  outcome = step.outcome;
  now = step.trace.now;
  first = tells step.trace.first;
  second = tells step.trace.second;
}

abbrev pub input_results : {P : Type 0} → (Passage → P) → Rules → State → List Arrival → List (InputResult P)
input_results tells rules start inputs = map (input_result tells) (steps_of rules start inputs)

-- THE END

-- Combines the results of dispatching and of closing. A fault of dispatching takes precedence over one of the pool.
abbrev pub first_fault : {D C : Type 0} → Result D RunFault → Result C PoolFault → Result (D × C) RunFault
first_fault (Err fault) closed = Err fault
first_fault (Ok dispatched) (Err fault) = Err (faults.Pool fault)
first_fault (Ok dispatched) (Ok ended) = Ok (dispatched, ended)

-- A dispatcher's result for a run from a state: the legs offered, the outcomes and the numbers of legs are the run's.
pub record IsDispatchedFrom (rules : Rules) (start : State) (inputs : List Arrival) (offered : List (List Leg))
    (outcomes : List Outcome) (numbers : List ℕ) : Type 0 where
  pub legs : offered ≡ map (λ address. legs_at address (effect_from rules start inputs).acts) rules.pool
  pub outcomes_are : outcomes ≡ (effect_from rules start inputs).outcomes
  pub numbers_are : numbers ≡ map (λ address. length (legs_at address (effect_from rules start inputs).acts)) rules.pool

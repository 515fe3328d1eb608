-- A run from an input source to an outcome sink.
use Rattle.std.specs.Prelude.{◌≡◌, ◌⊎◌, ⊤, ℕ, ◌^◌, ◌<◌, max, Bool, List, [], ◌∷◌, ◌++◌, map, length, slice_get, Option, Some, None, Result, Ok, Err, MatchResult}
use Rattle.napt_config.specs.Rules.{Rules, RulesInvariant}
use Rattle.napt_rules.specs.{Prelude.{Arrival, State, last_clock, next_state, run_result_from}, declared.Leg.Leg}
use Rattle.napt_translate.specs.Translators.{TranslatorModel}
use Rattle.napt_pool.specs.{declared.pool.Pool.Pool, Pools.{initial_machines, accepted_items, zip_with, taken_answers as taken}}
use Rattle.napt_sequential.specs.{declared.{passage.Passage.Passage, leg_trace.TracedAnswer.TracedAnswer, fault.RunFault.RunFault}, Inputs.InputsCame}
use Rattle.napt_dispatch.specs.declared.{outcome_sink.InputResult.InputResult, dispatcher.{Dispatcher.Dispatcher, DispatchResult.DispatchResult}, faults.DispatchFault.DispatchFault}
use Rattle.napt_dispatch.specs.declared.{dispatcher.{DispatchEnd.DispatchEnd, reading.EndOfInputs.EndOfInputs}, faults.PassFault.PassFault, workers.RunSummary.RunSummary}
use Rattle.napt_dispatch.specs.{OutcomeLists.collected_outcome, Dispatch.{IsFaultUnder, IsDispatchedFrom, AnswersAreRight, input_results, IsLeftWith}}
use Rattle.napt_dispatch.specs.{RunProgresses.{RunProgressModel, progress_in, times_in, OutcomesAreHandedOver}, DispatcherInvariants.{dispatcher_state, IsSizedFor, DispatcherInvariant, KeepsAt, DispatcherIsDone, PoolGrows, DispatcherHalts}}
use Rattle.napt_laws.specs.Dispatching.{IsFrontOf}
use Rattle.napt_dispatch.specs.declared.faults.DispatchFault.TheVariants as dispatch_faults
use Rattle.napt_dispatch.specs.declared.dispatcher.DispatchEnd.TheVariants as endings
use Rattle.napt_dispatch.specs.declared.faults.PassFault.TheVariants as pass_faults

-- WRITTEN OUTCOMES

-- Returns the results of inputs, each with the arrival time of its input, in ns.
abbrev pub timed_results : {X : Type 0} → List Arrival → List X → List (ℕ × X)
timed_results inputs xs = zip_with (λ input x. (input.time, x)) inputs xs

-- A relation of a sink before and after it accepts results. `Failing` also has the fault with which that ended.
abbrev pub OutcomeTaking : Type 0 → Type 0 → Type 1
OutcomeTaking P S = S → List (ℕ × InputResult P) → S → Type 0

abbrev pub Failing : Type 0 → Type 0 → Type 0 → Type 1
Failing P S F = S → List (ℕ × InputResult P) → F → S → Type 0

-- The first of these results were written, and the fault came while the others were written.
pub record DeparturesFail {P S F : Type 0} (takes : OutcomeTaking P S) (fails : Failing P S F) (before : S)
    (went : List (ℕ × InputResult P)) (fault : F) (after : S) : Type 0 where
  pub first : List (ℕ × InputResult P)
  pub others : List (ℕ × InputResult P)
  pub middle : S
  pub went_is : went ≡ first ++ others
  pub took : takes before first middle
  pub failed : fails middle others fault after

-- The results that left the window were written.
pub record HandOverOk {P S : Type 0} (takes : OutcomeTaking P S) (before : S) (window : RunProgressModel P) (after : S)
    (later : RunProgressModel P) : Type 0 where
  pub went : List (ℕ × InputResult P)
  pub handed : OutcomesAreHandedOver went window later
  pub took : takes before went after

-- Writing the results that left the window failed.
pub record HandOverErr {P S F : Type 0} (takes : OutcomeTaking P S) (fails : Failing P S F) (before : S)
    (window : RunProgressModel P)
    (after : S) (later : RunProgressModel P) (fault : F) : Type 0 where
  pub went : List (ℕ × InputResult P)
  pub handed : OutcomesAreHandedOver went window later
  pub failed : DeparturesFail takes fails before went fault after

-- WITH A POOL

-- The pool has the same workers, the dispatcher's invariant still holds, and these results left the window.
pub record DispatcherGoesOn {P M G : Type 0} (tells : Passage →
    P) (pool : Pool M G Leg (TracedAnswer P)) (d : Dispatcher P)
    (went : List (ℕ × InputResult P)) (later_pool : Pool M G Leg (TracedAnswer P)) (later : Dispatcher P) : Type 0 where
  pub grows : PoolGrows pool later_pool
  pub sized : IsSizedFor later_pool later
  pub times_stay : times_in later.progress ≡ times_in d.progress
  pub left_is : later.progress.left ≡ d.progress.left ++ went
  pub keeps : KeepsAt tells pool d later_pool later

-- The dispatcher continues, and the results that left its window were written.
pub record OutcomesLeave {P M G S : Type 0} (tells : Passage →
    P) (takes : OutcomeTaking P S) (pool : Pool M G Leg (TracedAnswer P))
    (d : Dispatcher P) (before : S) (later_pool : Pool M G Leg (TracedAnswer P)) (later : Dispatcher P) (after : S) :
    Type 0
  where
    pub went : List (ℕ × InputResult P)
    pub goes : DispatcherGoesOn tells pool d went later_pool later
    pub took : takes before went after

-- Dispatching ended with a fault, after the results that left the window were written.
pub record RunThroughHalts {P M G S : Type 0} (tells : Passage → P) (open_gate : Bool) (takes : OutcomeTaking P S)
    (pool : Pool M G Leg (TracedAnswer P)) (d : Dispatcher P) (before : S)
    (later_pool : Pool M G Leg (TracedAnswer P)) (after : S)
    (fault : RunFault) : Type 0 where
  pub last_pool : Pool M G Leg (TracedAnswer P)
  pub last : Dispatcher P
  pub lets : OutcomesLeave tells takes pool d before last_pool last after
  pub halted : DispatcherHalts open_gate last_pool later_pool fault

module _ {P M G S F : Type 0} (tells : Passage → P) (open_gate : Bool) (takes : OutcomeTaking P S)
    (fails : Failing P S F)
    (pool : Pool M G Leg (TracedAnswer P)) (d : Dispatcher P) (before : S) (later_pool : Pool M G Leg (TracedAnswer P))
    (later : Dispatcher P) (after : S) where
  -- Writing the results that left the window failed with this fault.
  pub record StopsAt (fault : F) : Type 0 where
    pub went : List (ℕ × InputResult P)
    pub goes : DispatcherGoesOn tells pool d went later_pool later
    pub failed : DeparturesFail takes fails before went fault after

  abbrev pub HaltsAt : DispatchFault F → Type 0
  HaltsAt (dispatch_faults.Departure fault) = StopsAt fault
  HaltsAt (dispatch_faults.Run fault) = RunThroughHalts tells open_gate takes pool d before later_pool after fault

  abbrev pub OutcomesLeaveUnlessFault : {X : Type 0} → Result X (DispatchFault F) → Type 0
  OutcomesLeaveUnlessFault result =
      MatchResult result (λ done. OutcomesLeave tells takes pool d before later_pool later after) HaltsAt

-- READING

-- Before the first input, the pool has a worker for each external address, and the dispatcher has queues for each.
pub record RunThroughStart {P M G : Type 0} (rules : Rules) (pool : Pool M G Leg (TracedAnswer P)) (d : Dispatcher P)
    : Type 0 where
  pub keeps : RulesInvariant rules
  pub count : length (initial_machines pool) ≡ length rules.pool
  pub sized : IsSizedFor pool d
  pub left : d.progress.left ≡ []
  pub under_way : d.progress.under_way ≡ []

-- One more input was read at time `now`, in ns.
pub record ReadInputPost {P M G : Type 0} (tells : Passage → P) (rules : Rules) (now : ℕ) (input : Arrival)
    (pool : Pool M G Leg (TracedAnswer P)) (d : Dispatcher P) (later_pool : Pool M G Leg (TracedAnswer P))
    (later : Dispatcher P)
    : Type 0 where
  pub grows : PoolGrows pool later_pool
  pub sized : IsSizedFor later_pool later
  pub times_are : times_in later.progress ≡ times_in d.progress ++ input.time ∷ []
  pub left_stays : later.progress.left ≡ d.progress.left
  pub served : (start : State) (done rest : List Arrival) → length done ≡ length (progress_in d.progress) →
      max (last_clock start.clock done) input.clock ≡ now →
      DispatcherInvariant tells rules start done ((done ++ input ∷ []) ++ rest) (dispatcher_state pool d) →
      DispatcherInvariant tells rules start (done ++ input ∷ []) ((done ++ input ∷ []) ++ rest)
      (dispatcher_state later_pool later)

-- These are all inputs that were read so far, and all results that left the window.
pub record ReadInputsPost {P M G : Type 0} (tells : Passage → P) (rules : Rules) (pool : Pool M G Leg (TracedAnswer P))
    (d : Dispatcher P) (inputs : List Arrival) (went : List (ℕ × InputResult P))
    (later_pool : Pool M G Leg (TracedAnswer P))
    (later : Dispatcher P) : Type 0 where
  pub grows : PoolGrows pool later_pool
  pub sized : IsSizedFor later_pool later
  pub times_are : times_in later.progress ≡ map (λ i. i.time) inputs
  pub left_is : later.progress.left ≡ went
  pub served : (start : State) → start.clock ≡ d.clock → (rest : List Arrival) →
      DispatcherInvariant tells rules start [] (inputs ++ rest) (dispatcher_state pool d) →
      DispatcherInvariant tells rules start inputs (inputs ++ rest) (dispatcher_state later_pool later)

-- The source returned these inputs, perhaps followed by the end of the inputs or a fault.
abbrev pub HasCome : {A F : Type 0} → (A → List Arrival → A → Type 0) → (A → Option F → A → Type 0) → A → List Arrival →
    A → Type 0
HasCome {A} {F} hands ends before inputs after =
    hands before inputs after ⊎ ((end : Option F) × InputsCame hands ends before inputs end after)

-- The translators of a run end with a state: each has the bindings of its external address, in the order of the pool.
pub record LeavesState (rules : Rules) (state : State) (passed : RunSummary) : Type 0 where
  pub clock : passed.clock ≡ state.clock
  pub many : length passed.translators.items ≡ length rules.pool
  pub each : (place address : ℕ) (translator : TranslatorModel) → slice_get rules.pool place ≡ Some address →
      slice_get passed.translators.items place ≡ Some translator → IsLeftWith rules state address translator

module _ {P A F S B : Type 0} (tells : Passage → P) (rules : Rules) (hands : A → List Arrival → A → Type 0)
    (ends : A → Option F → A → Type 0) (takes : OutcomeTaking P S) (fails : Failing P S B) (is_settled : S → Type 0)
  where
    module _ {M G : Type 0} (pool : Pool M G Leg (TracedAnswer P)) (d : Dispatcher P) (from : A) (before : S)
        (later_pool : Pool M G Leg (TracedAnswer P)) (later : Dispatcher P) (left : A) (after : S) where
      -- The inputs ended or the input source failed, and every input before that was read.
      pub record ReadsToEnd (end : EndOfInputs F) : Type 0 where
        pub inputs : List Arrival
        pub went : List (ℕ × InputResult P)
        pub came : InputsCame hands ends from inputs end.fault left
        pub clock : end.clock ≡ last_clock d.clock inputs
        pub reads : ReadInputsPost tells rules pool d inputs went later_pool later
        pub took : takes before went after

      -- Every input was read, and every outcome was written and flushed.
      pub record ReadsAll (end : EndOfInputs F) : Type 0 where
        pub to_end : ReadsToEnd end
        pub done : DispatcherIsDone later
        pub none_under_way : later.progress.under_way ≡ []
        pub few : length later.progress.left < 2 ^ 64
        pub settled : is_settled after

      -- The outcome sink failed after some inputs were read.
      pub record ReadsSome (fault : B) : Type 0 where
        pub inputs : List Arrival
        pub went : List (ℕ × InputResult P)
        pub come : HasCome hands ends from inputs left
        pub reads : ReadInputsPost tells rules pool d inputs went later_pool later
        pub failed : DeparturesFail takes fails before went fault after

      -- Dispatching ended with a fault after some inputs. The last of them may not have been read.
      pub record ReadsToHalt (open_gate : Bool) (fault : RunFault) : Type 0 where
        pub inputs : List Arrival
        pub unread : List Arrival
        pub went : List (ℕ × InputResult P)
        pub come : HasCome hands ends from (inputs ++ unread) left
        pub last_pool : Pool M G Leg (TracedAnswer P)
        pub last : Dispatcher P
        pub reads : ReadInputsPost tells rules pool d inputs went last_pool last
        pub took : takes before went after
        pub halted : DispatcherHalts open_gate last_pool later_pool fault

      abbrev pub ReadsHalted : Bool → DispatchFault B → Type 0
      ReadsHalted open_gate (dispatch_faults.Departure fault) = ReadsSome fault
      ReadsHalted open_gate (dispatch_faults.Run fault) = ReadsToHalt open_gate fault

module _ {P A F S B : Type 0} (tells : Passage → P) (rules : Rules) (start : State)
    (hands : A → List Arrival → A → Type 0) (ends : A → Option F → A → Type 0) (takes : OutcomeTaking P S)
    (fails : Failing P S B) (is_settled : S → Type 0) where
  -- THE RESULT OF DISPATCHING, from a state

  module _ {M G : Type 0} (from : A) (before : S) (pool : Pool M G Leg (TracedAnswer P)) (left : A) (after : S) where
    -- The inputs ended or the input source failed, and the outcomes of all inputs before that were written.
    pub record DispatchOk (end : Option F) (done : DispatchResult F B) : Type 0 where
      pub inputs : List Arrival
      pub went : List (ℕ × InputResult P)
      pub came : InputsCame hands ends from inputs end left
      pub clock : done.clock ≡ last_clock start.clock inputs
      pub took : takes before went after
      pub settled : is_settled after
      pub few : length inputs < 2 ^ 64
      pub offered_many : length (accepted_items pool) ≡ length rules.pool
      pub answered : map length (taken pool) ≡ map length (accepted_items pool)
      pub right : AnswersAreRight tells rules start (accepted_items pool) (taken pool) →
          (went ≡ timed_results inputs (input_results tells rules start inputs))
          × IsDispatchedFrom rules start inputs (accepted_items pool) (map collected_outcome went) done.legs.items

    -- The outcome sink failed.
    pub record DispatchDeparturesErr (fault : B) : Type 0 where
      pub inputs : List Arrival
      pub went : List (ℕ × InputResult P)
      pub come : HasCome hands ends from inputs left
      pub failed : DeparturesFail takes fails before went fault after
      pub offered_many : length (accepted_items pool) ≡ length rules.pool
      pub right : AnswersAreRight tells rules start (accepted_items pool) (taken pool) →
          IsFrontOf went (timed_results inputs (input_results tells rules start inputs))

    -- Dispatching itself ended with a fault.
    pub record DispatchErr : Type 0 where
      pub inputs : List Arrival
      pub went : List (ℕ × InputResult P)
      pub come : HasCome hands ends from inputs left
      pub took : takes before went after
      pub offered_many : length (accepted_items pool) ≡ length rules.pool
      pub right : AnswersAreRight tells rules start (accepted_items pool) (taken pool) →
          IsFrontOf went (timed_results inputs (input_results tells rules start inputs))

    abbrev pub DispatchPost : DispatchResult F B → DispatchEnd F B → Type 0
    DispatchPost done endings.Whole = DispatchOk None done
    DispatchPost done (endings.Arrival fault) = DispatchOk (Some fault) done
    DispatchPost done (endings.Departure fault) = DispatchDeparturesErr fault

  -- THE RESULT OF A RUN

  module _ (from : A) (before : S) (left : A) (after : S) where
    -- The inputs ended or the source failed, and exactly the sequential run's outcomes for those before were written.
    pub record RunThroughEnd (end : Option F) : Type 0 where
      pub inputs : List Arrival
      pub came : InputsCame hands ends from inputs end left
      pub took : takes before (timed_results inputs (input_results tells rules start inputs)) after
      pub settled : is_settled after
      pub few : length inputs < 2 ^ 64

    pub record RunThroughOk (passed : RunSummary) : Type 0 where
      pub whole : RunThroughEnd None
      pub bindings : passed.bindings.items ≡ (run_result_from rules start whole.inputs).bindings
      pub legs : passed.legs.items ≡ (run_result_from rules start whole.inputs).legs
      pub leaves : LeavesState rules (next_state rules start whole.inputs) passed

    -- The outcome sink failed. The outcomes written before are the first ones of the sequential run.
    pub record RunThroughDeparturesErr (fault : B) : Type 0 where
      pub inputs : List Arrival
      pub went : List (ℕ × InputResult P)
      pub come : HasCome hands ends from inputs left
      pub front : IsFrontOf went (timed_results inputs (input_results tells rules start inputs))
      pub failed : DeparturesFail takes fails before went fault after

    -- The run itself failed. The outcomes written before are the first ones of the sequential run. Writing them may
    -- have failed too.
    pub record RunThroughErr : Type 0 where
      pub inputs : List Arrival
      pub went : List (ℕ × InputResult P)
      pub come : HasCome hands ends from inputs left
      pub front : IsFrontOf went (timed_results inputs (input_results tells rules start inputs))
      pub took : takes before went after ⊎ ((fault : B) × DeparturesFail takes fails before went fault after)

    abbrev pub RunThroughPost : Result RunSummary (PassFault F B) → Type 0
    RunThroughPost (Ok passed) = RunThroughOk passed
    RunThroughPost (Err (pass_faults.Arrival fault)) = RunThroughEnd (Some fault)
    RunThroughPost (Err (pass_faults.Departure fault)) = RunThroughDeparturesErr fault
    RunThroughPost (Err (pass_faults.Run fault)) = RunThroughErr

-- The fault may come in a run that has started. A gate that is always open is never reported as shut.
abbrev pub IsStoppedUnder : {F B : Type 0} → Bool → PassFault F B → Type 0
IsStoppedUnder open_gate (pass_faults.Run fault) = IsFaultUnder open_gate fault
IsStoppedUnder open_gate _ = ⊤

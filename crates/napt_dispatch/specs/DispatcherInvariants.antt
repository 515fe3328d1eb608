-- The invariant of dispatching.
--
-- The legs that a worker was offered, followed by those that are held for it, are its legs of the run over the inputs
-- read so far. A placeholder replaces a second leg (RFC 4787, REQ-9) until the answer to the first leg is known. It is
-- a premise here that the answers are right, which is proved once the workers are joined.
use Rattle.std.specs.Prelude.{◌≡◌, ◌≢◌, ◌⊎◌, ℕ, ◌+◌, ◌<◌, ◌≤◌, ◌==◌, max, Bool, true, false, if◌then◌else◌, List, [], ◌∷◌, ◌++◌, map, flat_map, length, slice_index, slice_get, Option, Some, None, Result, MatchResult}
use Rattle.napt_config.specs.Rules.{Rules}
use Rattle.napt_rules.specs.{Prelude.{Arrival, LegAct, State, last_clock, effect_from, legs_at}, declared.Leg.Leg}
use Rattle.napt_pool.specs.{declared.pool.Pool.Pool, Pools.{initial_machines, accepted_items, taken_answers, capacity_of}}
use Rattle.napt_sequential.specs.{declared.{fault.RunFault.RunFault, passage.Passage.{Passage, TheVariants.Nothing}, leg_trace.TracedAnswer.TracedAnswer}, Steps.traced_replies}
use Rattle.napt_wire.specs.declared.Way.{Way}
use Rattle.napt_laws.specs.{Dispatching.IsFrontOf, SecondLegs.second_legs}
use Rattle.napt_dispatch.specs.declared.{outcome_sink.InputResult.InputResult, dispatcher.{Dispatcher.Dispatcher, pending_leg.{QueueHead.QueueHead, PendingLeg.PendingLeg}}}
use Rattle.napt_dispatch.specs.declared.dispatcher.{pending_leg.{PendingLeg.TheVariants.{Ready, Place}, AwaitedLeg.AwaitedLeg}, input_progress.{OpenInput.OpenInput, InputProgress.InputProgress}}
use Rattle.napt_dispatch.specs.declared.dispatcher.{input_progress.InputProgress.TheVariants.{Returning, Answered}, taking.StopCondition.StopCondition}
use Rattle.napt_dispatch.specs.Dispatch.{of_worker, local_bindings, IsDispatchFault}
use Rattle.napt_dispatch.specs.WorkerQueues.{WorkerQueueModel, AnswersAt, all_held, held_legs_count, front_of, queue_of, owed_of, owed_count, held_count, with_queue}
use Rattle.napt_dispatch.specs.RunProgresses.{RunProgressModel, progress_in, times_in, is_unknown, passages_after, second_leg_asked, AsksForSecondLeg, first_in, whole_of, ProgressesAreKnown, ProgressIsWritten, HasMark, InputIsMarked}
use Rattle.napt_dispatch.specs.declared.dispatcher.pending_leg.QueueHead.TheVariants as fronts
use Rattle.napt_dispatch.specs.declared.dispatcher.taking.StopCondition.TheVariants as untils

-- THE STATE OF A DISPATCHER

-- One worker: the legs that it was offered, the answers that were taken from it, and its queues.
pub record Lane (P : Type 0) : Type 0 where
  pub offered : List Leg
  pub taken : List (TracedAnswer P)
  pub queue : WorkerQueueModel

-- The lane of each worker, and the progress of each input that was read.
pub record DispatcherModel (P : Type 0) : Type 0 where
  pub many : ℕ
  pub lane : ℕ → Lane P
  pub progress : List (InputProgress P)

-- Returns the state of `d`, given the legs that each worker was offered and the answers that were taken from it.
abbrev pub state_with : {P : Type 0} → (ℕ → List Leg) → (ℕ → List (TracedAnswer P)) → Dispatcher P → DispatcherModel P
state_with offered taken d = record {
  many = length d.queues;
  lane = λ w. record { offered = offered w; taken = taken w; queue = queue_of d.queues w };
  progress = progress_in d.progress;
}

abbrev pub dispatcher_state : {P M G : Type 0} → Pool M G Leg (TracedAnswer P) → Dispatcher P → DispatcherModel P
dispatcher_state pool d = state_with (of_worker (accepted_items pool)) (of_worker (taken_answers pool)) d

-- Returns the lists of all workers, with `xs` appended to the list of worker w.
abbrev pub with_more_at : {X : Type 0} → ℕ → List X → (ℕ → List X) → ℕ → List X
with_more_at w xs lists v = if v == w then lists v ++ xs else lists v

-- THE INVARIANT

-- A worker has answered the first of the `count` legs that it was offered, and owes the answers to the others.
pub record IsOwed {P : Type 0} (offered : List Leg) (taken : List (TracedAnswer P)) (count : ℕ) (owed : List AwaitedLeg)
    : Type 0 where
  pub before : List Leg
  pub rest : List Leg
  pub parts : offered ≡ before ++ rest
  pub long : length before ≡ length taken
  pub owed_is : owed ≡ map owed_of rest
  pub counted : count ≡ length offered

abbrev pub LaneStands : {P : Type 0} → Lane P → Type 0
LaneStands lane = IsOwed lane.offered lane.taken lane.queue.offered lane.queue.owed

-- Returns the legs that a queue entry becomes: the leg itself or, for a placeholder, the second leg, if there is one.
abbrev pub resolved_legs : List LegAct → PendingLeg → List Leg
resolved_legs acts (Ready leg) = leg ∷ []
resolved_legs acts (Place number) = second_legs number acts

-- Returns the legs of a next message, followed by the legs that the entries held after them become.
abbrev pub turned_legs : List LegAct → List Leg → List PendingLeg → List Leg
turned_legs acts ready held = ready ++ flat_map (resolved_legs acts) held

-- Returns the legs that a worker was offered, followed by those that are held for it.
abbrev pub lane_legs : {P : Type 0} → List LegAct → Lane P → List Leg
lane_legs acts lane = lane.offered ++ turned_legs acts lane.queue.ready lane.queue.held

-- The answers of worker w, with the records of its legs, are the first ones that its translator gives.
abbrev pub IsLaneRight : {P : Type 0} → (Passage → P) → Rules → State → ℕ → Lane P → Type 0
IsLaneRight tells rules start w lane = let address : ℕ = slice_index rules.pool w in
    IsFrontOf lane.taken (traced_replies tells rules address lane.offered (local_bindings start address))

abbrev pub AreLanesRight : {P : Type 0} → (Passage → P) → Rules → State → DispatcherModel P → Type 0
AreLanesRight tells rules start state = (w : ℕ) → w < length rules.pool → IsLaneRight tells rules start w (state.lane w)

-- The consequence of right answers: each lane has the run's legs for `done`, and the progress agrees with the run.
pub record DispatcherReaches {P : Type 0} (tells : Passage →
    P) (rules : Rules) (start : State) (done all : List Arrival)
    (state : DispatcherModel P) : Type 0 where
  pub reached : (w : ℕ) → w < length rules.pool → lane_legs (effect_from rules start all).acts (state.lane w)
      ≡ legs_at (slice_index rules.pool w) (effect_from rules start done).acts
  pub known : ProgressesAreKnown (whole_of tells rules start all) state.progress

-- The invariant once the inputs `done`, which are the first of `all`, have been read.
pub record DispatcherInvariant {P : Type 0} (tells : Passage →
    P) (rules : Rules) (start : State) (done all : List Arrival)
    (state : DispatcherModel P) : Type 0 where
  pub rest : List Arrival
  pub whole : done ++ rest ≡ all
  pub many : state.many ≡ length rules.pool
  pub lanes : (w : ℕ) → w < length rules.pool → LaneStands (state.lane w)
  pub reaches : AreLanesRight tells rules start state → DispatcherReaches tells rules start done all state

-- If the invariant holds in a state, it holds in the later one, after the same inputs.
abbrev pub DispatcherKeeps : {P : Type 0} → (Passage → P) → DispatcherModel P → DispatcherModel P → Type 0
DispatcherKeeps tells state later = (rules : Rules) (start : State) (done all : List Arrival) →
    DispatcherInvariant tells rules start done all state → DispatcherInvariant tells rules start done all later

-- WITH A POOL

-- Returns the arrival times of the inputs that were read, in ns, and the results that left the window.
abbrev pub journal_of : {P : Type 0} → RunProgressModel P → List ℕ × List (ℕ × InputResult P)
journal_of window = (times_in window, window.left)

-- The dispatcher has the queues of each worker of the pool.
abbrev pub IsSizedFor : {P M G : Type 0} → Pool M G Leg (TracedAnswer P) → Dispatcher P → Type 0
IsSizedFor pool d = length d.queues ≡ length (initial_machines pool)

-- The invariant of a dispatcher, with the legs that its pool accepted and the answers that were taken from it.
pub record StandsAt {P M G : Type 0} (tells : Passage → P) (rules : Rules) (start : State) (done all : List Arrival)
    (pool : Pool M G Leg (TracedAnswer P)) (d : Dispatcher P) : Type 0 where
  pub stands : DispatcherInvariant tells rules start done all (dispatcher_state pool d)

abbrev pub KeepsAt : {P M G : Type 0} → (Passage → P) → Pool M G Leg (TracedAnswer P) → Dispatcher P →
    Pool M G Leg (TracedAnswer P) → Dispatcher P → Type 0
KeepsAt tells pool d later_pool later = (rules : Rules) (start : State) (done all : List Arrival) →
    StandsAt tells rules start done all pool d → StandsAt tells rules start done all later_pool later

-- The pool has the same workers. The lists of offered legs and of taken answers are the same or longer.
pub record PoolGrows {P M G : Type 0} (pool later_pool : Pool M G Leg (TracedAnswer P)) : Type 0 where
  pub starts_stay : initial_machines later_pool ≡ initial_machines pool
  pub offered : (w : ℕ) → IsFrontOf (of_worker (accepted_items pool) w) (of_worker (accepted_items later_pool) w)
  pub taken : (w : ℕ) → IsFrontOf (of_worker (taken_answers pool) w) (of_worker (taken_answers later_pool) w)

-- Dispatching ended with a fault that a dispatcher may report.
pub record DispatcherHalts {P M G : Type 0} (open_gate : Bool) (pool later_pool : Pool M G Leg (TracedAnswer P))
    (fault : RunFault)
    : Type 0 where
  pub grows : PoolGrows pool later_pool
  pub fault_is : IsDispatchFault open_gate fault

-- The pool has the same workers, no input was read, no outcome left, and the dispatcher's invariant still holds.
pub record DispatcherContinues {P M G : Type 0} (tells : Passage →
    P) (pool : Pool M G Leg (TracedAnswer P)) (d : Dispatcher P)
    (later_pool : Pool M G Leg (TracedAnswer P)) (later : Dispatcher P) : Type 0 where
  pub grows : PoolGrows pool later_pool
  pub sized : IsSizedFor later_pool later
  pub journal_stays : journal_of later.progress ≡ journal_of d.progress
  pub keeps : KeepsAt tells pool d later_pool later

-- The dispatcher continues, or it ended with a fault.
abbrev pub ContinuesOr : {P M G X : Type 0} → (Passage → P) → Bool → Pool M G Leg (TracedAnswer P) → Dispatcher P →
    Pool M G Leg (TracedAnswer P) → Dispatcher P → Result X RunFault → Type 0
ContinuesOr tells open_gate pool d later_pool later result =
    MatchResult result (λ done. DispatcherContinues tells pool d later_pool later)
    (DispatcherHalts open_gate pool later_pool)

-- STEPS

-- The records of an input's first and second leg, where `passage` is that of its leg with this direction, now answered.
pub record AnswersTo {P : Type 0} (none : P) (window : RunProgressModel P) (number : ℕ) (way : Way) (passage : P)
    (passages : P × P) : Type 0 where
  pub was : InputProgress P
  pub there : slice_get (progress_in window) number ≡ Some was
  pub told : passages_after none was way passage ≡ Some passages

-- An answer of worker w was recorded as the progress of its input, with the record of its leg.
pub record NoteAnswerPost {P : Type 0} (tells : Passage →
    P) (w : ℕ) (traced : TracedAnswer P) (d later : Dispatcher P) : Type 0 where
  pub owed : AwaitedLeg
  pub answers : AnswersAt w owed d.queues later.queues
  pub passages : P × P
  pub awaited : AnswersTo (tells Nothing) d.progress traced.answer.number owed.way traced.passage passages
  pub written : ProgressIsWritten traced.answer.number (Answered owed traced.answer.end passages.0 passages.1)
      d.progress later.progress

-- The second leg of an open input was removed, or the input has none. In both cases its placeholder's mark is cleared.
abbrev pub IsSecondOf : {P : Type 0} → ℕ → OpenInput P → OpenInput P → Option Leg → Type 0
IsSecondOf number input later None = (later ≡ record input { has_place = false }) ×
    (second_leg_asked number input.progress ≡ None)
IsSecondOf {P} number input later (Some leg) = (first : P)
    × (later ≡ record input { progress = Returning first; has_place = false })
    × (second_leg_asked number input.progress ≡ Some leg) × (first_in input.progress ≡ Some first)

-- The second leg of the input with this number was removed, and its placeholder's mark is cleared.
pub record ReturnsSecondLeg {P : Type 0} (number : ℕ) (window later : RunProgressModel P) (leg : Leg) : Type 0 where
  pub asks : AsksForSecondLeg number (progress_in window) (Some leg)
  pub first : P
  pub first_is : first_in asks.p ≡ Some first
  pub written : ProgressIsWritten number (Returning first) window later
  pub mark : HasMark number false window later

-- The input with this number has this second leg, which was removed, or it has none. The mark is cleared.
abbrev pub IsSecondLegOf : {P : Type 0} → ℕ → RunProgressModel P → RunProgressModel P → Option Leg → Type 0
IsSecondLegOf number window later None = InputIsMarked number false window later ×
    AsksForSecondLeg number (progress_in window) None
IsSecondLegOf number window later (Some leg) = ReturnsSecondLeg number window later leg

-- If it was unknown whether an input has a second leg, it still is.
abbrev pub StaysUnknown : {P : Type 0} → List (InputProgress P) → List (InputProgress P) → Type 0
StaysUnknown progress later = (number : ℕ) → is_unknown (slice_get progress number) ≡ true →
    is_unknown (slice_get later number) ≡ true

-- Neither the queues nor the progress changed.
abbrev pub NothingMoved : {P : Type 0} → Dispatcher P → Dispatcher P → Type 0
NothingMoved d later = (later.queues ≡ d.queues) × (later.progress ≡ d.progress)

-- The first held entry cannot be offered: there is none, or it is a placeholder whose first leg has no answer yet.
abbrev pub queue_waits : {P : Type 0} → List (InputProgress P) → QueueHead → Bool
queue_waits progress fronts.Nothing = true
queue_waits progress fronts.FirstLeg = false
queue_waits progress (fronts.FirstPlace number) = is_unknown (slice_get progress number)

-- Returns the same for the entries of worker w that are held after the legs of its next message.
abbrev pub waits_behind : {P : Type 0} → Dispatcher P → ℕ → Bool
waits_behind d w = queue_waits (progress_in d.progress) (front_of (queue_of d.queues w).held)

-- If the first held entry is a placeholder, `second` is the second leg of its input. Otherwise nothing changed.
abbrev pub ResolvesFirstPlace : {P : Type 0} → QueueHead → RunProgressModel P → Option Leg → RunProgressModel P → Type 0
ResolvesFirstPlace fronts.Nothing window second later = later ≡ window
ResolvesFirstPlace fronts.FirstLeg window second later = later ≡ window
ResolvesFirstPlace (fronts.FirstPlace number) window second later = IsSecondLegOf number window later second

-- One more input was read at time `now`, in ns: the invariant for the inputs before it becomes the one with it.
abbrev pub Admits : {P : Type 0} → (Passage → P) → Rules → ℕ → ℕ → Arrival → Dispatcher P → Dispatcher P → Type 0
Admits {P} tells rules number now input d later =
    (start : State) (offered : ℕ → List Leg) (taken : ℕ → List (TracedAnswer P)) (done rest : List Arrival) →
    length done ≡ number → max (last_clock start.clock done) input.clock ≡ now →
    DispatcherInvariant tells rules start done ((done ++ input ∷ []) ++ rest) (state_with offered taken d) →
    DispatcherInvariant tells rules start (done ++ input ∷ []) ((done ++ input ∷ []) ++ rest)
    (state_with offered taken later)

-- If the flag is true, answers were taken, and fewer are owed. Otherwise, nothing changed.
abbrev pub HasTaken : {P : Type 0} → Dispatcher P → Dispatcher P → Bool → Type 0
HasTaken d later true = owed_count later.queues < owed_count d.queues
HasTaken d later false = NothingMoved d later

-- These answers of worker w were recorded, and the invariant is preserved, whatever was offered and answered before.
pub record NoteAnswersPost {P : Type 0} (tells : Passage →
    P) (w : ℕ) (answers : List (TracedAnswer P)) (d later : Dispatcher P)
    : Type 0 where
  pub journal_stays : journal_of later.progress ≡ journal_of d.progress
  pub keeps : (offered : ℕ → List Leg) (taken : ℕ → List (TracedAnswer P)) →
      DispatcherKeeps tells (state_with offered taken d)
      (state_with offered (with_more_at w answers taken) later)

-- OFFERS

-- Legs that were held first moved to the end of the next message. The number and the order of the legs did not change.
pub record MovesLegs (q later : WorkerQueueModel) : Type 0 where
  pub same : later ≡ record q { ready = later.ready; held = later.held }
  pub legs_stay : (acts : List LegAct) → turned_legs acts later.ready later.held ≡ turned_legs acts q.ready q.held
  pub count_stays : held_legs_count later ≡ held_legs_count q
  pub shorter : length later.held ≤ length q.held

-- In the queues of worker w, legs that were held first moved to the end of the next message. The queues of the other
-- workers did not change.
pub record MovesLegsAt (w : ℕ) (queues later : List WorkerQueueModel) : Type 0 where
  pub queue : WorkerQueueModel
  pub moves : MovesLegs (queue_of queues w) queue
  pub later_is : later ≡ with_queue w (λ q. queue) queues

-- Entries held for worker w moved to the end of its next message, or were placeholders without a leg and were removed.
pub record ReadyLegsPost {P : Type 0} (tells : Passage → P) (w : ℕ) (d later : Dispatcher P) : Type 0 where
  pub journal_stays : journal_of later.progress ≡ journal_of d.progress
  pub keeps : (offered : ℕ → List Leg) (taken : ℕ → List (TracedAnswer P)) →
      DispatcherKeeps tells (state_with offered taken d) (state_with offered taken later)
  pub others : (v : ℕ) → v ≢ w → queue_of later.queues v ≡ queue_of d.queues v
  pub forgets : StaysUnknown (progress_in d.progress) (progress_in later.progress)

-- A worker was offered all that it can be offered: nothing is held for it, a waiting placeholder is first, or its ring
-- is full until an answer is taken.
abbrev pub HasOffered : {P M G : Type 0} → Pool M G Leg (TracedAnswer P) → Dispatcher P → ℕ → Type 0
HasOffered {P} pool d w =
    let lane : Lane P = (dispatcher_state pool d).lane w in
    (queue_waits (progress_in d.progress) (front_of (all_held lane.queue)) ≡ true)
    ⊎ (length lane.offered ≡ length lane.taken + capacity_of pool)

-- Every worker was offered all that it can be offered.
abbrev pub HasOfferedAll : {P M G : Type 0} → Pool M G Leg (TracedAnswer P) → Dispatcher P → Type 0
HasOfferedAll pool d = (w : ℕ) → w < length (initial_machines pool) → HasOffered pool d w

-- The lanes of all workers but w are unchanged, and no input made progress.
pub record OffersOnlyTo {P M G : Type 0} (w : ℕ) (pool : Pool M G Leg (TracedAnswer P)) (d : Dispatcher P)
    (later_pool : Pool M G Leg (TracedAnswer P)) (later : Dispatcher P) : Type 0 where
  pub capacity_stays : capacity_of later_pool ≡ capacity_of pool
  pub others : (v : ℕ) → v ≢ w → (dispatcher_state later_pool later).lane v ≡ (dispatcher_state pool d).lane v
  pub forgets : StaysUnknown (progress_in d.progress) (progress_in later.progress)

-- ROOM

-- One more input may be read: two more legs or placeholders fit, and fewer than 131,072 inputs are open.
pub record DispatcherHasRoom {P : Type 0} (d : Dispatcher P) : Type 0 where
  pub held : held_count d.queues + 2 ≤ 65536
  pub under_way : length d.progress.under_way < 131072

-- THE END

-- Nothing is held, and every leg has been answered.
pub record DispatcherIsDone {P : Type 0} (d : Dispatcher P) : Type 0 where
  pub owed : (w : ℕ) → (queue_of d.queues w).owed ≡ []
  pub held : (w : ℕ) → held_legs_count (queue_of d.queues w) ≡ 0

-- A stop condition holds for the dispatcher.
abbrev pub HasReached : {P : Type 0} → StopCondition → Dispatcher P → Type 0
HasReached untils.Room d = DispatcherHasRoom d
HasReached untils.Done d = DispatcherIsDone d

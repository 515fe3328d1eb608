-- The queues of the workers, and how they change.
use Rattle.std.specs.Prelude.{◌≡◌, ℕ, ◌+◌, ◌<◌, ◌≤◌, ◌^◌, ◌==◌, if◌then◌else◌, List, [], ◌∷◌, ◌++◌, drop, map, length, option_to_list, slice_set, slice_index_or, Option, Some, None}
use Rattle.std.specs.List.{sum_by}
use Rattle.napt_rules.specs.declared.Leg.{Leg}
use Rattle.napt_dispatch.specs.declared.dispatcher.pending_leg.{QueueHead.QueueHead, PendingLeg.{PendingLeg, TheVariants.{Ready, Place}}, AwaitedLeg.AwaitedLeg}
use Rattle.napt_dispatch.specs.declared.dispatcher.pending_leg.QueueHead.TheVariants as fronts

-- One worker: the number of legs offered, those not answered yet, the next message, and the entries held after it.
pub record WorkerQueueModel : Type 0 where
  pub offered : ℕ
  pub owed : List AwaitedLeg
  pub ready : List Leg
  pub held : List PendingLeg

-- Returns the queues of a worker before any offer.
abbrev pub unused_queue : WorkerQueueModel
unused_queue = record { offered = 0; owed = []; ready = []; held = [] }

-- Returns the queues of worker w.
abbrev pub queue_of : List WorkerQueueModel → ℕ → WorkerQueueModel
queue_of queues w = slice_index_or queues w unused_queue

-- Returns the number of legs that were offered to each worker.
abbrev pub counts_in : List WorkerQueueModel → List ℕ
counts_in queues = map (λ q. q.offered) queues

-- Returns all entries that are held for a worker, oldest first. `held_legs_count` is their number.
abbrev pub all_held : WorkerQueueModel → List PendingLeg
all_held q = map (λ leg. Ready leg) q.ready ++ q.held

abbrev pub held_legs_count : WorkerQueueModel → ℕ
held_legs_count q = length q.ready + length q.held

-- Returns the number of legs of all workers that are not answered yet. `many_held` is the number of all held entries.
abbrev pub owed_count : List WorkerQueueModel → ℕ
owed_count queues = sum_by (λ q. length q.owed) queues

abbrev pub held_count : List WorkerQueueModel → ℕ
held_count queues = sum_by held_legs_count queues

-- There are 1 to 4,294,967,295 workers, for which `many` legs and placeholders are held, at most 65,536.
pub record AreQueuesCounted (many : ℕ) (queues : List WorkerQueueModel) : Type 0 where
  pub counted : many ≡ held_count queues
  pub few : many ≤ 65536
  pub some : 0 < length queues
  pub numbered : length queues < 2 ^ 32

-- Returns the kind of the first entry of a queue.
abbrev pub front_of : List PendingLeg → QueueHead
front_of [] = fronts.Nothing
front_of (Ready leg ∷ rest) = fronts.FirstLeg
front_of (Place number ∷ rest) = fronts.FirstPlace number

abbrev pub owed_of : Leg → AwaitedLeg
owed_of leg = record { way = leg.way; now = leg.now }

-- STEPS

-- Returns the queues after a change of those of worker w alone.
abbrev pub with_queue : ℕ → (WorkerQueueModel → WorkerQueueModel) → List WorkerQueueModel → List WorkerQueueModel
with_queue w change queues = slice_set queues w (change (queue_of queues w))

-- More entries are held for a worker, after all others.
pub record HoldPost (more : List PendingLeg) (q later : WorkerQueueModel) : Type 0 where
  pub offered_stays : later.offered ≡ q.offered
  pub owed_stays : later.owed ≡ q.owed
  pub held_is : all_held later ≡ all_held q ++ more

-- More entries are held for each worker, after all others.
abbrev pub QueuesHoldMore : (ℕ → List PendingLeg) → List WorkerQueueModel → List WorkerQueueModel → Type 0
QueuesHoldMore more queues later = (v : ℕ) → HoldPost (more v) (queue_of queues v) (queue_of later v)

-- Returns the entries for worker w, and none for any other worker.
abbrev pub only_at : ℕ → List PendingLeg → ℕ → List PendingLeg
only_at w more v = if v == w then more else []

abbrev pub lane_at : ℕ → Option ℕ → ℕ → List PendingLeg
lane_at number None v = []
lane_at number (Some w) v = only_at w (Place number ∷ []) v

-- Returns the leg that the first held entry adds to the next message: its own, or `second` instead of a placeholder.
abbrev pub first_held_leg : Option Leg → List PendingLeg → List Leg
first_held_leg second [] = []
first_held_leg second (Ready leg ∷ rest) = leg ∷ []
first_held_leg second (Place number ∷ rest) = option_to_list second

abbrev pub queue_readied : Option Leg → WorkerQueueModel → WorkerQueueModel
queue_readied second q = record q { ready = q.ready ++ first_held_leg second q.held; held = drop 1 q.held }

-- Returns the queues after these legs, the first of the next message, were offered, so that their answers are owed.
abbrev pub with_offers : List Leg → WorkerQueueModel → WorkerQueueModel
with_offers legs q = record q {
  offered = q.offered + length legs;
  owed = q.owed ++ map owed_of legs;
  ready = drop (length legs) q.ready;
}

-- Returns the queues after the oldest leg that was owed has been answered.
abbrev pub queue_answered : WorkerQueueModel → WorkerQueueModel
queue_answered q = record q { owed = drop 1 q.owed }

pub record AnswersAt (w : ℕ) (owed : AwaitedLeg) (queues later : List WorkerQueueModel) : Type 0 where
  pub first : (queue_of queues w).owed ≡ owed ∷ drop 1 (queue_of queues w).owed
  pub later_is : later ≡ with_queue w queue_answered queues

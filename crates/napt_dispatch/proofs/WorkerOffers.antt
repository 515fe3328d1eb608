-- Properties of a worker after legs were offered to it and answers were taken from it.
use Rattle.std.{proofs.lemmas.{Grind.common_steps, Bool.{Decides.nat_tests, cases_lt}, List.length-map}, specs.Prelude.slice_set}
use Rattle.std.proofs.Common.{◌≡◌, ◌≢◌, ◌⊎◌, ◌||◌, ℕ, zero, suc, ◌+◌, ◌<◌, ◌≤◌, min, Bool, true, false, List, [], ◌∷◌, ◌++◌, length, map, take, drop, length-append, length-drop, take-append-drop, Option, refl, sym, ◌∙◌, ap, subst, arith}
use Rattle.napt_rules.specs.{Prelude.effect_from, declared.Leg.Leg}
use Rattle.napt_pool.specs.{declared.pool.Pool.Pool, Pools.{initial_machines, accepted_items, taken_answers, capacity_of}}
use Rattle.napt_dispatch.specs.declared.dispatcher.{Dispatcher.Dispatcher, pending_leg.{QueueHead.QueueHead, PendingLeg.TheVariants.Ready}, input_progress.InputProgress.InputProgress}
use Rattle.napt_dispatch.specs.{declared.{dispatcher.input_progress.InputProgress.TheVariants.{Returning, Answered}, outcome_sink.InputResult.InputResult}, Dispatch.of_worker}
use Rattle.napt_dispatch.specs.WorkerQueues.{WorkerQueueModel, queue_of, owed_count, front_of, queue_readied, queue_answered, with_offers, with_queue}
use Rattle.napt_dispatch.specs.RunProgresses.{RunProgressModel, progress_in, ProgressIsWritten, InputIsMarked}
use Rattle.napt_dispatch.specs.DispatcherInvariants.{journal_of, state_with, dispatcher_state, with_more_at, DispatcherKeeps, KeepsAt, IsSizedFor, DispatcherContinues, NoteAnswerPost, NoteAnswersPost, StaysUnknown, NothingMoved, ResolvesFirstPlace, queue_waits, waits_behind, ReadyLegsPost, HasTaken, HasOffered, OffersOnlyTo, MovesLegsAt}
use Rattle.napt_dispatch.proofs.Lanes.{grows_none, added_own, added_other, added_none, added_more, set_added}
use Rattle.napt_dispatch.proofs.{QueueStates.{queue_own, queue_other, sum_with, nothing}, InvariantSteps.{queues_keep, offers_keep, readied_keeps, answer_keeps}}
use Rattle.napt_sequential.specs.declared.{leg_trace.TracedAnswer.TracedAnswer, passage.Passage.Passage}

-- THE FIRST HELD ENTRY

journal_as : {P : Type 0} {times times' : List ℕ} {left left' : List (ℕ × InputResult P)} → times ≡ times' →
    left ≡ left' →
    (let j : List ℕ × List (ℕ × InputResult P) = (times, left) in j) ≡ (times', left')
journal_as a b = λ i. (a i, b i)

pub written_same : {P : Type 0} (number : ℕ) (p : InputProgress P) (window later : RunProgressModel P) →
    ProgressIsWritten number p window later → journal_of later ≡ journal_of window
written_same number p window later is = journal_as is.times_stay is.left_stays

pub marked_same : {P : Type 0} (number : ℕ) (mark : Bool) (window later : RunProgressModel P) →
    InputIsMarked number mark window later → journal_of later ≡ journal_of window
marked_same number mark window later m = journal_as m.times_stay m.left_stays

set_forgets : {P : Type 0} (progress : List (InputProgress P)) (number : ℕ) (first : P) →
    StaysUnknown progress (slice_set progress number (Returning first))
set_forgets [] number first i h = h
set_forgets (p ∷ ps) zero first zero h = refl
set_forgets (p ∷ ps) zero first (suc i) h = h
set_forgets (p ∷ ps) (suc number) first zero h = h
set_forgets (p ∷ ps) (suc number) first (suc i) h = set_forgets ps number first i h

resolved_on : {P : Type 0} (front : QueueHead) (second : Option Leg) (window later : RunProgressModel P) →
    ResolvesFirstPlace front window second later →
    (journal_of later ≡ journal_of window) × StaysUnknown (progress_in window) (progress_in later)
resolved_on front second window later is =
    grind (arith, common_steps, nat_tests, marked_same, written_same, set_forgets)

-- OFFERS

-- An entry that waited still waits if no more is known.
waits_on : {P : Type 0} (progress later : List (InputProgress P)) (front : QueueHead) → StaysUnknown progress later →
    queue_waits progress front ≡ true → queue_waits later front ≡ true
waits_on progress later front forgets h = grind (arith, common_steps, nat_tests)

pub readies_first : {P : Type 0} {tells : Passage → P} (w : ℕ) (d later : Dispatcher P) (second : Option Leg) →
    w < length d.queues →
    waits_behind d w ≡ false → ResolvesFirstPlace (front_of (queue_of d.queues w).held) d.progress second
    later.progress →
    later.queues ≡ with_queue w (queue_readied second) d.queues → ReadyLegsPost tells w d later
readies_first w d later second within goes is queues =
    let on = resolved_on (front_of (queue_of d.queues w).held) second d.progress later.progress is in
    record {
      journal_stays = on.0;
      keeps = λ offered taken. queues_keep w d later (queue_readied second) offered offered taken taken within queues
          (λ v n. (refl, refl)) (λ rules start all. readied_keeps rules start all w (offered w) (taken w)
          (queue_of d.queues w) d.progress later.progress second goes is);
      others = λ v n. ap (λ qs. queue_of qs v) queues ∙ queue_other d.queues w (queue_readied second) v n;
      forgets = on.1;
    }

pub readies_moved : {P : Type 0} {tells : Passage → P} (w : ℕ) (d later : Dispatcher P) → w < length d.queues →
    later.progress ≡ d.progress → MovesLegsAt w d.queues later.queues → ReadyLegsPost tells w d later
readies_moved w d later within same m = record {
  journal_stays = ap journal_of same;
  keeps = λ offered taken. queues_keep w d later (λ q. m.queue) offered offered taken taken within m.later_is
      (λ v n. (refl, refl)) (λ rules start all. rw same (record {
        stands = λ o. rw m.moves.same o;
        right = λ o right. right;
        legs = λ known. ap (λ ls. offered w ++ ls) (m.moves.legs_stay (effect_from rules start all).acts);
        known = λ o right front known. known;
      }));
  others = λ v n. ap (λ qs. queue_of qs v) m.later_is ∙ queue_other d.queues w (λ q. m.queue) v n;
  forgets = λ number h. rw same h;
}

pub readies_both : {P : Type 0} {tells : Passage → P} {w : ℕ} {d mid later : Dispatcher P} →
    ReadyLegsPost tells w d mid →
    ReadyLegsPost tells w mid later → ReadyLegsPost tells w d later
readies_both a b = grind (arith, common_steps, nat_tests)

-- A message of all legs that fit fills the ring, or takes all that can be offered.
pub offers_all : {P : Type 0} (progress : List (InputProgress P)) (q : WorkerQueueModel) (most count : ℕ) →
    count ≡ min (length q.ready) most → (queue_waits progress (front_of q.held) ≡ true) ⊎ (most ≤ length q.ready) →
    (queue_waits progress (front_of (map (λ leg. Ready leg) (drop count q.ready) ++ q.held)) ≡ true) ⊎ (count ≡ most)
offers_all progress q most count is full = grind (arith, common_steps, nat_tests, cases_lt, nothing, length-drop)

module _ {P M G : Type 0} where
  pub over_pool : {tells : Passage → P} {pool later_pool : Pool M G Leg (TracedAnswer P)} {d later : Dispatcher P} →
      DispatcherKeeps tells (dispatcher_state pool d) (dispatcher_state later_pool later) →
      KeepsAt tells pool d later_pool later
  over_pool keeps = λ rules start done all s. record { stands = keeps rules start done all s.stands }

  module _ {tells : Passage → P} (w most : ℕ) (pool : Pool M G Leg (TracedAnswer P)) (d mid : Dispatcher P)
      (r : ReadyLegsPost tells w d mid)
      (room : length (of_worker (accepted_items pool) w) + most ≡ length (of_worker (taken_answers pool) w)
      + capacity_of pool)
      (all : (waits_behind mid w ≡ true) ⊎ (most ≤ length (queue_of mid.queues w).ready)) where
    -- No leg could be sent.
    pub none_sent : 0 ≡ min (length (queue_of mid.queues w).ready) most → HasOffered pool mid w
    none_sent none = grind (arith, common_steps, nat_tests, offers_all)

    pub none_continue : IsSizedFor pool mid → DispatcherContinues tells pool d pool mid
    none_continue sized = record {
      grows = grows_none pool;
      sized = sized;
      journal_stays = r.journal_stays;
      keeps = over_pool (r.keeps (of_worker (accepted_items pool)) (of_worker (taken_answers pool)));
    }

    pub none_alone : OffersOnlyTo w pool d pool mid
    none_alone = grind (arith, common_steps, nat_tests)

    -- Legs were sent.
    module _ (legs : List Leg) (later_pool : Pool M G Leg (TracedAnswer P)) (later : Dispatcher P)
        (within : w < length (initial_machines pool)) (inside : w < length mid.queues)
        (queues : later.queues ≡ with_queue w (with_offers legs) mid.queues) (same : later.progress ≡ mid.progress)
        (accepted : accepted_items later_pool ≡ slice_set (accepted_items pool) w
        (of_worker (accepted_items pool) w ++ legs))
        (took : taken_answers later_pool ≡ taken_answers pool) where
      offered_now : of_worker (accepted_items later_pool) ≡ with_more_at w legs (of_worker (accepted_items pool))
      offered_now = ap of_worker accepted ∙ set_added (accepted_items pool) w legs
          (rw length-map (rw length-map at within))

      offered_own : of_worker (accepted_items later_pool) w ≡ of_worker (accepted_items pool) w ++ legs
      offered_own = ap (λ f. f w) offered_now ∙ added_own w legs (of_worker (accepted_items pool))

      offered_other : (v : ℕ) → v ≢ w → of_worker (accepted_items later_pool) v ≡ of_worker (accepted_items pool) v
      offered_other v n = ap (λ f. f v) offered_now ∙ added_other w legs (of_worker (accepted_items pool)) v n

      pub only_sent : capacity_of later_pool ≡ capacity_of pool → OffersOnlyTo w pool d later_pool later
      only_sent capacity = grind (arith, common_steps, nat_tests, offered_other, queue_other)

      pub sent_keeps : (count : ℕ) → legs ≡ take count (queue_of mid.queues w).ready → length legs ≡ count →
          DispatcherKeeps tells (dispatcher_state pool d) (dispatcher_state later_pool later)
      sent_keeps count first long = λ rules start done all s.
          let ready = (queue_of mid.queues w).ready in
          let parts : ready ≡ legs ++ drop (length legs) ready =
          rw (long, first) (sym (take-append-drop count ready)) in
          queues_keep w mid later (with_offers legs) (of_worker (accepted_items pool))
          (of_worker (accepted_items later_pool))
          (of_worker (taken_answers pool)) (of_worker (taken_answers later_pool)) inside queues
          (λ v n. (offered_other v n, ap (λ lists. of_worker lists v) took))
          (λ rules start all. rw (offered_own, took, same) (offers_keep rules start all w legs
          (of_worker (accepted_items pool) w) (of_worker (taken_answers pool) w) (queue_of mid.queues w)
          (progress_in mid.progress) parts)) rules start done all
          (r.keeps (of_worker (accepted_items pool)) (of_worker (taken_answers pool)) rules start done all s)

      pub sent_all : length legs ≡ min (length (queue_of mid.queues w).ready) most →
          capacity_of later_pool ≡ capacity_of pool → HasOffered later_pool later w
      sent_all count capacity =
          grind (arith, common_steps, nat_tests, offers_all, queue_own, offered_own, length-append)

  -- A worker that was offered all that it can be still is, after offers to another worker.
  pub offered_still : (w : ℕ) (pool : Pool M G Leg (TracedAnswer P)) (d : Dispatcher P)
      (later_pool : Pool M G Leg (TracedAnswer P))
      (later : Dispatcher P) → OffersOnlyTo w pool d later_pool later → (v : ℕ) → v ≢ w → HasOffered pool d v →
      HasOffered later_pool later v
  offered_still w pool d later_pool later o v n full = grind (arith, common_steps, nat_tests, waits_on)

-- ANSWERS

pub notes_none : {P : Type 0} {tells : Passage → P} (w : ℕ) (d : Dispatcher P) → NoteAnswersPost tells w [] d d
notes_none w d = grind (arith, common_steps, nat_tests, added_none)

module _ {P : Type 0} {tells : Passage → P} (w : ℕ) (told : TracedAnswer P) (mid later : Dispatcher P)
    (within : w < length mid.queues) (n : NoteAnswerPost tells w told mid later) where
  -- One more answer was recorded.
  pub notes_more : (answers : List (TracedAnswer P)) (d : Dispatcher P) → NoteAnswersPost tells w answers d mid →
      NoteAnswersPost tells w (answers ++ told ∷ []) d later
  notes_more answers d a = record {
    journal_stays = written_same told.answer.number (Answered n.owed told.answer.end n.passages.0 n.passages.1)
        mid.progress later.progress n.written ∙ a.journal_stays;
    keeps = λ offered taken. subst (λ (f : ℕ → List (TracedAnswer P)). DispatcherKeeps tells
        (state_with offered taken d)
        (state_with offered f later)) (sym (added_more w answers taken (told ∷ []))) (λ rules start done all s.
        queues_keep w mid later queue_answered offered offered (with_more_at w answers taken)
        (with_more_at w (told ∷ []) (with_more_at w answers taken)) within n.answers.later_is
        (λ v m. (refl, added_other w (told ∷ []) (with_more_at w answers taken) v m))
        (λ rules start all. rw (added_own w (told ∷ []) (with_more_at w answers taken), n.written.progress_is)
        (answer_keeps tells rules start all w told n.owed n.passages (offered w) (with_more_at w answers taken w)
        (queue_of mid.queues w) n.answers.first
        (progress_in mid.progress) n.awaited.was n.awaited.there n.awaited.told))
        rules start done all (a.keeps offered taken rules start done all s));
  }

  -- Fewer answers are owed.
  pub noted_less : owed_count later.queues + 1 ≡ owed_count mid.queues
  noted_less = grind (arith, common_steps, nat_tests, sum_with)

-- Answers were taken from the pool and recorded.
pub answered_keeps : {P : Type 0} {tells : Passage → P} {M G : Type 0} (w : ℕ) (answers : List (TracedAnswer P))
    (pool : Pool M G Leg (TracedAnswer P)) (d : Dispatcher P) (later_pool : Pool M G Leg (TracedAnswer P))
    (later : Dispatcher P) →
    w < length (initial_machines pool) → accepted_items later_pool ≡ accepted_items pool →
    taken_answers later_pool ≡ slice_set (taken_answers pool) w (of_worker (taken_answers pool) w ++ answers) →
    NoteAnswersPost tells w answers d later → DispatcherKeeps tells (dispatcher_state pool d)
    (dispatcher_state later_pool later)
answered_keeps {P} {tells} w answers pool d later_pool later within same took n =
    let taken_now : of_worker (taken_answers later_pool) ≡ with_more_at w answers (of_worker (taken_answers pool)) =
    ap of_worker took ∙ set_added (taken_answers pool) w answers (rw length-map (rw length-map at within)) in
    subst (λ (f : ℕ → List (TracedAnswer P)). DispatcherKeeps tells (dispatcher_state pool d)
    (state_with (of_worker (accepted_items later_pool)) f
    later)) (sym taken_now)
    (subst (λ (lists : List (List Leg)). DispatcherKeeps tells (dispatcher_state pool d) (state_with (of_worker lists)
    (with_more_at w answers (of_worker (taken_answers pool))) later)) (sym same)
    (n.keeps (of_worker (accepted_items pool)) (of_worker (taken_answers pool))))

-- Answers were taken in one of two steps, or in none.
pub taken_more : {P : Type 0} (d mid later : Dispatcher P) (any more both : Bool) → both ≡ (more || any) →
    HasTaken d mid any → HasTaken mid later more → HasTaken d later both
taken_more d mid later any more both e a b = grind (arith, common_steps, nat_tests)

pub taken_on : {P : Type 0} (d mid later : Dispatcher P) (any more : Bool) → more ≡ true → HasTaken d mid any →
    HasTaken mid later more → HasTaken d later true
taken_on d mid later any more e a b = taken_more d mid later any more true (sym (ap (λ m. m || any) e)) a b

pub taken_none : {P : Type 0} (d mid later : Dispatcher P) (more : Bool) → more ≡ false → NothingMoved d mid →
    HasTaken mid later more → NothingMoved d later
taken_none d mid later more e a b = taken_more d mid later false more false (sym (ap (λ m. m || false) e)) a b

-- How the queues of one worker change.
use Rattle.std.{proofs.lemmas.{Grind.common_steps, Bool.{Decides.nat_tests, cases_eq, eq-eqb, ne_eqb}}, specs.{Prelude.slice_index_or, List.sum_by}}
use Rattle.std.proofs.Common.{◌≡◌, ◌≢◌, ℕ, zero, suc, ◌+◌, ◌<◌, ◌≤◌, ◌^◌, List, [], ◌∷◌, ◌++◌, length, flat_map, append_assoc, set, get_or, refl, sym, ◌∙◌, ap, arith, inl, inr, append-nil, replicate, Option, MatchOption}
use Rattle.std.proofs.lemmas.List.{length-append, length-map, length-set, length-replicate, length_push, get_or_default, get_or-set_same, get_or-set_other}
use Rattle.std.proofs.lemmas.List.Sums.{sum_by-cons, sum_by-set}
use Rattle.napt_rules.specs.{Prelude.LegAct, declared.Leg.Leg}
use Rattle.napt_dispatch.specs.{declared.dispatcher.pending_leg.{PendingLeg.{PendingLeg, TheVariants.Ready}, AwaitedLeg.AwaitedLeg}, DispatcherInvariants.{MovesLegs, MovesLegsAt, turned_legs}}
use Rattle.napt_dispatch.specs.WorkerQueues.{WorkerQueueModel, unused_queue, queue_of, all_held, held_legs_count, held_count, AreQueuesCounted, HoldPost, QueuesHoldMore, AnswersAt, only_at, with_queue}

module _ (queues : List WorkerQueueModel) (w : ℕ) (change : WorkerQueueModel → WorkerQueueModel) where
  pub queue_own : w < length queues → queue_of (with_queue w change queues) w ≡ change (queue_of queues w)
  queue_own lt = get_or-set_same queues w (change (queue_of queues w)) unused_queue lt

  pub queue_other : (v : ℕ) → v ≢ w → queue_of (with_queue w change queues) v ≡ queue_of queues v
  queue_other v n = get_or-set_other queues w v (change (queue_of queues w)) unused_queue n

  pub length_with : length (with_queue w change queues) ≡ length queues
  length_with = length-set queues w (change (queue_of queues w))

  pub sum_with : (f : WorkerQueueModel → ℕ) → w < length queues → sum_by f (with_queue w change queues)
      + f (queue_of queues w) ≡ sum_by f queues + f (change (queue_of queues w))
  sum_with f lt = sum_by-set f queues w (change (queue_of queues w)) unused_queue lt

module _ (queues : List WorkerQueueModel) (w : ℕ) (queue later : WorkerQueueModel) (lt : w < length queues)
    (at : queue ≡ get_or queues w queue) where
  pub queue_is : queue_of queues w ≡ queue
  queue_is = get_or_default queues w unused_queue queue lt ∙ sym at

  -- The queues of worker w were changed.
  pub changed : (change : WorkerQueueModel → WorkerQueueModel) → later ≡ change queue →
      set queues w later ≡ with_queue w change queues
  changed change e = ap (set queues w) (e ∙ ap change (sym queue_is))

  pub holds_here : (more : List PendingLeg) → HoldPost more queue later →
      QueuesHoldMore (only_at w more) queues (set queues w later)
  holds_here more h = λ v. elim (cases_eq v w) [
    | inl e ↦ rw (e, get_or-set_same queues w later unused_queue lt, queue_is, eq-eqb w w refl) h
    | inr n ↦ rw (get_or-set_other queues w v later unused_queue n, ne_eqb v w n) (record {
      offered_stays = refl;
      owed_stays = refl;
      held_is = sym (append-nil (all_held (queue_of queues v)));
    })
  ]

  -- The oldest leg was answered, if there was one.
  pub answers_here : (o : Option AwaitedLeg) → MatchOption o (queue.owed ≡ [])
      (λ owed. queue.owed ≡ owed ∷ later.owed) →
      later ≡ record queue { owed = later.owed } →
      MatchOption o ((queue_of queues w).owed ≡ []) (λ owed. AnswersAt w owed queues (set queues w later))
  answers_here o first e = grind (arith, common_steps, nat_tests, queue_is, changed)

  -- The count of held entries stays right.
  pub counted_by : (many now : ℕ) → now + held_legs_count queue ≡ many + held_legs_count later → now ≤ 65536 →
      AreQueuesCounted many queues → AreQueuesCounted now (set queues w later)
  counted_by many now same few c = grind (arith, common_steps, nat_tests, sum_by-set, queue_is, length-set)

  -- Held legs became legs of the next message.
  pub moves_here : MovesLegs queue later → MovesLegsAt w queues (set queues w later)
  moves_here m = record { queue = later; moves = rw queue_is m; later_is = refl }

  pub counted_same : (many : ℕ) → held_legs_count later ≡ held_legs_count queue → AreQueuesCounted many queues →
      AreQueuesCounted many (set queues w later)
  counted_same many e c = counted_by many many (ap (λ n. many + n) (sym e)) c.few c

-- ENTRIES HELD AFTER LEGS

length_all : (q : WorkerQueueModel) → length (all_held q) ≡ held_legs_count q
length_all q = grind (arith, common_steps, nat_tests, length-append, length-map)

pub count_more : (held : PendingLeg) (q later : WorkerQueueModel) → HoldPost (held ∷ []) q later →
    held_legs_count later ≡ held_legs_count q + 1
count_more held q later h = grind (arith, common_steps, nat_tests, length_push, length_all)

-- A leg that was held first becomes the last leg of the next message.
pub turned_on : (acts : List LegAct) (ready : List Leg) (leg : Leg) (held rest : List PendingLeg) →
    held ≡ Ready leg ∷ rest →
    turned_legs acts (ready ++ leg ∷ []) rest ≡ turned_legs acts ready held
turned_on acts ready leg held rest e = grind (arith, common_steps, nat_tests, append_assoc, flat_map)

-- EMPTY QUEUES

pub nothing : {X : Type 0} (xs : List X) → length xs ≡ 0 → xs ≡ []
nothing xs e = grind (arith, common_steps, nat_tests)

pub of_replicate : {X : Type 0} (n w : ℕ) (x : X) → slice_index_or (replicate n x) w x ≡ x
of_replicate zero w x = refl
of_replicate (suc n) zero x = refl
of_replicate (suc n) (suc w) x = of_replicate n w x

pub none_held : (queues : List WorkerQueueModel) → held_count queues ≡ 0 → (w : ℕ) →
    held_legs_count (queue_of queues w) ≡ 0
none_held [] e w = refl
none_held (q ∷ queues) e zero = omega (arith, sym (sum_by-cons held_legs_count q queues) ∙ e)
none_held (q ∷ queues) e (suc w) = none_held queues (omega (arith, sym (sum_by-cons held_legs_count q queues) ∙ e)) w

pub held_none : (queues : List WorkerQueueModel) → ((w : ℕ) → held_legs_count (queue_of queues w) ≡ 0) →
    held_count queues ≡ 0
held_none [] none = refl
held_none (q ∷ queues) none =
    let here : held_legs_count q ≡ 0 = none zero in
    let rest : held_count queues ≡ 0 = held_none queues (λ w. none (suc w)) in
    sum_by-cons held_legs_count q queues ∙ omega (arith, here, rest)

-- Before any offer nothing is held.
pub counted_none : (queues : List WorkerQueueModel) (n : ℕ) → queues ≡ replicate n unused_queue → 0 < n → n < 2 ^ 32 →
    AreQueuesCounted 0 queues
counted_none queues n e some numbered =
    grind (arith, common_steps, nat_tests, length-replicate, held_none, of_replicate)

-- The invariant of dispatching is preserved while the legs of a run are offered and answered.
use Rattle.std.proofs.lemmas.{Grind.common_steps, Bool.Decides.nat_tests}
use Rattle.std.proofs.Common.{◌≡◌, ◌≢◌, ℕ, zero, suc, ◌+◌, ◌<◌, ◌≤◌, ◌==◌, max, Bool, false, cond, List, [], ◌∷◌, ◌++◌, length, map, replicate, Option, Some, None, option_to_list, Ok, Err, refl, sym, ◌∙◌, ap, subst, arith, inl, inr, append_assoc, append-nil, length-append}
use Rattle.std.{specs.Prelude.{IfSome, drop, flat_map, slice_index, slice_get, slice_set}, proofs.lemmas.Bool.{cases_eq, eq-eqb, ne_eqb}}
use Rattle.std.proofs.lemmas.{List.{length_push, map-append, length-replicate, length-map, get_or-map}, Grind.flat_map-append, Option.same_Some}
use Rattle.napt_wire.specs.{declared.{Way.{Way, TheVariants.Outgoing}, Cause.Cause, Side.{Side, TheVariants.Inside}}, Fields.destination, Packet.IsPacket}
use Rattle.napt_config.specs.{Rules.{Rules, pool_place}, declared.settings.Timers.Timers}
use Rattle.napt_rules.specs.Prelude.{Each, way_from, served_at, LegEffect, act, with_second_leg, Arrival, admission, LegAct, RunEffect, State, effect_from, last_clock, acts_at, legs_at, LocalState, local_after}
use Rattle.napt_rules.specs.declared.{Leg.Leg, End.End, Outcome.Outcome}
use Rattle.napt_rules.specs.declared.End.TheVariants as ends
use Rattle.napt_rules.specs.declared.Outcome.TheVariants as outcomes
use Rattle.napt_dispatch.specs.declared.dispatcher.{pending_leg.{QueueHead.QueueHead, PendingLeg.{PendingLeg, TheVariants.{Ready, Place}}, AwaitedLeg.AwaitedLeg}, input_progress.InputProgress.InputProgress}
use Rattle.napt_dispatch.specs.declared.{dispatcher.input_progress.InputProgress.TheVariants.{Returning, Answered}}
use Rattle.napt_dispatch.specs.{declared.dispatcher.Dispatcher.Dispatcher, Dispatch.{of_worker, local_bindings, IsDispatchedFrom, AnswersAreRight, input_results, input_result}}
use Rattle.napt_dispatch.specs.{OutcomeLists.collected_outcome, RunsThrough.timed_results}
use Rattle.napt_dispatch.specs.WorkerQueues.{WorkerQueueModel, unused_queue, queue_of, counts_in, all_held, held_legs_count, front_of, owed_of, first_held_leg, queue_readied, queue_answered, with_offers, with_queue, HoldPost, QueuesHoldMore, only_at, lane_at}
use Rattle.napt_dispatch.specs.RunProgresses.{RunProgressModel, RunLegs, whole_of, progress_in, times_in, is_incoming, departed_with, passages_after, progress_refused, refused_at, second_leg_asked_by, first_by, NoneBehind, ProgressIsKnown, ProgressesAreKnown}
use Rattle.napt_dispatch.specs.DispatcherInvariants.{PoolGrows, Lane, DispatcherModel, state_with, dispatcher_state, LaneStands, resolved_legs, lane_legs, IsLaneRight, AreLanesRight, DispatcherReaches, DispatcherInvariant, DispatcherKeeps, Admits, ResolvesFirstPlace, queue_waits, DispatcherIsDone}
use Rattle.napt_dispatch.proofs.{DispatchEnds.map_at, Lanes.{fronts_both, place_within}, QueueStates.{queue_own, queue_other, length_with, nothing, of_replicate}}
use Rattle.napt_dispatch.proofs.KnownInputs.{known_set, returning_known, ended_known, second_known, left_front, left_whole, timed_outcomes, departed_long, departed_outcomes}
use Rattle.napt_dispatch.specs.declared.dispatcher.pending_leg.QueueHead.TheVariants as fronts
use Rattle.napt_laws.specs.{Dispatching.{IsFrontOf, outcome_of_end, OutcomeIsGiven, IsEndForeseen, OnwardIsForeseen}, SecondLegs.{first_act, second_legs, second_of, HasItsSecondLeg}}
use Rattle.napt_laws.proofs.{DispatchLaws.answers_tell, OneMoreInput.outcomes_long, OneInput.{acts_begin, outcomes_begin, get_at, grown}}
use Rattle.napt_laws.proofs.{SecondLegsByNumber.{legs_append, answers_fill, cond_map, place_stands, acts_grow}, Pools.stands_at}
use Rattle.napt_pool.specs.{declared.pool.Pool.Pool, Pools.{accepted_items, taken_answers}}
use Rattle.napt_sequential.specs.{declared.{leg_trace.TracedAnswer.TracedAnswer, passage.{Passage.TheVariants.Nothing, Trace.Trace}}, CountedTranslators.{traced_act, traced_by}}
use Rattle.napt_sequential.{specs.{Steps.{steps_of, traced_replies}, Traces.{passage_of, traces_of}}, proofs.{StepsInOrder.{steps_get, refused_trace}, OwnTraces.right_told}}
use Rattle.napt_sequential.{proofs.TracedLegs.{IsTraced, IsPlaced, legs_traced}, specs.declared.passage.Passage.Passage}

-- PREFIXES

-- A prefix of an appended list that is no longer than its first part is a prefix of that part.
short_front : {X : Type 0} (xs ys : List X) (zs : List X) → length xs ≤ length ys → IsFrontOf xs (ys ++ zs) →
    IsFrontOf xs ys
short_front [] ys zs le h = (ys, refl)
short_front (x ∷ xs) [] zs le h = absurd (omega arith)
short_front (x ∷ xs) (y ∷ ys) zs le h =
    let rest : xs ++ h.0 ≡ ys ++ zs = cc (h.1) in
    let more = short_front xs ys zs (omega arith) (h.0, rest) in
    (more.0, (cc))

length_replies : {P : Type 0} (tells : Passage → P) (rules : Rules) (address : ℕ) (legs : List Leg)
    (kept : LocalState) →
    length (traced_replies tells rules address legs kept) ≡ length legs
length_replies tells rules address [] kept = refl
length_replies tells rules address (l ∷ legs) kept =
    ap suc (length_replies tells rules address legs (local_after rules address l kept))

replies_more : {P : Type 0} (tells : Passage → P) (rules : Rules) (address : ℕ) (legs more : List Leg)
    (kept : LocalState) →
    (others : List (TracedAnswer P))
    × (traced_replies tells rules address (legs ++ more) kept ≡ traced_replies tells rules address legs kept ++ others)
replies_more tells rules address [] more kept = (traced_replies tells rules address more kept, refl)
replies_more {P} tells rules address (l ∷ legs) more kept =
    let rest = replies_more tells rules address legs more (local_after rules address l kept) in
    (rest.0, ap (λ (xs : List (TracedAnswer P)). traced_by tells rules address l kept ∷ xs) rest.1)

-- If the last answers are right, so were those taken before.
pub right_before : {P : Type 0} {tells : Passage → P} {M G : Type 0} (rules : Rules) (start : State)
    (done all : List Arrival) (pool last_pool : Pool M G Leg (TracedAnswer P))
    (d : Dispatcher P) → DispatcherInvariant tells rules start done all (dispatcher_state pool d) →
    PoolGrows pool last_pool →
    AnswersAreRight tells rules start (accepted_items last_pool) (taken_answers last_pool) →
    AreLanesRight tells rules start (dispatcher_state pool d)
right_before {P} {tells} rules start done all pool last_pool d s grows right = λ w lt.
    let address : ℕ = slice_index rules.pool w in
    let lane : Lane P = (dispatcher_state pool d).lane w in
    let o = s.lanes w lt in
    let more = grows.offered w in
    let others = replies_more tells rules address lane.offered more.0 (local_bindings start address) in
    let whole : IsFrontOf lane.taken (traced_replies tells rules address lane.offered (local_bindings start address)
    ++ others.0) =
    subst (λ l. IsFrontOf lane.taken l)
    (ap (λ legs. traced_replies tells rules address legs (local_bindings start address)) (sym more.1)
    ∙ others.1) (fronts_both _ _ _ (grows.taken w) (right w lt)) in
    let long : length (traced_replies tells rules address lane.offered (local_bindings start address))
    ≡ length lane.offered =
    length_replies tells rules address lane.offered (local_bindings start address) in
    let parts : length lane.offered ≡ length o.before + length o.rest =
    ap length o.parts ∙ length-append o.before o.rest in
    short_front lane.taken (traced_replies tells rules address lane.offered (local_bindings start address)) others.0
    (omega (arith, long, parts, o.long)) whole

-- The first part of a prefix is a prefix.
front_less : {X : Type 0} (xs ys zs : List X) → IsFrontOf (xs ++ ys) zs → IsFrontOf xs zs
front_less xs ys zs h = (ys ++ h.0, sym (append_assoc xs ys h.0) ∙ h.1)

-- ONE LANE

-- The legs offered to a worker are the first of its legs of the whole run.
offered_front : {P : Type 0} {tells : Passage → P} (rules : Rules) (start : State) (done all : List Arrival)
    (state : DispatcherModel P) → DispatcherInvariant tells rules start done all state →
    DispatcherReaches tells rules start done all state →
    (w : ℕ) → w < length rules.pool → IsFrontOf (state.lane w).offered
    (legs_at (slice_index rules.pool w) (effect_from rules start all).acts)
offered_front rules start done all state s r w lt =
    let address : ℕ = slice_index rules.pool w in
    let more : IsFrontOf (effect_from rules start done).acts (effect_from rules start all).acts =
    rw s.whole at (acts_begin rules 0 start.clock done s.rest start.list) in
    let q : WorkerQueueModel = (state.lane w).queue in
    let held : List Leg = q.ready ++ flat_map (resolved_legs (effect_from rules start all).acts) q.held in (
      held ++ legs_at address more.0,
      rw (
        ← append_assoc (state.lane w).offered held (legs_at address more.0),
        r.reached w lt,
        ← legs_append address (effect_from rules start done).acts more.0,
        more.1,
      ) refl,
    )

-- A lane and the progress of the inputs change such that the invariant of the lane is kept.
pub record LaneKeeps {P : Type 0} (tells : Passage → P) (rules : Rules) (start : State) (all : List Arrival) (w : ℕ)
    (one two : Lane P) (progress later : List (InputProgress P)) : Type 0 where
  pub stands : LaneStands one → LaneStands two
  pub right : LaneStands one → IsLaneRight tells rules start w two → IsLaneRight tells rules start w one
  pub legs : ProgressesAreKnown (whole_of tells rules start all) progress →
      lane_legs (effect_from rules start all).acts two ≡ lane_legs (effect_from rules start all).acts one
  pub known : LaneStands one → IsLaneRight tells rules start w two →
      IsFrontOf one.offered (legs_at (slice_index rules.pool w) (effect_from rules start all).acts) →
      ProgressesAreKnown (whole_of tells rules start all) progress →
      ProgressesAreKnown (whole_of tells rules start all) later

lane_keeps : {P : Type 0} {tells : Passage → P} (w : ℕ) (state later : DispatcherModel P) (one two : Lane P) →
    w < state.many → later.many ≡ state.many →
    state.lane w ≡ one → later.lane w ≡ two → ((v : ℕ) → v ≢ w → later.lane v ≡ state.lane v) →
    ((rules : Rules) (start : State) (all : List Arrival) →
    LaneKeeps tells rules start all w one two state.progress later.progress) → DispatcherKeeps tells state later
lane_keeps {tells = tells} w state later one two lt many was is others step = λ rules start done all s.
    let k : LaneKeeps tells rules start all w one two state.progress later.progress = step rules start all in
    let within : w < length rules.pool = rw s.many at lt in
    let own : LaneStands one = rw was at (s.lanes w within) in
    record {
      rest = s.rest;
      whole = s.whole;
      many = many ∙ s.many;
      lanes = λ v lt. elim (cases_eq v w) [
        | inl e ↦ rw (e, is) (k.stands own)
        | inr n ↦ rw (others v n) (s.lanes v lt)
      ];
      reaches = λ right.
          let here : IsLaneRight tells rules start w two = rw is at (right w within) in
          let r : DispatcherReaches tells rules start done all state = s.reaches (λ v lt. elim (cases_eq v w) [
            | inl e ↦ rw (e, was) (k.right own here)
            | inr n ↦ rw (others v n) at (right v lt)
          ]) in
          record {
            reached = λ v lt. elim (cases_eq v w) [
              | inl e ↦ rw (e, is) (k.legs r.known ∙ rw was at (r.reached w within))
              | inr n ↦ rw (others v n) (r.reached v lt)
            ];
            known = k.known own here (rw was at (offered_front rules start done all state s r w within)) r.known;
          };
    }

-- The queues of one worker change, and so may the legs offered to it and the answers taken from it.
pub queues_keep : {P : Type 0} {tells : Passage → P} (w : ℕ) (d later : Dispatcher P)
    (change : WorkerQueueModel → WorkerQueueModel) (offered more : ℕ → List Leg)
    (taken answers : ℕ → List (TracedAnswer P)) → w < length d.queues → later.queues ≡ with_queue w change d.queues →
    ((v : ℕ) → v ≢ w → (more v ≡ offered v) × (answers v ≡ taken v)) →
    ((rules : Rules) (start : State) (all : List Arrival) → LaneKeeps tells rules start all w
    (record { offered = offered w; taken = taken w; queue = queue_of d.queues w })
    (record { offered = more w; taken = answers w; queue = change (queue_of d.queues w) })
    (progress_in d.progress) (progress_in later.progress)) →
    DispatcherKeeps tells (state_with offered taken d) (state_with more answers later)
queues_keep w d later change offered more taken answers lt is others step =
    lane_keeps w (state_with offered taken d) (state_with more answers later)
    (record { offered = offered w; taken = taken w; queue = queue_of d.queues w })
    (record { offered = more w; taken = answers w; queue = change (queue_of d.queues w) })
    lt (ap length is ∙ length_with d.queues w change) refl
    (λ i. record {
      offered = more w;
      taken = answers w;
      queue = (ap (λ qs. queue_of qs w) is ∙ queue_own d.queues w change lt) i;
    })
    (λ v n i. record {
      offered = (others v n).0 i;
      taken = (others v n).1 i;
      queue = (ap (λ qs. queue_of qs v) is ∙ queue_other d.queues w change v n) i;
    })
    step

-- The invariant is kept if at least as much is known after the same inputs.
pub known_stands : {P : Type 0} {tells : Passage → P} (rules : Rules) (start : State) (done all : List Arrival)
    (many : ℕ) (lane : ℕ → Lane P) (progress later : List (InputProgress P)) →
    (ProgressesAreKnown (whole_of tells rules start all) progress →
    ProgressesAreKnown (whole_of tells rules start all) later) →
    DispatcherInvariant tells rules start done all (record { many = many; lane = lane; progress = progress }) →
    DispatcherInvariant tells rules start done all (record { many = many; lane = lane; progress = later })
known_stands rules start done all many lane progress later known s = grind (arith, common_steps, nat_tests)

-- AN OFFER

-- The first legs of the next message are counted as offered.
pub offers_keep : {P : Type 0} {tells : Passage → P} (rules : Rules) (start : State) (all : List Arrival) (w : ℕ)
    (legs : List Leg) (offered : List Leg)
    (taken : List (TracedAnswer P)) (q : WorkerQueueModel) (progress : List (InputProgress P)) → q.ready ≡ legs ++ drop
    (length legs) q.ready →
    LaneKeeps tells rules start all w (record { offered = offered; taken = taken; queue = q })
    (record { offered = offered ++ legs; taken = taken; queue = with_offers legs q }) progress progress
offers_keep {tells = tells} rules start all w legs offered taken q progress ready_is =
    let address : ℕ = slice_index rules.pool w in
    let more = replies_more tells rules address offered legs (local_bindings start address) in
    let replies = length_replies tells rules address offered (local_bindings start address) in
    record {
      stands = λ o. record {
        before = o.before;
        rest = o.rest ++ legs;
        parts = ap (λ ls. ls ++ legs) o.parts ∙ append_assoc o.before o.rest legs;
        long = o.long;
        owed_is = ap (λ os. os ++ map owed_of legs) o.owed_is ∙ sym (map-append owed_of o.rest legs);
        counted = ap (λ n. n + length legs) o.counted ∙ sym (length-append offered legs);
      };
      right = λ o right.
          let all = ap length o.parts ∙ length-append o.before o.rest in
          short_front taken (traced_replies tells rules address offered (local_bindings start address)) more.0
          (omega (arith, all, o.long, replies)) (rw more.1 at right);
      legs = λ known.
          let rest = drop (length legs) q.ready in
          let held = flat_map (resolved_legs (effect_from rules start all).acts) q.held in
          append_assoc offered legs (rest ++ held)
          ∙ ap (λ ls. offered ++ ls) (sym (append_assoc legs rest held) ∙ ap (λ ls. ls ++ held) (sym ready_is));
      known = λ o right front known. known;
    }

-- THE FIRST HELD ENTRY

resolves_known : {P : Type 0} (whole : RunLegs P) (front : QueueHead) (window later : RunProgressModel P)
    (second : Option Leg) →
    queue_waits (progress_in window) front ≡ false → ResolvesFirstPlace front window second later →
    ProgressesAreKnown whole (progress_in window) → ProgressesAreKnown whole (progress_in later)
resolves_known whole fronts.Nothing window later second goes is known = rw is known
resolves_known whole fronts.FirstLeg window later second goes is known = rw is known
resolves_known whole (fronts.FirstPlace number) window later None goes is known = rw is.0.progress_stays known
resolves_known whole (fronts.FirstPlace number) window later (Some leg) goes is known =
    let legs = second_known whole (progress_in window) number (Some leg) goes is.asks known in
    rw is.written.progress_is (known_set whole (progress_in window) number (Returning is.first)
    (returning_known whole number is.asks.p leg is.first legs is.first_is (known number is.asks.p is.asks.there)) known)

first_stands : {P : Type 0} (whole : RunLegs P) (held : List PendingLeg) (window later : RunProgressModel P)
    (second : Option Leg) →
    queue_waits (progress_in window) (front_of held) ≡ false → ResolvesFirstPlace (front_of held) window second later →
    ProgressesAreKnown whole (progress_in window) →
    flat_map (resolved_legs whole.acts) held ≡ first_held_leg second held
    ++ flat_map (resolved_legs whole.acts) (drop 1 held)
first_stands whole [] window later second goes is known = absurd cc
first_stands whole (Ready leg ∷ rest) window later second goes is known = refl
first_stands whole (Place number ∷ rest) window later None goes is known =
    ap (λ ls. ls ++ flat_map (resolved_legs whole.acts) rest)
    (second_known whole (progress_in window) number None goes is.1 known)
first_stands whole (Place number ∷ rest) window later (Some leg) goes is known =
    ap (λ ls. ls ++ flat_map (resolved_legs whole.acts) rest)
    (second_known whole (progress_in window) number (Some leg) goes is.asks known)

-- It becomes a leg of the next message, or it was a placeholder without a leg.
pub readied_keeps : {P : Type 0} {tells : Passage → P} (rules : Rules) (start : State) (all : List Arrival) (w : ℕ)
    (offered : List Leg) (taken : List (TracedAnswer P)) (q : WorkerQueueModel) (window later : RunProgressModel P)
    (second : Option Leg) →
    queue_waits (progress_in window) (front_of q.held) ≡ false →
    ResolvesFirstPlace (front_of q.held) window second later →
    LaneKeeps tells rules start all w (record { offered = offered; taken = taken; queue = q })
    (record { offered = offered; taken = taken; queue = queue_readied second q }) (progress_in window)
    (progress_in later)
readied_keeps {tells = tells} rules start all w offered taken q window later second goes is =
    let whole : RunLegs _ = whole_of tells rules start all in
    record {
      stands = λ o. o;
      right = λ o right. right;
      legs = λ known. ap (λ ls. offered ++ ls)
          (append_assoc q.ready (first_held_leg second q.held) (flat_map (resolved_legs whole.acts) (drop 1 q.held))
          ∙ ap (λ ls. q.ready ++ ls) (sym (first_stands whole q.held window later second goes is known)));
      known = λ o right front known. resolves_known whole (front_of q.held) window later second goes is known;
    }

-- AN ANSWER

each_at : (P : LegAct → Type 0) (address : ℕ) (acts : List LegAct) → Each P acts → Each P (acts_at address acts)
each_at P address [] h = tt
each_at P address (a ∷ acts) h = grind (arith, common_steps, nat_tests, each_at P address acts h.1)

-- The act of a leg and the traced answer to it, which have the same index.
pub record ActOf {P : Type 0} (tells : Passage → P) (timers : Timers) (Q : LegAct →
    Type 0) (leg : Leg) (told : TracedAnswer P)
    : Type 0 where
  pub a : LegAct
  pub leg_is : a.leg ≡ leg
  pub told_is : traced_act tells timers a ≡ told
  pub holds : Q a

act_at : {P : Type 0} (tells : Passage → P) (timers : Timers) (Q : LegAct → Type 0) (acts : List LegAct)
    (before more : List Leg) (leg : Leg) (taken rest : List (TracedAnswer P)) (told : TracedAnswer P) →
    length before ≡ length taken →
    Each Q acts → before ++ leg ∷ more ≡ map (λ (a : LegAct). a.leg) acts →
    (taken ++ told ∷ []) ++ rest ≡ map (traced_act tells timers) acts → ActOf tells timers Q leg told
act_at tells timers Q [] [] more leg taken rest told long each legs answers = cc (legs)
act_at tells timers Q [] (l ∷ before) more leg taken rest told long each legs answers = cc (legs)
act_at tells timers Q (a ∷ acts) [] more leg [] rest told long each legs answers =
    grind (arith, common_steps, nat_tests)
act_at tells timers Q (a ∷ acts) [] more leg (t ∷ taken) rest told long each legs answers = absurd (omega arith)
act_at tells timers Q (a ∷ acts) (l ∷ before) more leg [] rest told long each legs answers = absurd (omega arith)
act_at tells timers Q (a ∷ acts) (l ∷ before) more leg (t ∷ taken) rest told long each legs answers =
    act_at tells timers Q acts before more leg taken rest told (omega arith) each.1 (cc (legs)) (cc (answers))

record Tells (rules : Rules) (start : State) (all : List Arrival) (a : LegAct) : Type 0 where
  pub told : OutcomeIsGiven (effect_from rules start all).outcomes a
  pub seconded : HasItsSecondLeg (effect_from rules start all).acts a
  pub traced : IsTraced rules.timers (traces_of rules start all) (effect_from rules start all).acts a

each_tells : (rules : Rules) (start : State) (all : List Arrival) (acts : List LegAct) →
    Each (OutcomeIsGiven (effect_from rules start all).outcomes) acts →
    Each (HasItsSecondLeg (effect_from rules start all).acts) acts →
    Each (IsTraced rules.timers (traces_of rules start all) (effect_from rules start all).acts) acts →
    Each (Tells rules start all) acts
each_tells rules start all [] h g k = tt
each_tells rules start all (a ∷ acts) h g k =
    (record { told = h.0; seconded = g.0; traced = k.0 }, each_tells rules start all acts h.1 g.1 k.1)

second_asked : (leg : Leg) (e : End) → second_of leg e ≡ option_to_list (second_leg_asked_by leg.number leg.now e)
second_asked leg e = grind (arith, common_steps, nat_tests)

is_outgoing : (way : Way) → is_incoming way ≡ false → way ≡ Outgoing
is_outgoing way h = grind (arith, common_steps, nat_tests)

get_map : {X Y : Type 0} (f : X → Y) (xs : List X) (n : ℕ) (x : X) → slice_get xs n ≡ Some x →
    slice_get (map f xs) n ≡ Some (f x)
get_map f [] n x h = cc
get_map f (y ∷ xs) zero x h = let same : y ≡ x = cc (h) in ap (λ z. Some (f z)) same
get_map f (y ∷ xs) (suc n) x h = get_map f xs n x h

-- The record of an act, and what is then known of its input.
module _ {P : Type 0} (tells : Passage → P) (rules : Rules) (start : State) (all : List Arrival) (a : LegAct)
    (said : Tells rules start all a)
  where
    abbrev number : ℕ
    number = a.leg.number

    abbrev whole_here : RunLegs P
    whole_here = whole_of tells rules start all

    abbrev trace : Trace
    trace = said.traced.trace

    abbrev did : P
    did = tells (passage_of rules.timers a)

    abbrev legs_here : List Leg
    legs_here = second_legs number (effect_from rules start all).acts

    -- If the answer gave the input's outcome, it is the run's.
    abbrev Departs : P → P → Option Outcome → Type 0
    Departs first second outcome = IfSome (departed_with a.leg.now first second outcome)
        (λ d. slice_get whole_here.departed number ≡ Some d)

    departs : (first second : P) → tells trace.first ≡ first → tells trace.second ≡ second →
        (outcome : Option Outcome) →
        IfSome outcome (λ o. slice_get (effect_from rules start all).outcomes number ≡ Some o) →
        Departs first second outcome
    departs first second one two outcome h = grind (arith, common_steps, nat_tests, get_map, steps_get)

    -- If the packet goes onward, there is no outcome yet.
    onward : (first second : P) (place : ℕ) (packet : List ℕ) → a.end ≡ ends.Onward place packet →
        Departs first second (outcome_of_end a.end)
    onward first second place packet is = rw is tt

    first_there : slice_get whole_here.firsts number ≡ Some (tells trace.first)
    first_there = get_map (λ (t : Trace). tells t.first) (traces_of rules start all) number trace said.traced.there

    first_known : (first : P) → slice_get whole_here.firsts number ≡ Some first → (e : End) →
        IfSome (first_by first e) (λ f. slice_get whole_here.firsts number ≡ Some f)
    first_known first is e = grind (arith, common_steps, nat_tests)

    abbrev IsKnownNow : P × P → Type 0
    IsKnownNow passages = ProgressIsKnown whole_here number (Answered (owed_of a.leg) a.end passages.0 passages.1)

    known_now : (first second : P) → slice_get whole_here.firsts number ≡ Some first →
        Departs first second (outcome_of_end a.end) → IsKnownNow (first, second)
    known_now first second is departs = grind (arith, common_steps, nat_tests, first_known, is_outgoing, second_asked)

    -- The answer is to a first leg.
    first_told : (way : Way) → a.leg.way ≡ way → NoneBehind way legs_here →
        IsPlaced rules.timers trace legs_here a → IsKnownNow (did, tells Nothing)
    first_told way goes none only = grind (arith, common_steps, nat_tests, known_now, first_there, departs, onward)

    -- The answer is to a second leg.
    second_told : (first : P) → slice_get whole_here.firsts number ≡ Some first →
        ((leg : Leg) × (legs_here ≡ leg ∷ [])) → IsPlaced rules.timers trace legs_here a → IsKnownNow (first, did)
    second_told first is some only =
        grind (arith, common_steps, nat_tests, known_now, onward, departs, same_Some, first_there)

    told_known : (was : InputProgress P) (way : Way) → a.leg.way ≡ way → ProgressIsKnown whole_here number was →
        (passages : P × P) → passages_after (tells Nothing) was way did ≡ Some passages → IsKnownNow passages
    told_known was way goes known passages is =
        grind (arith, common_steps, nat_tests, same_Some, first_told, second_told)

act_tells : {P : Type 0} (tells : Passage → P) (rules : Rules) (start : State) (all : List Arrival) (leg : Leg)
    (told : TracedAnswer P) (was : InputProgress P) (passages : P × P) →
    ActOf tells rules.timers (Tells rules start all) leg told →
    passages_after (tells Nothing) was leg.way told.passage ≡ Some passages →
    ProgressIsKnown (whole_of tells rules start all) told.answer.number was →
    ProgressIsKnown (whole_of tells rules start all) told.answer.number
    (Answered (owed_of leg) told.answer.end passages.0 passages.1)
act_tells tells rules start all leg told was passages x is known =
    rw (← x.leg_is, ← x.told_is)
    (told_known tells rules start all x.a x.holds was x.a.leg.way refl (rw (← x.told_is) at known)
    passages (rw (← x.leg_is, ← x.told_is) at is))

first_owed : (legs : List Leg) (o : AwaitedLeg) (os : List AwaitedLeg) → o ∷ os ≡ map owed_of legs → (leg : Leg) ×
    (rest : List Leg)
    × (legs ≡ leg ∷ rest) × (o ≡ owed_of leg) × (os ≡ map owed_of rest)
first_owed [] o os h = cc
first_owed (leg ∷ legs) o os h = (leg, legs, refl, cc, cc)

module _ {P : Type 0} (tells : Passage → P) (rules : Rules) (start : State) (all : List Arrival) (w : ℕ)
    (told : TracedAnswer P)
    (owed : AwaitedLeg) (passages : P × P) (offered : List Leg) (taken : List (TracedAnswer P)) (q : WorkerQueueModel)
    (owes : q.owed ≡ owed ∷ drop 1 q.owed) where
  abbrev course : RunEffect
  course = effect_from rules start all

  abbrev address : ℕ
  address = slice_index rules.pool w

  abbrev one : Lane P
  one = record { offered = offered; taken = taken; queue = q }

  abbrev two : Lane P
  two = record { offered = offered; taken = taken ++ told ∷ []; queue = queue_answered q }

  abbrev now_told : AwaitedLeg → InputProgress P
  now_told o = Answered o told.answer.end passages.0 passages.1

  head : (o : LaneStands one) → (leg : Leg) × (rest : List Leg) × (o.rest ≡ leg ∷ rest) × (owed ≡ owed_of leg)
      × (drop 1 q.owed ≡ map owed_of rest)
  head o = first_owed o.rest owed (drop 1 q.owed) (sym owes ∙ o.owed_is)

  answer_known : (was : InputProgress P) → passages_after (tells Nothing) was owed.way told.passage ≡ Some passages →
      LaneStands one → IsLaneRight tells rules start w two → IsFrontOf offered (legs_at address course.acts) →
      ProgressIsKnown (whole_of tells rules start all) told.answer.number was →
      ProgressIsKnown (whole_of tells rules start all) told.answer.number (now_told owed)
  answer_known was is o right front known =
      let first = head o in
      let told_front = right_told tells rules address start all offered (taken ++ told ∷ []) front right in
      let each : Each (Tells rules start all) (acts_at address course.acts) =
      each_at (Tells rules start all) address course.acts (each_tells rules start all course.acts
      (answers_tell rules start all) (answers_fill rules start all) (legs_traced rules start all)) in
      let legs : o.before ++ first.0 ∷ (first.1 ++ front.0)
      ≡ map (λ (a : LegAct). a.leg) (acts_at address course.acts) =
      rw (o.parts, first.2, append_assoc) at front.1 in
      subst (λ (o : AwaitedLeg). ProgressIsKnown (whole_of tells rules start all) told.answer.number (now_told o))
      (sym first.3)
      (act_tells tells rules start all first.0 told was passages (act_at tells rules.timers (Tells rules start all)
      (acts_at address course.acts) o.before (first.1 ++ front.0) first.0 taken told_front.0 told o.long each legs
      told_front.1) (ap (λ (o : AwaitedLeg). passages_after (tells Nothing) was o.way told.passage) (sym first.3)
      ∙ is) known)

  pub answer_keeps : (progress : List (InputProgress P)) (was : InputProgress P) →
      slice_get progress told.answer.number ≡ Some was →
      passages_after (tells Nothing) was owed.way told.passage ≡ Some passages →
      LaneKeeps tells rules start all w one two progress (slice_set progress told.answer.number (now_told owed))
  answer_keeps progress was there is = record {
    stands = λ o.
        let first = head o in
        record {
          before = o.before ++ first.0 ∷ [];
          rest = first.1;
          parts = o.parts ∙ (ap (λ ls. o.before ++ ls) first.2 ∙ sym (append_assoc o.before (first.0 ∷ []) first.1));
          long = length_push o.before first.0 ∙ (ap (λ n. n + 1) o.long ∙ sym (length_push taken told));
          owed_is = first.4;
          counted = o.counted;
        };
    right = λ o right.
        front_less taken (told ∷ []) (traced_replies tells rules address offered (local_bindings start address)) right;
    legs = λ known. refl;
    known = λ o right front known. known_set (whole_of tells rules start all) progress told.answer.number
        (now_told owed) (answer_known was is o right front (known told.answer.number was there)) known;
  }

-- ONE MORE INPUT

single_by : (rules : Rules) (at : ℕ) (leg : Leg) (first : LegEffect) (e : End) →
    ((place : ℕ) (packet : List ℕ) → e ≢ ends.Onward place packet) → (with_second_leg rules at leg first e).acts
    ≡ record { address = at; leg = leg; end = first.end; through = first.through } ∷ []
single_by rules at leg first e n = grind (arith, common_steps, nat_tests)

from_inside : (side : Side) → way_from side ≡ Outgoing → side ≡ Inside
from_inside side h = grind (arith, common_steps, nat_tests)

-- No address occurs twice.
abbrev Distinct : List ℕ → Type 0
Distinct pool = (i j : ℕ) → i < length pool → j < length pool → slice_index pool i ≡ slice_index pool j → i ≡ j

-- Comparing the addresses of workers is comparing their indices.
same_test : (pool : List ℕ) → Distinct pool → (v w : ℕ) → v < length pool → w < length pool →
    (slice_index pool w == slice_index pool v) ≡ (v == w)
same_test pool distinct v w lv lw = grind (arith, common_steps, nat_tests, cases_eq, eq-eqb, ne_eqb)

reads_if : {X Y : Type 0} (f : X → List Y) (b : Bool) (x : X) → flat_map f (cond b (x ∷ []) []) ≡ cond b (f x) []
reads_if f b x = grind (arith, common_steps, nat_tests, append-nil)

legs_behind : (acts : List LegAct) (legs : List Leg) (rest : List PendingLeg) →
    flat_map (resolved_legs acts) (map (λ leg. Ready leg) legs ++ rest) ≡ legs ++ flat_map (resolved_legs acts) rest
legs_behind acts [] rest = refl
legs_behind acts (leg ∷ legs) rest = ap (λ (ls : List Leg). leg ∷ ls) (legs_behind acts legs rest)

-- All held entries, as legs.
legs_held : (acts : List LegAct) (q : WorkerQueueModel) →
    flat_map (resolved_legs acts) (all_held q) ≡ q.ready ++ flat_map (resolved_legs acts) q.held
legs_held acts q = legs_behind acts q.ready q.held

-- More is held for one worker.
lane_more : {P : Type 0} (acts : List LegAct) (offered : List Leg) (taken : List (TracedAnswer P))
    (q later : WorkerQueueModel)
    (more : List PendingLeg) →
    HoldPost more q later → lane_legs acts (record { offered = offered; taken = taken; queue = later })
    ≡ lane_legs acts (record { offered = offered; taken = taken; queue = q }) ++ flat_map (resolved_legs acts) more
lane_more acts offered taken q later more h =
    ap (λ ls. offered ++ ls) (sym (legs_held acts later) ∙ (ap (flat_map (resolved_legs acts)) h.held_is
    ∙ (flat_map-append (resolved_legs acts) (all_held q) more
    ∙ ap (λ ls. ls ++ flat_map (resolved_legs acts) more) (legs_held acts q))))
    ∙ sym (append_assoc offered (q.ready ++ flat_map (resolved_legs acts) q.held) (flat_map (resolved_legs acts) more))

module _ {P : Type 0} (tells : Passage → P) (rules : Rules) (start : State) (distinct : Distinct rules.pool)
    (done rest : List Arrival) (input : Arrival) (number now : ℕ) (long : length done ≡ number)
    (clock : max (last_clock start.clock done) input.clock ≡ now) (offered : ℕ → List Leg) (taken : ℕ →
    List (TracedAnswer P))
    (d later : Dispatcher P) where
  abbrev all_of : List Arrival
  all_of = (done ++ input ∷ []) ++ rest

  abbrev now_done : List Arrival
  now_done = done ++ input ∷ []

  abbrev acts_all : List LegAct
  acts_all = (effect_from rules start all_of).acts

  abbrev at_place : ℕ → ℕ
  at_place v = slice_index rules.pool v

  -- The invariant is kept if what is newly held and known has the legs of one more input.
  grown_stands : (extra : ℕ → List PendingLeg) → length later.queues ≡ length d.queues →
      QueuesHoldMore extra d.queues later.queues →
      ((v : ℕ) → v < length rules.pool → legs_at (at_place v) (effect_from rules start now_done).acts ≡ legs_at
      (at_place v) (effect_from rules start done).acts ++ flat_map (resolved_legs acts_all) (extra v)) →
      (ProgressesAreKnown (whole_of tells rules start all_of) (progress_in d.progress) → ProgressesAreKnown
      (whole_of tells rules start all_of) (progress_in later.progress)) →
      DispatcherInvariant tells rules start done all_of
      (state_with offered taken d) → DispatcherInvariant tells rules start now_done all_of
      (state_with offered taken later)
  grown_stands extra many holds legs known s = record {
    rest = rest;
    whole = refl;
    many = many ∙ s.many;
    lanes = λ v lt. rw ((holds v).offered_stays, (holds v).owed_stays) (s.lanes v lt);
    reaches = λ right.
        let r : DispatcherReaches tells rules start done all_of (state_with offered taken d) = s.reaches right in
        record {
          reached = λ v lt. lane_more acts_all (offered v) (taken v) (queue_of d.queues v) (queue_of later.queues v)
              (extra v) (holds v)
              ∙ (ap (λ ls. ls ++ flat_map (resolved_legs acts_all) (extra v)) (r.reached v lt) ∙ sym (legs v lt));
          known = known r.known;
        };
  }

  pub refused_stands : (cause : Cause) → admission rules input ≡ Err cause → later.queues ≡ d.queues →
      progress_in later.progress ≡ slice_set (progress_in d.progress) number
      (progress_refused (tells Nothing) now cause) →
      DispatcherInvariant tells rules start done all_of (state_with offered taken d) →
      DispatcherInvariant tells rules start now_done all_of (state_with offered taken later)
  refused_stands cause is queues written =
      let before : RunEffect = effect_from rules start done in
      let acts : (effect_from rules start now_done).acts ≡ before.acts =
      ap (λ (r : RunEffect). r.acts) (grown rules start done rest input number now long clock (Err cause) is)
      ∙ append-nil before.acts in
      let outs : (effect_from rules start now_done).outcomes ≡ before.outcomes ++ outcomes.Dropped cause ∷ [] =
      ap (λ (r : RunEffect). r.outcomes) (grown rules start done rest input number now long clock (Err cause) is) in
      let front : IsFrontOf (effect_from rules start now_done).outcomes (effect_from rules start all_of).outcomes =
      outcomes_begin rules 0 start.clock now_done rest start.list in
      let e : (effect_from rules start all_of).outcomes ≡ (before.outcomes ++ outcomes.Dropped cause ∷ [])
      ++ front.0 = sym front.1 ∙ ap (λ (os : List Outcome). os ++ front.0) outs in
      let there : slice_get (effect_from rules start all_of).outcomes number ≡ Some (outcomes.Dropped cause) =
      ap (λ (os : List Outcome). slice_get os number) e ∙ get_at before.outcomes (outcomes.Dropped cause) front.0
      number (outcomes_long rules 0 start.clock done start.list ∙ long) in
      grown_stands (λ v. []) (ap length queues)
      (λ v. rw queues (record { offered_stays = refl; owed_stays = refl; held_is = sym (append-nil _) }))
      (λ v lt. rw (acts, append-nil) refl)
      (λ known. rw written (known_set (whole_of tells rules start all_of) (progress_in d.progress) number
      (progress_refused (tells Nothing) now cause) (ended_known (whole_of tells rules start all_of) number
      (refused_at (tells Nothing) now cause) (get_map (input_result tells) (steps_of rules start all_of) number
      (record { outcome = outcomes.Dropped cause; trace = record { now = now; first = Nothing; second = Nothing } })
      (steps_get rules start all_of number (outcomes.Dropped cause) _ there
      (refused_trace rules start done rest input number now long clock cause is)))) known))

  module _ (packet : List ℕ) (admitted : admission rules input ≡ Ok packet) (foretold : OnwardIsForeseen)
      (is : IsPacket packet) (w : ℕ) (within : w < length rules.pool) (served : at_place w
      ≡ served_at rules (way_from input.side) packet)
      (same : progress_in later.progress ≡ progress_in d.progress) where
    abbrev leg_of : Leg
    leg_of = record { number = number; now = now; way = way_from input.side; packet = packet }

    same_first : (v : ℕ) → v < length rules.pool →
        (served_at rules (way_from input.side) packet == at_place v) ≡ (v == w)
    same_first v lt = rw (← served) (same_test rules.pool distinct v w lt within)

    -- The input has its first leg alone.
    pub alone_stands : (input.side ≡ Inside → pool_place rules (destination packet).address ≡ None) →
        length later.queues ≡ length d.queues →
        QueuesHoldMore (λ v. only_at w (Ready leg_of ∷ []) v ++ []) d.queues later.queues →
        DispatcherInvariant tells rules start done all_of (state_with offered taken d) →
        DispatcherInvariant tells rules start now_done all_of (state_with offered taken later)
    alone_stands none many holds s =
        grown_stands (λ v. only_at w (Ready leg_of ∷ []) v ++ []) many holds
        (λ v lt.
        let before : RunEffect = effect_from rules start done in
        let at_w : ℕ = served_at rules (way_from input.side) packet in
        let first : LegEffect = act rules at_w leg_of before.list in
        let never : (place : ℕ) (q : List ℕ) → first.end ≢ ends.Onward place q = λ place q h.
        let f : IsEndForeseen rules leg_of place q = foretold rules at_w leg_of before.list place q is.0 is.1 h in
        let n : pool_place rules (destination packet).address ≡ None = none (from_inside input.side f.way) in
        let t : pool_place rules (destination packet).address ≡ Some place = f.served in
        cc in
        let acts : (effect_from rules start now_done).acts ≡ before.acts ++ first_act rules at_w leg_of before.list
        ∷ [] =
        acts_grow rules start done rest input number now long clock packet admitted
        ∙ ap (λ (xs : List LegAct). before.acts
        ++ xs) (single_by rules at_w leg_of first first.end never) in
        rw (
          acts,
          legs_append (at_place v) before.acts (first_act rules at_w leg_of before.list ∷ []),
          cond_map,
          same_first v lt,
          append-nil (only_at w (Ready leg_of ∷ []) v),
          reads_if (resolved_legs acts_all) (v == w) (Ready leg_of),
        ) refl)
        (λ known. rw same known) s

    -- The input also has a placeholder for its second leg.
    pub placed_stands : (to : ℕ) → to < length rules.pool → at_place to ≡ (destination packet).address →
        input.side ≡ Inside → length later.queues ≡ length d.queues →
        QueuesHoldMore (λ v. only_at w (Ready leg_of ∷ []) v ++ only_at to (Place number ∷ []) v) d.queues
        later.queues →
        DispatcherInvariant tells rules start done all_of (state_with offered taken d) →
        DispatcherInvariant tells rules start now_done all_of (state_with offered taken later)
    placed_stands to to_within goes side many holds s =
        grown_stands (λ v. only_at w (Ready leg_of ∷ []) v ++ only_at to (Place number ∷ []) v) many holds
        (λ v lt. rw (
          place_stands rules start done rest input number now long clock packet admitted foretold is (ap way_from side)
              (at_place v),
          same_first v lt,
          ← goes,
          same_test rules.pool distinct v to lt to_within,
          flat_map-append,
          reads_if (resolved_legs acts_all) (v == w) (Ready leg_of),
          reads_if (resolved_legs acts_all) (v == to) (Place number),
        ) refl)
        (λ known. rw same known) s

-- An input that is dropped before any leg.
pub refused_admits : {P : Type 0} {tells : Passage → P} (rules : Rules) (number now : ℕ) (input : Arrival)
    (d later : Dispatcher P) (cause : Cause) →
    Distinct rules.pool → admission rules input ≡ Err cause → later.queues ≡ d.queues →
    progress_in later.progress ≡ slice_set (progress_in d.progress) number
    (progress_refused (tells Nothing) now cause) →
    Admits tells rules number now input d later
refused_admits rules number now input d later cause distinct is queues written =
    grind (arith, common_steps, nat_tests, refused_stands)

-- An input with a first leg, and perhaps a placeholder for its second.
pub admitted_admits : {P : Type 0} {tells : Passage → P} (rules : Rules) (number now : ℕ) (input : Arrival)
    (d later : Dispatcher P) (packet : List ℕ)
    (w : ℕ) → Distinct rules.pool → OnwardIsForeseen → IsPacket packet → admission rules input ≡ Ok packet →
    slice_get rules.pool w ≡ Some (served_at rules (way_from input.side) packet) →
    progress_in later.progress ≡ progress_in d.progress →
    (to : Option ℕ) → IfSome to (λ place. (input.side ≡ Inside) × (pool_place rules (destination packet).address
    ≡ Some place)) → (to ≡ None → input.side ≡ Inside → pool_place rules (destination packet).address ≡ None) →
    length later.queues ≡ length d.queues →
    (let leg : Leg = record { number = number; now = now; way = way_from input.side; packet = packet } in
    QueuesHoldMore (λ v. only_at w (Ready leg ∷ []) v ++ lane_at number to v) d.queues later.queues) →
    Admits tells rules number now input d later
admitted_admits
    {tells = tells} rules number now input d later packet w distinct foretold is admitted place same None some none many
    e =
    λ start offered taken done rest long clock s.
    let p : (w < length rules.pool) × (slice_index rules.pool w ≡ served_at rules (way_from input.side) packet) =
    place_within rules.pool w (served_at rules (way_from input.side) packet) place in
    alone_stands tells rules start distinct done rest input number now long clock offered taken d later packet admitted
    foretold is w p.0 p.1 same (none refl) many e s
admitted_admits {tells = tells} rules number now input d later packet w distinct foretold is admitted place same
    (Some v) some none many e =
    λ start offered taken done rest long clock s.
    let p : (w < length rules.pool) × (slice_index rules.pool w ≡ served_at rules (way_from input.side) packet) =
    place_within rules.pool w (served_at rules (way_from input.side) packet) place in
    let q : (v < length rules.pool) × (slice_index rules.pool v ≡ (destination packet).address) =
    place_within rules.pool v (destination packet).address
    (stands_at rules.pool (destination packet).address v some.1) in
    placed_stands tells rules start distinct done rest input number now long clock offered taken d later packet admitted
    foretold is w p.0 p.1 same v q.0 q.1 some.0 many e s

-- THE START

none_known : {P : Type 0} (whole : RunLegs P) (i : ℕ) (p : InputProgress P) →
    slice_get (let ps : List (InputProgress P) = [] in ps) i ≡ Some p → ProgressIsKnown whole i p
none_known whole i p h = cc

pub begin_stands : {P : Type 0} {tells : Passage → P} (rules : Rules) (start : State) (inputs : List Arrival)
    (offered : List (List Leg)) (taken : List (List (TracedAnswer P)))
    (d : Dispatcher P) → d.queues ≡ replicate (length rules.pool) unused_queue →
    offered ≡ replicate (length rules.pool) [] → taken ≡ replicate (length rules.pool) [] →
    progress_in d.progress ≡ [] → DispatcherInvariant tells rules start [] inputs
    (state_with (of_worker offered) (of_worker taken) d)
begin_stands rules start inputs offered taken d is no_legs no_answers progress =
    grind (arith, common_steps, nat_tests, of_replicate, length-replicate, none_known)

-- THE END

-- All answers were taken.
pub all_taken : {P : Type 0} (lane : Lane P) → LaneStands lane → lane.queue.owed ≡ [] → length lane.taken
    ≡ length lane.offered
all_taken lane o none = grind (arith, common_steps, nat_tests, length-map, length-append)

module _ {P : Type 0} {tells : Passage → P} (rules : Rules) (start : State) (inputs : List Arrival)
    (offered : List (List Leg)) (taken : ℕ → List (TracedAnswer P)) (d : Dispatcher P)
    (s : DispatcherInvariant tells rules start inputs inputs (state_with (of_worker offered) taken d))
    (times : times_in d.progress ≡ map (λ i. i.time) inputs)
    (right : AreLanesRight tells rules start (state_with (of_worker offered) taken d)) where
  abbrev whole : RunLegs P
  whole = whole_of tells rules start inputs

  -- The results that left the window are the first ones of the run.
  pub left_right : IsFrontOf d.progress.left (timed_results inputs (input_results tells rules start inputs))
  left_right = left_front whole d.progress inputs times (s.reaches right).known (departed_long tells rules start inputs)

  -- They are all of the run's results if no input is open.
  pub dispatched : length offered ≡ length rules.pool → DispatcherIsDone d → d.progress.under_way ≡ [] →
      (d.progress.left ≡ timed_results inputs (input_results tells rules start inputs))
      × IsDispatchedFrom rules start inputs offered (map collected_outcome d.progress.left) (counts_in d.queues)
  dispatched many idle none =
      let long = departed_long tells rules start inputs in
      let reached : (w : ℕ) → w < length rules.pool → of_worker offered w
      ≡ legs_at (slice_index rules.pool w) whole.acts = λ w lt.
      let q : WorkerQueueModel = queue_of d.queues w in
      let none : held_legs_count q ≡ 0 = idle.held w in
      rw (nothing q.ready (omega (arith, none)), nothing q.held (omega (arith, none)), append-nil)
      at ((s.reaches right).reached w lt) in
      let left : d.progress.left ≡ timed_results inputs (input_results tells rules start inputs) =
      left_whole whole d.progress inputs times (s.reaches right).known long none in (
        left,
        record {
          legs = map_at (λ address. legs_at address whole.acts) offered [] rules.pool many reached;
          outcomes_are = ap (map collected_outcome) left
              ∙ (timed_outcomes inputs (input_results tells rules start inputs) long
              ∙ departed_outcomes tells rules start inputs);
          numbers_are = map_at (λ address. length (legs_at address whole.acts)) (counts_in d.queues) 0 rules.pool
              (length-map d.queues (λ q. q.offered) ∙ s.many)
              (λ w lt. get_or-map (λ q. q.offered) d.queues w unused_queue 0 (rw s.many lt)
              ∙ ((s.lanes w lt).counted ∙ ap length (reached w lt)));
        },
      )

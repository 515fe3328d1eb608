-- The endings of a run from an input source to an outcome sink.
use Rattle.std.proofs.lemmas.{Grind.common_steps, Bool.Decides.nat_tests, List.length-map}
use Rattle.std.proofs.Common.{◌≡◌, ℕ, Bool, false, inr, List, [], ◌++◌, length, replicate, Option, MatchOption, refl, sym, ◌∙◌, ap, subst, arith, append-nil}
use Rattle.napt_config.specs.Rules.{Rules}
use Rattle.napt_rules.specs.{Prelude.{Arrival, State}, declared.Leg.Leg}
use Rattle.napt_laws.specs.Dispatching.{IsFrontOf}
use Rattle.napt_sequential.specs.declared.{fault.RunFault.{RunFault, TheVariants.Memory}, leg_trace.TracedAnswer.TracedAnswer, passage.Passage.Passage}
use Rattle.napt_pool.specs.{declared.pool.Pool.Pool, Pools.{accepted_items, taken_answers as taken}, Workers.{machine_of, accepted_of, taken_of}}
use Rattle.napt_dispatch.specs.declared.dispatcher.{Dispatcher.Dispatcher, DispatchResult.DispatchResult, DispatchEnd.DispatchEnd, reading.EndOfInputs.EndOfInputs}
use Rattle.napt_dispatch.specs.{Dispatch.{of_worker, input_results}, WorkerQueues.{unused_queue, counts_in}, RunProgresses.{progress_in, whole_of}, DispatcherInvariants.{dispatcher_state, DispatcherInvariant}}
use Rattle.napt_dispatch.specs.RunsThrough.{timed_results, HasCome, ReadInputsPost, ReadsAll, ReadsSome, ReadsToHalt, DispatchOk, DispatchDeparturesErr, DispatchErr, DispatchPost}
use Rattle.napt_dispatch.proofs.{DispatchEnds.same_lengths, RunSteps.many_read, Lanes.grows_none, KnownInputs.{length_all, left_front_of, departed_long}}
use Rattle.napt_dispatch.{proofs.InvariantSteps.{begin_stands, all_taken, dispatched, left_right, right_before}, specs.declared.outcome_sink.InputResult.InputResult}
use Rattle.napt_dispatch.specs.declared.dispatcher.DispatchEnd.TheVariants as endings

-- The invariant holds before the first input.
pub begun : {P : Type 0} {tells : Passage → P} {M G : Type 0} (rules : Rules) (start : State)
    (pool : Pool M G Leg (TracedAnswer P)) (d : Dispatcher P) (workers : ℕ) → workers ≡ length rules.pool →
    d.queues ≡ replicate workers unused_queue → d.progress.left ≡ [] → d.progress.under_way ≡ [] →
    accepted_items pool ≡ replicate
    (length rules.pool) [] → taken pool ≡ replicate (length rules.pool) [] → (inputs : List Arrival) →
    DispatcherInvariant tells rules start [] inputs (dispatcher_state pool d)
begun rules start pool d workers many queues left none unoffered untaken inputs =
    begin_stands rules start inputs (accepted_items pool) (taken pool) d (rw many at queues) unoffered untaken
    (rw (left, none) refl)

module _ {P : Type 0} {tells : Passage → P} {M G : Type 0} {rules : Rules} {start : State}
    {pool later_pool : Pool M G Leg (TracedAnswer P)} {d later : Dispatcher P} (at : start.clock ≡ d.clock)
    (begun : (inputs : List Arrival) → DispatcherInvariant tells rules start [] inputs (dispatcher_state pool d))
    {inputs : List Arrival} {went : List (ℕ × InputResult P)}
    (r : ReadInputsPost tells rules pool d inputs went later_pool later) where
  stand_now : DispatcherInvariant tells rules start inputs inputs (dispatcher_state later_pool later)
  stand_now = subst (λ all. DispatcherInvariant tells rules start inputs all (dispatcher_state later_pool later))
      (append-nil inputs)
      (r.served start at [] (begun (inputs ++ [])))

  -- There are as many workers as external addresses.
  many_offered : length (accepted_items later_pool) ≡ length rules.pool
  many_offered = length-map _ accepted_of ∙ (sym (length-map _ machine_of) ∙ (sym r.sized ∙ stand_now.many))

  many_taken : length (taken later_pool) ≡ length rules.pool
  many_taken = length-map _ taken_of ∙ (sym (length-map _ machine_of) ∙ (sym r.sized ∙ stand_now.many))

module _ {P : Type 0} {tells : Passage → P} {A F S B M G : Type 0} {rules : Rules} {start : State}
    {hands : A → List Arrival → A → Type 0} {ends : A → Option F → A → Type 0}
    {takes : S → List (ℕ × InputResult P) → S → Type 0} {fails : S → List (ℕ × InputResult P) → B → S → Type 0}
    {is_settled : S → Type 0} {from : A} {before : S} {later_pool : Pool M G Leg (TracedAnswer P)} {left : A}
    {after : S} where
  pub ends_by : (done : DispatchResult F B) (fault : Option F) (ending : DispatchEnd F B) →
      MatchOption fault (ending ≡ endings.Whole) (λ f. ending ≡ endings.Arrival f) →
      DispatchOk tells rules start hands ends takes fails is_settled from before later_pool left after fault done →
      DispatchPost tells rules start hands ends takes fails is_settled from before later_pool left after done ending
  ends_by done fault ending is e = grind (arith, common_steps, nat_tests)

  module _ (pool : Pool M G Leg (TracedAnswer P)) (d : Dispatcher P) {later : Dispatcher P}
      (at : start.clock ≡ d.clock) (begun : (inputs : List Arrival) → DispatcherInvariant tells rules start [] inputs
      (dispatcher_state pool d)) where
    pub ends_with : (end : EndOfInputs F) (done : DispatchResult F B) →
        ReadsAll tells rules hands ends takes fails is_settled pool d from before later_pool later left after end →
        done.legs.items ≡ counts_in later.queues → done.clock ≡ end.clock →
        DispatchOk tells rules start hands ends takes fails is_settled from before later_pool left after end.fault done
    ends_with end done r legs clock =
        let inputs : List Arrival = r.to_end.inputs in
        let went : List (ℕ × InputResult P) = r.to_end.went in
        let reads : ReadInputsPost tells rules pool d inputs went later_pool later = r.to_end.reads in
        let s : DispatcherInvariant tells rules start inputs inputs (dispatcher_state later_pool later) =
        stand_now at begun reads in
        let many : length (accepted_items later_pool) ≡ length rules.pool = many_offered at begun reads in
        record {
          inputs = inputs;
          went = went;
          came = r.to_end.came;
          clock = rw (clock, at) r.to_end.clock;
          took = r.to_end.took;
          settled = r.settled;
          few =
              let one : length inputs ≡ length (progress_in later.progress) = many_read later inputs reads.times_are in
              let two = length_all later.progress in
              let none : length later.progress.under_way ≡ 0 = ap length r.none_under_way in
              omega (arith, one, two, none, r.few);
          offered_many = many;
          answered = same_lengths _ _ (many_taken at begun reads ∙ sym many)
              (λ v lt. all_taken ((dispatcher_state later_pool later).lane v) (s.lanes v (rw many at lt))
              (r.done.owed v));
          right = λ right.
              let both = dispatched rules start inputs (accepted_items later_pool) (of_worker (taken later_pool))
              later s
              reads.times_are right many r.done r.none_under_way in (
                sym reads.left_is ∙ both.0,
                rw (legs, ← reads.left_is) both.1,
              );
        }

    pub ends_early : (fault : B) →
        ReadsSome tells rules hands ends takes fails is_settled pool d from before later_pool later left after fault →
        DispatchDeparturesErr tells rules start hands ends takes fails is_settled from before later_pool left after
        fault
    ends_early fault r = record {
      inputs = r.inputs;
      went = r.went;
      come = r.come;
      failed = r.failed;
      offered_many = many_offered at begun r.reads;
      right = λ right. rw (← r.reads.left_is)
          (left_right rules start r.inputs (accepted_items later_pool) (of_worker (taken later_pool)) later
          (stand_now at begun r.reads) r.reads.times_are right);
    }

    -- The ending if there was a fault of dispatching.
    pub ends_halted : (open_gate : Bool) (fault : RunFault) →
        ReadsToHalt tells rules hands ends takes fails is_settled pool d from before later_pool later left after
        open_gate fault → DispatchErr tells rules start hands ends takes fails is_settled from before later_pool left
        after
    ends_halted open_gate fault r =
        let all : List Arrival = r.inputs ++ r.unread in
        let s : DispatcherInvariant tells rules start r.inputs all (dispatcher_state r.last_pool r.last) =
        r.reads.served start at r.unread
        (begun all) in
        record {
          inputs = all;
          went = r.went;
          come = r.come;
          took = r.took;
          offered_many = length-map _ accepted_of ∙ (sym (length-map _ machine_of)
              ∙ (ap length r.halted.grows.starts_stay ∙ (sym r.reads.sized ∙ s.many)));
          right = λ right.
              let known = (s.reaches (right_before rules start r.inputs all r.last_pool later_pool r.last s
              r.halted.grows right)).known in
              subst (λ went. IsFrontOf went (timed_results all (input_results tells rules start all))) r.reads.left_is
              (left_front_of (whole_of tells rules start all) r.last.progress r.inputs r.unread r.reads.times_are known
              (departed_long tells rules start all));
        }

    -- The same ending if all outcomes had left before the fault.
    pub ends_after : (end : EndOfInputs F) →
        ReadsAll tells rules hands ends takes fails is_settled pool d from before later_pool later left after end →
        DispatchErr tells rules start hands ends takes fails is_settled from before later_pool left after
    ends_after end r = ends_halted false Memory (record {
      inputs = r.to_end.inputs;
      unread = [];
      went = r.to_end.went;
      come = subst (λ all. HasCome hands ends from all left) (sym (append-nil r.to_end.inputs))
          (inr (end.fault, r.to_end.came));
      last_pool = later_pool;
      last = later;
      reads = r.to_end.reads;
      took = r.to_end.took;
      halted = record { grows = grows_none later_pool; fault_is = tt };
    })

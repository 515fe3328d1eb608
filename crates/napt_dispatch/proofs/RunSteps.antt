-- The steps of a run from an input source to an outcome sink.
use Rattle.std.{proofs.lemmas.{Grind.common_steps, Bool.Decides.nat_tests, List.{map-append, length-map}}, specs.Prelude.slice_get}
use Rattle.std.proofs.Common.{◌≡◌, ℕ, max, Bool, List, [], ◌∷◌, ◌++◌, length, map, Option, Some, Result, Ok, Err, refl, sym, ◌∙◌, ap, subst, arith, append-nil, append_assoc}
use Rattle.napt_wire.specs.declared.{Way.Way, Side.Side}
use Rattle.napt_config.specs.Rules.{Rules}
use Rattle.napt_rules.specs.{declared.Leg.Leg, Prelude.{way_from, Arrival, State, effect_from, last_clock}}
use Rattle.napt_pool.specs.{declared.pool.Pool.Pool, Pools.{accepted_items, taken_answers as taken}}
use Rattle.napt_sequential.{specs.{Inputs.InputsCame, declared.{fault.RunFault.RunFault, passage.Passage.Passage}}, proofs.{StepsInOrder.input_there, TracedLegs.outside_alone}}
use Rattle.napt_sequential.specs.declared.leg_trace.TracedAnswer.{TracedAnswer}
use Rattle.napt_laws.{specs.SecondLegs.second_legs, proofs.OneMoreInput.clock_more}
use Rattle.napt_dispatch.specs.{declared.{dispatcher.Dispatcher.Dispatcher, outcome_sink.InputResult.InputResult}, Dispatch.of_worker}
use Rattle.napt_dispatch.specs.RunProgresses.{RunProgressModel, OutcomesAreHandedOver, times_in, progress_in, progress_expecting, NoneBehind, whole_of}
use Rattle.napt_dispatch.specs.DispatcherInvariants.{journal_of, dispatcher_state, IsSizedFor, DispatcherInvariant, DispatcherContinues, ContinuesOr, DispatcherHalts, Admits, DispatcherHasRoom, DispatcherIsDone}
use Rattle.napt_dispatch.proofs.{QueueStates.held_none, Lanes.{grows_none, grows_both, halts_after}, InvariantSteps.known_stands}
use Rattle.napt_dispatch.{proofs.KnownInputs.{known_push, times_long, expecting_times, expecting_progress}, specs.declared.faults.DispatchFault.DispatchFault}
use Rattle.napt_dispatch.specs.declared.dispatcher.{reading.EndOfInputs.EndOfInputs, input_progress.InputProgress.TheVariants.Awaited}
use Rattle.napt_dispatch.specs.RunsThrough.{DeparturesFail, DispatcherGoesOn, OutcomesLeave, RunThroughHalts, HaltsAt, ReadInputPost, ReadInputsPost, HasCome, ReadsToEnd, ReadsHalted}
use Rattle.napt_dispatch.specs.declared.faults.DispatchFault.TheVariants as dispatch_faults

pub many_read : {P : Type 0} (d : Dispatcher P) (inputs : List Arrival) →
    times_in d.progress ≡ map (λ i. i.time) inputs → length inputs ≡ length (progress_in d.progress)
many_read d inputs times = grind (arith, common_steps, nat_tests, length-map, times_long)

pub clock_on : (from : ℕ) (inputs : List Arrival) (input : Arrival) (clock own now : ℕ) →
    clock ≡ last_clock from inputs → own ≡ input.clock → now ≡ max clock own → now ≡ last_clock from
    (inputs ++ input ∷ [])
clock_on from inputs input clock own now was same is = grind (arith, common_steps, nat_tests, clock_more)

-- WITH A POOL

-- An input from outside has no second leg.
none_behind : (rules : Rules) (start : State) (all : List Arrival) (number : ℕ) (input : Arrival) →
    slice_get all number ≡ Some input → (side : Side) → input.side ≡ side →
    NoneBehind (way_from input.side) (second_legs number (effect_from rules start all).acts)
none_behind rules start all number input there side is = grind (arith, common_steps, nat_tests, outside_alone)

module _ {P M G : Type 0} {tells : Passage → P} where
  -- A dispatcher that did nothing continues.
  pub goes_none : {pool : Pool M G Leg (TracedAnswer P)} {d : Dispatcher P} → IsSizedFor pool d →
      DispatcherGoesOn tells pool d [] pool d
  goes_none sized = grind (arith, common_steps, nat_tests, grows_none, append-nil)

  -- A dispatcher continues if outcomes left and nothing else was done.
  pub goes_over : (pool : Pool M G Leg (TracedAnswer P)) (d later : Dispatcher P) (went : List (ℕ × InputResult P)) →
      IsSizedFor pool d → later.queues ≡ d.queues → OutcomesAreHandedOver went d.progress later.progress →
      DispatcherGoesOn tells pool d went pool later
  goes_over pool d later went sized queues over = record {
    grows = grows_none pool;
    sized = rw queues sized;
    times_stay = over.times_stay;
    left_is = over.left_is;
    keeps = λ rules start done all s.
        record {
          stands = rw queues (known_stands rules start done all (length d.queues) (dispatcher_state pool d).lane
              (progress_in d.progress) (progress_in later.progress)
              (over.known (whole_of tells rules start all)) s.stands);
        };
  }

  module _ {pool mid_pool later_pool : Pool M G Leg (TracedAnswer P)} {d mid later : Dispatcher P} where
    pub continues_both : DispatcherContinues tells pool d mid_pool mid →
        DispatcherContinues tells mid_pool mid later_pool later →
        DispatcherContinues tells pool d later_pool later
    continues_both a b = record {
      grows = grows_both a.grows b.grows;
      sized = b.sized;
      journal_stays = b.journal_stays ∙ a.journal_stays;
      keeps = λ rules start done all s. b.keeps rules start done all (a.keeps rules start done all s);
    }

    pub goes_more : {xs ys : List (ℕ × InputResult P)} → DispatcherGoesOn tells pool d xs mid_pool mid →
        DispatcherGoesOn tells mid_pool mid ys later_pool later →
        DispatcherGoesOn tells pool d (xs ++ ys) later_pool later
    goes_more {xs} {ys} a b = record {
      grows = grows_both a.grows b.grows;
      sized = b.sized;
      times_stay = b.times_stay ∙ a.times_stay;
      left_is = b.left_is ∙ (ap (λ l. l ++ ys) a.left_is ∙ append_assoc d.progress.left xs ys);
      keeps = λ rules start done all s. b.keeps rules start done all (a.keeps rules start done all s);
    }

    -- A dispatcher continues if answers were then taken and legs offered, and nothing left.
    pub goes_then : {xs : List (ℕ × InputResult P)} → DispatcherGoesOn tells pool d xs mid_pool mid →
        DispatcherContinues tells mid_pool mid later_pool later → DispatcherGoesOn tells pool d xs later_pool later
    goes_then a b = record {
      grows = grows_both a.grows b.grows;
      sized = b.sized;
      times_stay = ap (λ j. j.0) b.journal_stays ∙ a.times_stay;
      left_is = ap (λ j. j.1) b.journal_stays ∙ a.left_is;
      keeps = λ rules start done all s. b.keeps rules start done all (a.keeps rules start done all s);
    }

  pub continues_then : {X : Type 0} {pool mid_pool : Pool M G Leg (TracedAnswer P)} {d mid : Dispatcher P} →
      DispatcherContinues tells pool d mid_pool mid → (open_gate : Bool) (later_pool : Pool M G Leg (TracedAnswer P))
      (later : Dispatcher P)
      (result : Result X RunFault) → ContinuesOr tells open_gate mid_pool mid later_pool later result →
      ContinuesOr tells open_gate pool d later_pool later result
  continues_then a open_gate later_pool later (Ok done) b = continues_both a b
  continues_then a open_gate later_pool later (Err fault) b = halts_after a.grows b

  -- ONE INPUT IS READ

  -- An input was opened, its first leg was held, and then answers may have been taken and legs offered.
  pub serves_as : (rules : Rules) (now number : ℕ) (input : Arrival) (pool : Pool M G Leg (TracedAnswer P))
      (d admitted : Dispatcher P) (window : RunProgressModel P) (later_pool : Pool M G Leg (TracedAnswer P))
      (later : Dispatcher P) →
      window ≡ progress_expecting input.time (way_from input.side) d.progress →
      number ≡ length (progress_in d.progress) →
      Admits tells rules number now input (record d { progress = window }) admitted →
      journal_of admitted.progress ≡ journal_of window → DispatcherContinues tells pool admitted later_pool later →
      ReadInputPost tells rules now input pool d later_pool later
  serves_as rules now number input pool d admitted window later_pool later is at admits journal goes = record {
    grows = goes.grows;
    sized = goes.sized;
    times_are = ap (λ j. j.0) (goes.journal_stays ∙ journal)
        ∙ (ap times_in is ∙ expecting_times input.time (way_from input.side) d.progress);
    left_stays = ap (λ j. j.1) (goes.journal_stays ∙ journal) ∙ ap (λ (w : RunProgressModel P). w.left) is;
    served = λ start done rest long clock s.
        let all : List Arrival = (done ++ input ∷ []) ++ rest in
        let way : Way = way_from input.side in
        let none : NoneBehind way (second_legs (length (progress_in d.progress)) (effect_from rules start all).acts) =
        none_behind rules start all (length (progress_in d.progress)) input
        (input_there done rest input (length (progress_in d.progress)) long) input.side refl in
        let expected : DispatcherInvariant tells rules start done all
        (dispatcher_state pool (record d { progress = window })) =
        rw (ap progress_in is ∙ expecting_progress input.time way d.progress)
        (known_stands rules start done all (length d.queues) (dispatcher_state pool d).lane (progress_in d.progress)
        (progress_in d.progress ++ Awaited way ∷ [])
        (known_push (whole_of tells rules start all) (progress_in d.progress) way none) s) in
        (goes.keeps rules start (done ++ input ∷ []) all (record {
          stands = admits start (of_worker (accepted_items pool)) (of_worker (taken pool)) done rest
              (long ∙ sym at) clock expected;
        })).stands;
  }

  -- THE INPUTS THAT WERE READ

  pub reads_none : (rules : Rules) (pool : Pool M G Leg (TracedAnswer P)) (d : Dispatcher P) → IsSizedFor pool d →
      d.progress.left ≡ [] → d.progress.under_way ≡ [] → ReadInputsPost tells rules pool d [] [] pool d
  reads_none rules pool d sized left none = grind (arith, common_steps, nat_tests, grows_none)

  module _ {rules : Rules} {pool mid_pool later_pool : Pool M G Leg (TracedAnswer P)} {d mid later : Dispatcher P}
      {inputs : List Arrival} where
    pub reads_on : {xs ys : List (ℕ × InputResult P)} → ReadInputsPost tells rules pool d inputs xs mid_pool mid →
        DispatcherGoesOn tells mid_pool mid ys later_pool later →
        ReadInputsPost tells rules pool d inputs (xs ++ ys) later_pool later
    reads_on {ys = ys} a b = record {
      grows = grows_both a.grows b.grows;
      sized = b.sized;
      times_are = b.times_stay ∙ a.times_are;
      left_is = b.left_is ∙ ap (λ l. l ++ ys) a.left_is;
      served = λ start at rest s.
          (b.keeps rules start inputs (inputs ++ rest) (record { stands = a.served start at rest s })).stands;
    }

    -- One more input was read.
    pub reads_more : {went : List (ℕ × InputResult P)} {now : ℕ} {input : Arrival} →
        ReadInputsPost tells rules pool d inputs went mid_pool mid → now ≡ last_clock d.clock (inputs ++ input ∷ []) →
        ReadInputPost tells rules now input mid_pool mid later_pool later →
        ReadInputsPost tells rules pool d (inputs ++ input ∷ []) went later_pool later
    reads_more {went} {now} {input} a clock b = record {
      grows = grows_both a.grows b.grows;
      sized = b.sized;
      times_are = b.times_are ∙ (ap (λ l. l ++ input.time ∷ []) a.times_are
          ∙ sym (map-append (λ (i : Arrival). i.time) inputs (input ∷ [])));
      left_is = b.left_stays ∙ a.left_is;
      served = λ start at rest s.
          let whole : (inputs ++ input ∷ []) ++ rest ≡ inputs ++ input ∷ rest = append_assoc inputs (input ∷ []) rest in
          let before : DispatcherInvariant tells rules start inputs ((inputs ++ input ∷ []) ++ rest)
          (dispatcher_state mid_pool mid) =
          rw whole (a.served start at (input ∷ rest) (rw whole at s)) in
          b.served start inputs rest (many_read mid inputs a.times_are)
          (ap (λ (t : ℕ). max (last_clock t inputs) input.clock) at
          ∙ (sym (clock_more d.clock inputs input) ∙ sym clock)) before;
    }

-- There is room if nothing is held and all outcomes have left.
pub room_idle : {P : Type 0} (d : Dispatcher P) → DispatcherIsDone d → d.progress.under_way ≡ [] → DispatcherHasRoom d
room_idle d done none = grind (arith, common_steps, nat_tests, held_none)

-- OUTCOMES THAT LEAVE

module _ {P S F : Type 0} {takes : S → List (ℕ × InputResult P) → S → Type 0}
    (fails : S → List (ℕ × InputResult P) → F → S → Type 0)
    (more : (x y z : S) (xs ys : List (ℕ × InputResult P)) → takes x xs y → takes y ys z → takes x (xs ++ ys) z) where
  fails_after : {before mid after : S} {xs ys : List (ℕ × InputResult P)} {fault : F} → takes before xs mid →
      DeparturesFail takes fails mid ys fault after → DeparturesFail takes fails before (xs ++ ys) fault after
  fails_after {before} {mid} {xs = xs} took f = record {
    first = xs ++ f.first;
    others = f.others;
    middle = f.middle;
    went_is = ap (λ l. xs ++ l) f.went_is ∙ sym (append_assoc xs f.first f.others);
    took = more before mid f.middle xs f.first took f.took;
    failed = f.failed;
  }

  module _ {tells : Passage → P} {M G : Type 0} {pool mid_pool : Pool M G Leg (TracedAnswer P)}
      (later_pool : Pool M G Leg (TracedAnswer P)) {d mid : Dispatcher P}
      (later : Dispatcher P) {before between : S} (after : S) where
    pub lets_more : OutcomesLeave tells takes pool d before mid_pool mid between →
        OutcomesLeave tells takes mid_pool mid between later_pool later after →
        OutcomesLeave tells takes pool d before later_pool later after
    lets_more a b = record {
      went = a.went ++ b.went;
      goes = goes_more a.goes b.goes;
      took = more before between after a.went b.went a.took b.took;
    }

  pub lets_halt : {tells : Passage → P} {M G : Type 0} {pool mid_pool : Pool M G Leg (TracedAnswer P)}
      (later_pool : Pool M G Leg (TracedAnswer P)) {d mid : Dispatcher P} (later : Dispatcher P) {before between : S}
      (after : S) (open_gate : Bool) (e : DispatchFault F) →
      OutcomesLeave tells takes pool d before mid_pool mid between →
      HaltsAt tells open_gate takes fails mid_pool mid between later_pool later after e →
      HaltsAt tells open_gate takes fails pool d before later_pool later after e
  lets_halt later_pool later after open_gate (dispatch_faults.Departure fault) a b = record {
    went = a.went ++ b.went;
    goes = goes_more a.goes b.goes;
    failed = fails_after a.took b.failed;
  }
  lets_halt later_pool later after open_gate (dispatch_faults.Run fault) a b = record {
    last_pool = b.last_pool;
    last = b.last;
    lets = lets_more b.last_pool b.last after a b.lets;
    halted = b.halted;
  }

  -- Outcomes left, and then there was a fault of dispatching.
  pub lets_stop : {tells : Passage → P} {M G : Type 0} {pool mid_pool later_pool : Pool M G Leg (TracedAnswer P)}
      {d mid handed : Dispatcher P} {before between after : S} {open_gate : Bool} {fault : RunFault} →
      OutcomesLeave tells takes pool d before mid_pool mid between →
      OutcomesLeave tells takes mid_pool mid between mid_pool handed after →
      DispatcherHalts open_gate mid_pool later_pool fault →
      RunThroughHalts tells open_gate takes pool d before later_pool after fault
  lets_stop {mid_pool = mid_pool} {handed = handed} {after = after} a b stop = record {
    last_pool = mid_pool;
    last = handed;
    lets = lets_more mid_pool handed after a b;
    halted = stop;
  }

  -- Outcomes left, and then answers were taken and legs offered.
  pub lets_turn : {tells : Passage → P} {M G : Type 0} {pool mid_pool later_pool : Pool M G Leg (TracedAnswer P)}
      {d mid handed later : Dispatcher P}
      {before between after : S} → OutcomesLeave tells takes pool d before mid_pool mid between →
      OutcomesLeave tells takes mid_pool mid between mid_pool handed after →
      DispatcherContinues tells mid_pool handed later_pool later →
      OutcomesLeave tells takes pool d before later_pool later after
  lets_turn a b c = let both = lets_more _ _ _ a b in
      record { went = both.went; goes = goes_then both.goes c; took = both.took }

  -- Outcomes left, and then the sink was flushed.
  pub lets_settle : {tells : Passage → P} {M G : Type 0} {pool later_pool : Pool M G Leg (TracedAnswer P)}
      {d later : Dispatcher P} {before between after : S} →
      OutcomesLeave tells takes pool d before later_pool later between →
      takes between [] after → OutcomesLeave tells takes pool d before later_pool later after
  lets_settle a b = lets_more _ _ _ a (record { went = []; goes = goes_none a.goes.sized; took = b })

  -- THE INPUTS THAT WERE READ

  module _ {tells : Passage → P} {A B : Type 0} {rules : Rules} {hands : A → List Arrival → A → Type 0}
      {ends : A → Option B → A → Type 0}
      (is_settled : S → Type 0) {M G : Type 0} {pool mid_pool : Pool M G Leg (TracedAnswer P)}
      (later_pool : Pool M G Leg (TracedAnswer P)) {d mid : Dispatcher P} (later : Dispatcher P) {from left : A}
      {before between : S} (after : S) {inputs : List Arrival} {went : List (ℕ × InputResult P)} where
    pub reads_halt : (open_gate : Bool) (e : DispatchFault F) →
        ReadInputsPost tells rules pool d inputs went mid_pool mid →
        takes before went between → HasCome hands ends from inputs left →
        HaltsAt tells open_gate takes fails mid_pool mid between later_pool later after e →
        ReadsHalted tells rules hands ends takes fails is_settled pool d from before later_pool later left after
        open_gate e
    reads_halt open_gate (dispatch_faults.Departure fault) reads took come b = record {
      inputs = inputs;
      went = went ++ b.went;
      come = come;
      reads = reads_on reads b.goes;
      failed = fails_after took b.failed;
    }
    reads_halt open_gate (dispatch_faults.Run fault) reads took come b = record {
      inputs = inputs;
      unread = [];
      went = went ++ b.lets.went;
      come = subst (λ all. HasCome hands ends from all left) (sym (append-nil inputs)) come;
      last_pool = b.last_pool;
      last = b.last;
      reads = reads_on reads b.lets.goes;
      took = more before between after went b.lets.went took b.lets.took;
      halted = b.halted;
    }

    -- The inputs ended or the input source failed.
    pub reads_over : (end : EndOfInputs B) → ReadInputsPost tells rules pool d inputs went mid_pool mid →
        takes before went between → OutcomesLeave tells takes mid_pool mid between later_pool later after →
        InputsCame hands ends from inputs end.fault left → end.clock ≡ last_clock d.clock inputs →
        ReadsToEnd tells rules hands ends takes fails is_settled pool d from before later_pool later left after end
    reads_over end reads took b came clock = record {
      inputs = inputs;
      went = went ++ b.went;
      came = came;
      clock = clock;
      reads = reads_on reads b.goes;
      took = more before between after went b.went took b.took;
    }

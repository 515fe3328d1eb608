-- A run that starts from the state after another: ended bindings have no effect, and input numbers continue.
use Rattle.std.proofs.Common.{◌≡◌, ℕ, ◌+◌, ◌≤◌, max, List, [], ◌∷◌, ◌++◌, map, length, flat_map, Bool, Option, None, Result, Ok, Err, refl, sym, ◌∙◌, ap, arith, find}
use Rattle.std.proofs.lemmas.List.{map-append}
use Rattle.napt_wire.specs.declared.Protocol.TheVariants as protocols
use Rattle.napt_wire.specs.declared.Kind.TheVariants.{Udp, Tcp, Echo, ErrorOf}
use Rattle.napt_rules.specs.Prelude.{Binding, bindings_at, purge, hold_ago, live_and_held, rows_of, rows, is_of_inside, has_number, assignment_rules, out_taken, in_taken, inbound_rules, OutboundEffect, InboundEffect, end_out, end_in, error_out, error_in, no_flags, outbound_packet, inbound_packet, act_out, act_in, act_by, served_at, LegEffect, act, Arrival, admission, LegAct, RunEffect, effect_then, with_second_leg, first_leg, step_as, step, run_from, last_clock, legs_at, run_result_of, State, effect_from, next_state, run_result_from, act_behind, added_counts, run_then, RunGoesOn, RunsGoOn, GoneBindingsChangeNothing, inputs_from_clock, EarlierClocksAreTheStates, Protocol, Way, Outgoing, Incoming, Flags, Cause, Kind, kind, Rules}
use Rattle.napt_rules.specs.declared.{Row.Row, Leg.Leg, Outcome.Outcome, End.{End, TheVariants.{ToOutside, ToInside, Onward, Dropped}}}
use Rattle.napt_laws.proofs.{RunsBeside.{AreBeside, run_both}, OneMoreInput.{run_append, clock_on}, Purges.of_purge, SeenElements.{taken_later, taken_twice, purge_taken}}

-- THE NUMBERS OF INPUTS

abbrev pub renumbered : ℕ → RunEffect → RunEffect
renumbered before course = record course { acts = map (act_behind before) course.acts }

module _ (rules : Rules) (before number now : ℕ) where
  follow_behind : (address : ℕ) (leg : Leg) (first : LegEffect) (end : End) →
      with_second_leg rules address (record leg { number = before + leg.number }) first end
      ≡ renumbered before (with_second_leg rules address leg first end)
  follow_behind address leg first (ToOutside packet) = refl
  follow_behind address leg first (ToInside packet) = refl
  follow_behind address leg first (Onward place packet) = refl
  follow_behind address leg first (Dropped cause) = refl

  step_behind : (input : Arrival) (list : List Binding) (comes_to : Result (List ℕ) Cause) →
      step_as rules (first_leg (before + number) now input.side) comes_to list
      ≡ renumbered before (step_as rules (first_leg number now input.side) comes_to list)
  step_behind input list (Err cause) = refl
  step_behind input list (Ok packet) =
      let leg : Leg = first_leg number now input.side packet in
      let address : ℕ = served_at rules leg.way packet in
      follow_behind address leg (act rules address leg list) (act rules address leg list).end

ahead_behind : (before : ℕ) (first rest : RunEffect) → effect_then (renumbered before first) (renumbered before rest)
    ≡ renumbered before (effect_then first rest)
ahead_behind before first rest = ap (λ (acts : List LegAct). record (effect_then first rest) { acts = acts })
    (sym (map-append (act_behind before) first.acts rest.acts))

-- A run from a later number on has the same legs with later numbers.
pub run_behind : (rules : Rules) (before number at clock : ℕ) (inputs : List Arrival) (list : List Binding) →
    before + number ≡ at → run_from rules at clock inputs list
    ≡ renumbered before (run_from rules number clock inputs list)
run_behind rules before number at clock [] list e = refl
run_behind rules before number at clock (input ∷ inputs) list e =
    let now : ℕ = max clock input.clock in
    let first : RunEffect = step rules number now input list in
    let is : step rules at now input list ≡ renumbered before first =
    ap (λ (n : ℕ). step rules n now input list) (sym e)
    ∙ step_behind rules before number now input list (admission rules input) in
    ap (λ (s : RunEffect). effect_then s (run_from rules (at + 1) now inputs s.list)) is
    ∙ (ap (effect_then (renumbered before first))
    (run_behind rules before (number + 1) (at + 1) now inputs first.list (omega (arith, e)))
    ∙ ahead_behind before first (run_from rules (number + 1) now inputs first.list))

-- BINDINGS THAT ARE GONE

-- Two lists with the same live and held bindings at a time.
abbrev AreAsOne : Rules → ℕ → List Binding → List Binding → Type 0
AreAsOne rules now a b = live_and_held rules.timers now a ≡ live_and_held rules.timers now b

as_one_later : (rules : Rules) (n m : ℕ) → n ≤ m → (a b : List Binding) → AreAsOne rules n a b → AreAsOne rules m a b
as_one_later rules n m le a b same = sym (taken_later rules.timers n m le a)
    ∙ (ap (live_and_held rules.timers m) same ∙ taken_later rules.timers n m le b)

-- The effect of a leg, with the live and held bindings at its time as its list.
abbrev acted_taken : Rules → ℕ → LegEffect → LegEffect
acted_taken rules now acted = record acted { list = live_and_held rules.timers now acted.list }

-- The effect of a leg that leaves the list unchanged.
abbrev unmoved : End → List Binding → LegEffect
unmoved end list = record { end = end; through = None; list = list }

abbrev course_taken : Rules → ℕ → RunEffect → RunEffect
course_taken rules now course = record course { list = live_and_held rules.timers now course.list }

module _ (rules : Rules) (address : ℕ) (leg : Leg) (a b : List Binding) (same : AreAsOne rules leg.now a b) where
  same_out : (protocol : Protocol) (flags : Flags) → acted_taken rules leg.now
      (act_out rules address leg a protocol flags)
      ≡ acted_taken rules leg.now (act_out rules address leg b protocol flags)
  same_out protocol flags = ap (λ (l : List Binding).
      let out : OutboundEffect = out_taken rules.timers (assignment_rules rules) address
      (outbound_packet rules protocol flags leg.now leg.packet) l in
      acted_taken rules leg.now
      (record { end = end_out rules address leg.packet out.number; through = out.through; list = out.list })) same

  same_in : (protocol : Protocol) (flags : Flags) → acted_taken rules leg.now
      (act_in rules address leg a protocol flags)
      ≡ acted_taken rules leg.now (act_in rules address leg b protocol flags)
  same_in protocol flags = ap (λ (l : List Binding).
      let came : InboundEffect = in_taken rules.timers (inbound_rules rules) address
      (inbound_packet protocol flags leg.now leg.packet) l in
      acted_taken rules leg.now
      (record { end = end_in leg.packet came.inside; through = came.through; list = came.list })) same

  -- An error finds a live binding and leaves the list unchanged.
  seen : purge rules.timers leg.now a ≡ purge rules.timers leg.now b
  seen = sym (purge_taken rules.timers leg.now a)
      ∙ (ap (purge rules.timers leg.now) same ∙ purge_taken rules.timers leg.now b)

  same_error : (end_of : Option Binding → End) (test : Binding → Bool) → acted_taken rules leg.now
      (unmoved (end_of (find test (purge rules.timers leg.now a))) a)
      ≡ acted_taken rules leg.now (unmoved (end_of (find test (purge rules.timers leg.now b))) b)
  same_error end_of test = ap (λ (l : List Binding).
      unmoved (end_of (find test l)) (live_and_held rules.timers leg.now a)) seen
      ∙ ap (unmoved (end_of (find test (purge rules.timers leg.now b)))) same

  same_by : (way : Way) (kind : Kind) → acted_taken rules leg.now (act_by rules address leg a way kind)
      ≡ acted_taken rules leg.now (act_by rules address leg b way kind)
  same_by Outgoing Udp = same_out protocols.Udp no_flags
  same_by Outgoing (Tcp flags) = same_out protocols.Tcp flags
  same_by Outgoing Echo = same_out protocols.Icmp no_flags
  same_by Outgoing (ErrorOf inner) = same_error (error_out rules leg.packet)
      (λ b. is_of_inside address inner.protocol inner.destination b.row)
  same_by Incoming Udp = same_in protocols.Udp no_flags
  same_by Incoming (Tcp flags) = same_in protocols.Tcp flags
  same_by Incoming Echo = same_in protocols.Icmp no_flags
  same_by Incoming (ErrorOf inner) = same_error (error_in leg.packet)
      (λ b. has_number address inner.protocol inner.source.number b.row)

  act_same : acted_taken rules leg.now (act rules address leg a) ≡ acted_taken rules leg.now (act rules address leg b)
  act_same = same_by leg.way (kind leg.packet)

-- Runs from lists that have the same live and held bindings at the clock are the same.
pub run_same : (rules : Rules) (number clock : ℕ) (inputs : List Arrival) (a b : List Binding) →
    AreAsOne rules clock a b → (let last : ℕ = last_clock clock inputs in
    course_taken rules last (run_from rules number clock inputs a)
    ≡ course_taken rules last (run_from rules number clock inputs b))
run_same rules number clock inputs a b same =
    let last : ℕ = last_clock clock inputs in
    let x : RunEffect = run_from rules number clock inputs a in
    let y : RunEffect = run_from rules number clock inputs b in
    let beside : AreBeside (AreAsOne rules) last x y = run_both rules (AreAsOne rules) (as_one_later rules)
    (λ address leg a b served so. let acted = act_same rules address leg a b so in record {
      end = ap (λ (x : LegEffect). x.end) acted;
      through = ap (λ (x : LegEffect). x.through) acted;
      list = ap (λ (x : LegEffect). x.list) acted;
    }) number clock inputs a b same in
    ap (λ (os : List Outcome). record { outcomes = os; acts = x.acts; list = live_and_held rules.timers last x.list })
    beside.outcomes
    ∙ (ap (λ (acts : List LegAct). record {
      outcomes = y.outcomes;
      acts = acts;
      list = live_and_held rules.timers last x.list;
    })
    beside.acts ∙ ap (λ (l : List Binding). record { outcomes = y.outcomes; acts = y.acts; list = l }) beside.list)

-- THE RESULT OF A RUN

rows_same : (rules : Rules) (now address : ℕ) (list : List Binding) →
    rows rules.timers now (bindings_at address (live_and_held rules.timers now list))
    ≡ rows rules.timers now (bindings_at address list)
rows_same rules now address list = ap rows_of
    (ap (purge rules.timers now) (of_purge rules.timers (hold_ago rules.timers now) address list)
    ∙ purge_taken rules.timers now (bindings_at address list))

flat_same : {X Y : Type 0} (f g : X → List Y) → ((x : X) → f x ≡ g x) → (xs : List X) → flat_map f xs ≡ flat_map g xs
flat_same f g same [] = refl
flat_same f g same (x ∷ xs) = ap (λ (l : List _). l ++ flat_map f xs) (same x)
    ∙ ap (λ (l : List _). g x ++ l) (flat_same f g same xs)

-- The result of a run is that of its live and held bindings at the clock.
ran_taken : (rules : Rules) (now : ℕ) (course : RunEffect) → run_result_of rules now (course_taken rules now course)
    ≡ run_result_of rules now course
ran_taken rules now course = ap (λ (rows : List Row). record (run_result_of rules now course) { bindings = rows })
    (flat_same (λ (address : ℕ). rows rules.timers now
    (bindings_at address (live_and_held rules.timers now course.list)))
    (λ address. rows rules.timers now (bindings_at address course.list))
    (λ address. rows_same rules now address course.list) rules.pool)

-- LEGS

numbers_apart : (before address : ℕ) (acts : List LegAct) → length (legs_at address (map (act_behind before) acts))
    ≡ length (legs_at address acts)
numbers_apart before address [] = refl
numbers_apart before address (a ∷ acts) = grind (arith, numbers_apart before address acts)

legs_added : (address : ℕ) (first rest : List LegAct) → length (legs_at address (first ++ rest))
    ≡ length (legs_at address first) + length (legs_at address rest)
legs_added address [] rest = omega arith
legs_added address (a ∷ first) rest = grind (arith, legs_added address first rest)

counts_added : (f g h : ℕ → ℕ) → ((x : ℕ) → f x ≡ g x + h x) → (xs : List ℕ) →
    map f xs ≡ added_counts (map g xs) (map h xs)
counts_added f g h sum [] = refl
counts_added f g h sum (x ∷ xs) = ap (λ (n : ℕ). n ∷ map f xs) (sum x)
    ∙ ap (λ (l : List ℕ). (g x + h x) ∷ l) (counts_added f g h sum xs)

-- THE LAWS

pub gone_change_nothing : GoneBindingsChangeNothing
gone_change_nothing rules state inputs =
    let last : ℕ = last_clock state.clock inputs in
    let here : List Binding = live_and_held rules.timers state.clock state.list in
    let same : course_taken rules last (run_from rules 0 state.clock inputs here)
    ≡ course_taken rules last (run_from rules 0 state.clock inputs state.list) =
    run_same rules 0 state.clock inputs here state.list
    (taken_twice rules.timers state.clock state.list) in
    record {
      ran = sym (ran_taken rules last (run_from rules 0 state.clock inputs here))
          ∙ (ap (run_result_of rules last) same ∙ ran_taken rules last
          (run_from rules 0 state.clock inputs state.list));
      acts = ap (λ (r : RunEffect). r.acts) same;
      left = ap (λ (r : RunEffect). record { clock = last; list = r.list }) same;
    }

module _ (rules : Rules) (state : State) (first rest : List Arrival) where
  abbrev clock : ℕ
  clock = last_clock state.clock first

  abbrev last : ℕ
  last = last_clock clock rest

  abbrev begins : RunEffect
  begins = effect_from rules state first

  abbrev goes : RunEffect
  goes = effect_from rules (next_state rules state first) rest

  -- The effect of the whole run, with the live and held bindings at the end.
  course_on : course_taken rules last (effect_from rules state (first ++ rest))
      ≡ course_taken rules last (effect_then begins (renumbered (length first) goes))
  course_on = ap (course_taken rules last)
      (run_append rules 0 state.clock first rest state.list (length first) (omega arith))
      ∙ (ap (λ (r : RunEffect). course_taken rules last (effect_then begins r))
      (run_behind rules (length first) 0 (length first) clock rest begins.list (omega arith))
      ∙ ap (λ (r : RunEffect). effect_then begins (renumbered (length first) r))
      (run_same rules 0 clock rest begins.list (live_and_held rules.timers clock begins.list)
      (sym (taken_twice rules.timers clock begins.list))))

  ran_on : run_result_of rules last (effect_then begins (renumbered (length first) goes))
      ≡ run_then (run_result_from rules state first) (run_result_from rules (next_state rules state first) rest)
  ran_on = ap (λ (counts : List ℕ).
      record (run_result_of rules last (effect_then begins (renumbered (length first) goes))) { legs = counts })
      (counts_added (λ (address : ℕ). length (legs_at address
      (begins.acts ++ map (act_behind (length first)) goes.acts)))
      (λ address. length (legs_at address begins.acts)) (λ address. length (legs_at address goes.acts))
      (λ address. legs_added address begins.acts (map (act_behind (length first)) goes.acts)
      ∙ ap (λ (n : ℕ). length (legs_at address begins.acts) + n) (numbers_apart (length first) address goes.acts))
      rules.pool)

  go_on : RunGoesOn rules state first rest
  go_on = record {
    ran = ap (λ (t : ℕ). run_result_of rules t (effect_from rules state (first ++ rest)))
        (clock_on state.clock first rest)
        ∙ (sym (ran_taken rules last (effect_from rules state (first ++ rest)))
        ∙ (ap (run_result_of rules last) course_on
        ∙ (ran_taken rules last (effect_then begins (renumbered (length first) goes)) ∙ ran_on)));
    acts = ap (λ (r : RunEffect). r.acts) course_on;
    left = ap (λ (t : ℕ). record {
      clock = t;
      list = live_and_held rules.timers t (effect_from rules state (first ++ rest)).list;
    })
        (clock_on state.clock first rest)
        ∙ ap (λ (r : RunEffect). record { clock = last; list = r.list }) course_on;
  }

pub runs_go_on : RunsGoOn
runs_go_on = go_on

-- THE CLOCKS OF THE INPUTS

same_time : (least clock time : ℕ) → least ≤ clock → max clock (max least time) ≡ max clock time
same_time least clock time le = omega arith

run_from_clock : (rules : Rules) (number least clock : ℕ) → least ≤ clock → (inputs : List Arrival)
    (list : List Binding) → run_from rules number clock (inputs_from_clock least inputs) list
    ≡ run_from rules number clock inputs list
run_from_clock rules number least clock le [] list = refl
run_from_clock rules number least clock le (input ∷ inputs) list =
    let now : ℕ = max clock input.clock in
    let first : RunEffect = step rules number now input list in
    ap (λ (t : ℕ). effect_then (step rules number t input list)
    (run_from rules (number + 1) t (inputs_from_clock least inputs) (step rules number t input list).list))
    (same_time least clock input.clock le)
    ∙ ap (effect_then first) (run_from_clock rules (number + 1) least now (omega arith) inputs first.list)

last_from_clock : (least clock : ℕ) → least ≤ clock → (inputs : List Arrival) →
    last_clock clock (inputs_from_clock least inputs) ≡ last_clock clock inputs
last_from_clock least clock le [] = refl
last_from_clock least clock le (input ∷ inputs) =
    ap (λ (t : ℕ). last_clock t (inputs_from_clock least inputs)) (same_time least clock input.clock le)
    ∙ last_from_clock least (max clock input.clock) (omega arith) inputs

pub earlier_clocks : EarlierClocksAreTheStates
earlier_clocks rules state inputs = record {
  course = run_from_clock rules 0 state.clock state.clock (omega arith) inputs state.list;
  last = last_from_clock state.clock state.clock (omega arith) inputs;
}

-- The effect of each leg of a run is in the trace of its input.
use Rattle.std.{proofs.lemmas.{Grind.common_steps, Bool.{Decides.nat_tests, eq-eqb, ne_eqb}}, specs.List.slice_get}
use Rattle.std.proofs.Common.{◌≡◌, ◌≢◌, ◌⊎◌, inl, true, ℕ, zero, suc, ◌+◌, ◌-◌, ◌≤◌, max, List, [], ◌∷◌, ◌++◌, map, Option, Some, refl, ◌∙◌, ap, arith}
use Rattle.napt_wire.specs.declared.{Side.TheVariants.Outside, Way.TheVariants.Incoming}
use Rattle.napt_config.specs.{Rules.Rules, declared.settings.Timers.Timers}
use Rattle.napt_rules.specs.declared.{Leg.Leg, End.{End, TheVariants.{ToOutside, ToInside, Onward, Dropped}}}
use Rattle.napt_rules.specs.Prelude.{BindingUse, Binding, Each, LegEffect, act, Arrival, LegAct, RunEffect, with_second_leg, step, run_from, State, effect_from, is_in_or_dropped}
use Rattle.napt_laws.{specs.SecondLegs.{acts_of_number, all_but_first, second_legs}, proofs.{StepProperties.{of_input, of_step}, LegLaws.in_stays_in}}
use Rattle.napt_laws.proofs.Lists.{each_weaker, each_append}
use Rattle.napt_sequential.specs.{declared.passage.{Passage.TheVariants.Nothing, Trace.Trace}, Traces.{passage_of, trace_of, traces_from, traces_of}}

-- THE POSITION OF AN ACT AMONG THOSE OF ITS INPUT, whose legs after the first are `seconds`

pub record IsOnly (timers : Timers) (trace : Trace) (seconds : List Leg) (a : LegAct) : Type 0 where
  pub first : trace.first ≡ passage_of timers a
  pub second : trace.second ≡ Nothing
  pub none : seconds ≡ []

pub record IsFirst (timers : Timers) (trace : Trace) (seconds : List Leg) (a : LegAct) : Type 0 where
  pub first : trace.first ≡ passage_of timers a
  pub place : ℕ
  pub packet : List ℕ
  pub goes : a.end ≡ Onward place packet

pub record IsSecond (timers : Timers) (trace : Trace) (seconds : List Leg) (a : LegAct) : Type 0 where
  pub second : trace.second ≡ passage_of timers a
  pub comes : a.leg.way ≡ Incoming
  pub leg : Leg
  pub some : seconds ≡ leg ∷ []

abbrev pub IsPlaced : Timers → Trace → List Leg → LegAct → Type 0
IsPlaced timers trace seconds a =
    IsOnly timers trace seconds a ⊎ (IsFirst timers trace seconds a ⊎ IsSecond timers trace seconds a)

abbrev legs_behind : List LegAct → List Leg
legs_behind acts = map (λ a. a.leg) (all_but_first acts)

-- ONE INPUT

record IsHere (timers : Timers) (number now : ℕ) (course : RunEffect) (a : LegAct) : Type 0 where
  pub number_is : a.leg.number ≡ number
  pub now_is : a.leg.now ≡ now
  pub placed : IsPlaced timers (trace_of timers now course) (legs_behind course.acts) a

follow_here : (rules : Rules) (address : ℕ) (leg : Leg) (through : Option BindingUse) (list : List Binding)
    (end : End) →
    (let first : LegEffect = record { end = end; through = through; list = list } in
    let course : RunEffect = with_second_leg rules address leg first end in
    Each (IsHere rules.timers leg.number leg.now course) course.acts)
follow_here rules address leg through list (ToOutside packet) =
    (record { number_is = refl; now_is = refl; placed = inl (record { first = refl; second = refl; none = refl }) }, tt)
follow_here rules address leg through list (ToInside packet) =
    (record { number_is = refl; now_is = refl; placed = inl (record { first = refl; second = refl; none = refl }) }, tt)
follow_here rules address leg through list (Dropped cause) =
    (record { number_is = refl; now_is = refl; placed = inl (record { first = refl; second = refl; none = refl }) }, tt)
follow_here rules address leg through list (Onward place packet) = grind (arith, common_steps, nat_tests)

step_here : (rules : Rules) (number now : ℕ) (input : Arrival) (list : List Binding) →
    (let course : RunEffect = step rules number now input list in
    Each (IsHere rules.timers number now course) course.acts)
step_here rules number now input list = grind (arith, common_steps, nat_tests, of_step, follow_here)

-- NUMBERS

none_numbered : (k : ℕ) (acts rest : List LegAct) → Each (λ a. a.leg.number ≢ k) acts →
    acts_of_number k (acts ++ rest) ≡ acts_of_number k rest
none_numbered k [] rest h = refl
none_numbered k (a ∷ acts) rest h = grind (arith, common_steps, nat_tests, ne_eqb, none_numbered k acts rest h.1)

none_later : (k : ℕ) (acts : List LegAct) → Each (λ a. k + 1 ≤ a.leg.number) acts → acts_of_number k acts ≡ []
none_later k [] h = refl
none_later k (a ∷ acts) h = grind (arith, common_steps, nat_tests, ne_eqb, none_later k acts h.1)

first_numbered : (k : ℕ) (firsts rests : List LegAct) → Each (λ a. a.leg.number ≡ k) firsts →
    Each (λ a. k + 1 ≤ a.leg.number) rests → acts_of_number k (firsts ++ rests) ≡ firsts
first_numbered k [] rests h g = none_later k rests g
first_numbered k (a ∷ firsts) rests h g =
    grind (arith, common_steps, nat_tests, eq-eqb, first_numbered k firsts rests h.1 g)

-- A RUN

record IsFrom (timers : Timers) (number : ℕ) (all : List Trace) (acts : List LegAct) (a : LegAct) : Type 0 where
  pub from : number ≤ a.leg.number
  pub trace : Trace
  pub there : slice_get all (a.leg.number - number) ≡ Some trace
  pub time : trace.now ≡ a.leg.now
  pub placed : IsPlaced timers trace (second_legs a.leg.number acts) a

module _ (timers : Timers) (number now : ℕ) (first : RunEffect) (rests : List LegAct) (later : List Trace)
    (here : Each (IsHere timers number now first) first.acts)
    (behind : Each (IsFrom timers (number + 1) later rests) rests) where
  abbrev whole : List LegAct
  whole = first.acts ++ rests

  abbrev trace_here : Trace
  trace_here = trace_of timers now first

  firsts_are : acts_of_number number whole ≡ first.acts
  firsts_are = grind (arith, common_steps, nat_tests, first_numbered, each_weaker)

  rests_are : (k : ℕ) → number + 1 ≤ k → acts_of_number k whole ≡ acts_of_number k rests
  rests_are k le = grind (arith, common_steps, nat_tests, none_numbered, each_weaker)

  first_from : (a : LegAct) → IsHere timers number now first a → IsFrom timers number (trace_here ∷ later) whole a
  first_from a h = grind (arith, common_steps, nat_tests, firsts_are)

  rest_from : (a : LegAct) → IsFrom timers (number + 1) later rests a →
      IsFrom timers number (trace_here ∷ later) whole a
  rest_from a h = grind (arith, common_steps, nat_tests, rests_are)

  all_from : Each (IsFrom timers number (trace_here ∷ later) whole) whole
  all_from =
      each_append (IsFrom timers number (trace_here ∷ later) whole) first.acts rests
      (each_weaker (IsHere timers number now first) (IsFrom timers number (trace_here ∷ later) whole) first_from
      first.acts here)
      (each_weaker (IsFrom timers (number + 1) later rests) (IsFrom timers number (trace_here ∷ later) whole) rest_from
      rests behind)

run_traced : (rules : Rules) (number clock : ℕ) (inputs : List Arrival) (list : List Binding) →
    (let acts : List LegAct = (run_from rules number clock inputs list).acts in
    Each (IsFrom rules.timers number (traces_from rules number clock inputs list) acts) acts)
run_traced rules number clock [] list = tt
run_traced rules number clock (input ∷ inputs) list =
    let now : ℕ = max clock input.clock in
    let first : RunEffect = step rules number now input list in
    all_from rules.timers number now first (run_from rules (number + 1) now inputs first.list).acts
    (traces_from rules (number + 1) now inputs first.list) (step_here rules number now input list)
    (run_traced rules (number + 1) now inputs first.list)

-- The trace of a leg's input, and whether the leg is the first or the second in it.
pub record IsTraced (timers : Timers) (all : List Trace) (acts : List LegAct) (a : LegAct) : Type 0 where
  pub trace : Trace
  pub there : slice_get all a.leg.number ≡ Some trace
  pub time : trace.now ≡ a.leg.now
  pub placed : IsPlaced timers trace (second_legs a.leg.number acts) a

pub legs_traced : (rules : Rules) (state : State) (inputs : List Arrival) →
    (let acts : List LegAct = (effect_from rules state inputs).acts in
    Each (IsTraced rules.timers (traces_of rules state inputs) acts) acts)
legs_traced rules state inputs = grind (arith, common_steps, nat_tests, each_weaker, run_traced)

-- AN INPUT FROM OUTSIDE HAS AT MOST ONE LEG

single : (rules : Rules) (address : ℕ) (leg : Leg) (first : LegEffect) (e : End) → is_in_or_dropped e ≡ true →
    legs_behind (with_second_leg rules address leg first e).acts ≡ []
single rules address leg first e h = grind (arith, common_steps, nat_tests)

comes_in : (rules : Rules) (address : ℕ) (leg : Leg) (list : List Binding) → leg.way ≡ Incoming →
    is_in_or_dropped (act rules address leg list).end ≡ true
comes_in rules address leg list way = grind (arith, common_steps, nat_tests, in_stays_in)

outside_single : (rules : Rules) (number now : ℕ) (input : Arrival) (list : List Binding) → input.side ≡ Outside →
    legs_behind (step rules number now input list).acts ≡ []
outside_single rules number now input list side = grind (arith, common_steps, nat_tests, of_input, single, comes_in)

outside_from : (rules : Rules) (number clock : ℕ) (inputs : List Arrival) (list : List Binding) (i : ℕ)
    (input : Arrival) → slice_get inputs i ≡ Some input → input.side ≡ Outside →
    second_legs (number + i) (run_from rules number clock inputs list).acts ≡ []
outside_from rules number clock [] list i input at side = cc
outside_from rules number clock (x ∷ inputs) list zero input at side =
    let now : ℕ = max clock x.clock in
    let first : RunEffect = step rules number now x list in
    let same : number + 0 ≡ number = omega arith in
    let is : x ≡ input = cc (at) in
    ap (λ (k : ℕ). second_legs k (run_from rules number clock (x ∷ inputs) list).acts) same
    ∙ (ap legs_behind (firsts_are rules.timers number now first
    (run_from rules (number + 1) now inputs first.list).acts (traces_from rules (number + 1) now inputs first.list)
    (step_here rules number now x list) (run_traced rules (number + 1) now inputs first.list))
    ∙ outside_single rules number now x list (ap (λ (y : Arrival). y.side) is ∙ side))
outside_from rules number clock (x ∷ inputs) list (suc i) input at side =
    let now : ℕ = max clock x.clock in
    let first : RunEffect = step rules number now x list in
    let same : number + suc i ≡ (number + 1) + i = omega arith in
    ap legs_behind (rests_are rules.timers number now first
    (run_from rules (number + 1) now inputs first.list).acts (traces_from rules (number + 1) now inputs first.list)
    (step_here rules number now x list) (run_traced rules (number + 1) now inputs first.list) (number + suc i)
    (omega arith))
    ∙ (ap (λ (k : ℕ). second_legs k (run_from rules (number + 1) now inputs first.list).acts) same
    ∙ outside_from rules (number + 1) now inputs first.list i input at side)

pub outside_alone : (rules : Rules) (state : State) (inputs : List Arrival) (n : ℕ) (input : Arrival) →
    slice_get inputs n ≡ Some input → input.side ≡ Outside → second_legs n (effect_from rules state inputs).acts ≡ []
outside_alone rules state inputs n input at side =
    let same : n ≡ 0 + n = omega arith in
    ap (λ (k : ℕ). second_legs k (effect_from rules state inputs).acts) same
    ∙ outside_from rules 0 state.clock inputs state.list n input at side

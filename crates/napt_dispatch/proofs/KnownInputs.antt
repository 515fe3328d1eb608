-- The known progress of the inputs that were read.
use Rattle.std.proofs.lemmas.{Grind.common_steps, Bool.Decides.nat_tests}
use Rattle.std.proofs.Common.{◌≡◌, ◌⊎◌, inl, inr, ℕ, zero, suc, ◌+◌, ◌<◌, ◌≤◌, Bool, true, false, List, [], ◌∷◌, ◌++◌, length, map, set, get_or, Option, Some, None, option_to_list, refl, sym, ◌∙◌, ap, subst, arith, append-nil, append_assoc, length-append}
use Rattle.std.{specs.Prelude.{IfSome, slice_get, slice_set}, proofs.lemmas.List.{map-set, map-append, get_or-map, length-map}}
use Rattle.napt_pool.proofs.Lists.{map-kept}
use Rattle.napt_wire.specs.declared.Way.{Way}
use Rattle.napt_rules.specs.{declared.{Leg.Leg, Outcome.Outcome}, Prelude.{Arrival, State, effect_from}}
use Rattle.napt_rules.specs.declared.Outcome.TheVariants as outcomes
use Rattle.napt_config.specs.Rules.{Rules}
use Rattle.napt_sequential.{specs.{declared.{outcome.StepResult.StepResult, passage.Passage.Passage}, Steps.steps_of}, proofs.StepsInOrder.{steps_long, steps_outcomes}}
use Rattle.napt_dispatch.specs.{Dispatch.{input_results, input_result}, declared.dispatcher.input_progress.InputProgress.{InputProgress, TheVariants.{Awaited, Returning}}}
use Rattle.napt_dispatch.specs.{declared.dispatcher.input_progress.OpenInput.OpenInput, OutcomeLists.collected_outcome, DispatcherInvariants.{AnswersTo, IsSecondLegOf, IsSecondOf}}
use Rattle.napt_dispatch.specs.{RunsThrough.timed_results, declared.outcome_sink.InputResult.InputResult}
use Rattle.napt_dispatch.specs.RunProgresses.{RunProgressModel, RunLegs, time_in, end_of_answer, progress_ended, ended_in, second_leg_asked, AsksForSecondLeg, first_by, first_in, unmarked, known_in, progress_arrived, mark_of, progress_in, times_in, marks_in, departed_with, departed_in, is_unknown, passages_after, progress_expecting, IsUnmarked, ProgressIsWritten, HasMark, InputIsMarked, FirstIsComplete, FirstInputLeaves, NoneBehind, KnowsSecond, ProgressIsKnown, ProgressesAreKnown, OutcomesAreHandedOver}
use Rattle.napt_laws.specs.{Dispatching.{IsFrontOf, outcome_of_end}, SecondLegs.second_legs}

-- LISTS

set_behind : {X : Type 0} (xs ys : List X) (n i : ℕ) (v : X) → n ≡ length xs + i → set (xs ++ ys) n v ≡ xs ++ set ys i v
set_behind [] ys n i v e = let same : n ≡ i = omega arith in ap (λ (m : ℕ). set ys m v) same
set_behind (x ∷ xs) ys zero i v e = absurd (omega arith)
set_behind (x ∷ xs) ys (suc n) i v e = ap (λ (l : List _). x ∷ l) (set_behind xs ys n i v (omega arith))

get_behind : {X : Type 0} (xs ys : List X) (n i : ℕ) → n ≡ length xs + i → slice_get (xs ++ ys) n ≡ slice_get ys i
get_behind [] ys n i e = let same : n ≡ i = omega arith in ap (slice_get ys) same
get_behind (x ∷ xs) ys zero i e = absurd (omega arith)
get_behind (x ∷ xs) ys (suc n) i e = get_behind xs ys n i (omega arith)

get_at : {X : Type 0} (xs : List X) (i : ℕ) (x : X) → i < length xs → x ≡ get_or xs i x → slice_get xs i ≡ Some x
get_at [] i x lt is = absurd (omega arith)
get_at (y ∷ xs) zero x lt is = ap Some (sym is)
get_at (y ∷ xs) (suc i) x lt is = get_at xs i x (omega arith) is

-- WHAT IS KNOWN

get_set : {P : Type 0} (xs : List (InputProgress P)) (n i : ℕ) (v x : InputProgress P) →
    slice_get (set xs n v) i ≡ Some x →
    ((i ≡ n) × (v ≡ x)) ⊎ (slice_get xs i ≡ Some x)
get_set [] n i v x h = inr h
get_set (o ∷ os) zero zero v x h = inl (refl, (cc))
get_set (o ∷ os) zero (suc i) v x h = inr h
get_set (o ∷ os) (suc n) zero v x h = inr h
get_set (o ∷ os) (suc n) (suc i) v x h = elim (get_set os n i v x h) [ inl e ↦ inl (ap suc e.0, e.1) | inr e ↦ inr e ]

pub known_set : {P : Type 0} (whole : RunLegs P) (progress : List (InputProgress P)) (n : ℕ) (p : InputProgress P) →
    ProgressIsKnown whole n p → ProgressesAreKnown whole progress → ProgressesAreKnown whole (slice_set progress n p)
known_set whole progress n p here known = λ i q h. elim (get_set progress n i p q h) [
  | inl e ↦ subst (ProgressIsKnown whole i) e.1 (subst (λ (k : ℕ). ProgressIsKnown whole k p) (sym e.0) here)
  | inr e ↦ known i q e
]

get_push : {X : Type 0} (xs : List X) (x : X) (i : ℕ) (y : X) → slice_get (xs ++ x ∷ []) i ≡ Some y →
    (slice_get xs i ≡ Some y) ⊎ ((i ≡ length xs) × (x ≡ y))
get_push [] x zero y h = inr (refl, (cc))
get_push [] x (suc i) y h = cc
get_push (z ∷ xs) x zero y h = inl h
get_push (z ∷ xs) x (suc i) y h = elim (get_push xs x i y h) [ inl e ↦ inl e | inr e ↦ inr (ap suc e.0, e.1) ]

-- A second leg was removed, for which the last answer asks.
pub returning_known : {P : Type 0} (whole : RunLegs P) (n : ℕ) (p : InputProgress P) (leg : Leg) (first : P) →
    second_legs n whole.acts ≡ leg ∷ [] → first_in p ≡ Some first → ProgressIsKnown whole n p →
    ProgressIsKnown whole n (Returning first)
returning_known whole n p leg first legs is known = grind (arith, common_steps, nat_tests)

told_end : (o : Outcome) → outcome_of_end (end_of_answer o) ≡ Some o
told_end o = grind (arith, common_steps, nat_tests)

no_first : {P : Type 0} (first : P) (o : Outcome) → first_by first (end_of_answer o) ≡ None
no_first first o = grind (arith, common_steps, nat_tests)

departed_ended : {P : Type 0} (d : InputResult P) → departed_in (progress_ended d) ≡ Some d
departed_ended d = ap (departed_with d.now d.first d.second) (told_end d.outcome)

pub ended_known : {P : Type 0} (whole : RunLegs P) (n : ℕ) (d : InputResult P) → slice_get whole.departed n ≡ Some d →
    ProgressIsKnown whole n (progress_ended d)
ended_known whole n d is = grind (arith, common_steps, nat_tests, told_end, no_first)

-- Of one more input it is only known that no second leg follows an incoming first leg.
pub known_push : {P : Type 0} (whole : RunLegs P) (progress : List (InputProgress P)) (way : Way) →
    NoneBehind way (second_legs (length progress) whole.acts) → ProgressesAreKnown whole progress →
    ProgressesAreKnown whole (progress ++ Awaited way ∷ [])
known_push whole progress way none known = grind (arith, common_steps, nat_tests, get_push)

known_departed : {P : Type 0} (whole : RunLegs P) (i : ℕ) (p : InputProgress P) (d : InputResult P) →
    departed_in p ≡ Some d →
    ProgressIsKnown whole i p → slice_get whole.departed i ≡ Some d
known_departed whole i p d is known = rw is at known.departed

-- The results that left the window agree with the run.
left_known : {P : Type 0} (whole : RunLegs P) (i : ℕ) (pair : ℕ × InputResult P) →
    ProgressIsKnown whole i (ended_in pair) →
    slice_get whole.departed i ≡ Some pair.1
left_known whole i pair known = known_departed whole i (ended_in pair) pair.1 (departed_ended pair.1) known

second_by : {P : Type 0} (legs : List Leg) (number : ℕ) (p : InputProgress P) → is_unknown (Some p) ≡ false →
    KnowsSecond legs number p → legs ≡ option_to_list (second_leg_asked number p)
second_by legs number p goes knows = grind (arith, common_steps, nat_tests)

-- The second leg for which an answer asks is that of the run.
pub second_known : {P : Type 0} (whole : RunLegs P) (progress : List (InputProgress P)) (number : ℕ)
    (second : Option Leg) →
    is_unknown (slice_get progress number) ≡ false → AsksForSecondLeg number progress second →
    ProgressesAreKnown whole progress →
    second_legs number whole.acts ≡ option_to_list second
second_known whole progress number second goes asks known =
    second_by (second_legs number whole.acts) number asks.p (rw asks.there at goes)
    (known number asks.p asks.there).second ∙ ap option_to_list asks.asked_is

-- A WINDOW

abbrev window_of : {P : Type 0} → List (ℕ × InputResult P) → List (OpenInput P) → RunProgressModel P
window_of left items = record { left = left; under_way = items }

-- The list that is read from all inputs if one open input changes.
module _ {P X : Type 0} (f : ℕ × InputResult P → X) (h : OpenInput P → X) (left : List (ℕ × InputResult P))
    (items : List (OpenInput P)) (number place : ℕ) (later : OpenInput P) where
  reads_set : (x : X) → number ≡ length left + place → h later ≡ x →
      map f left ++ map h (set items place later) ≡ set (map f left ++ map h items) number x
  reads_set x n same = grind (arith, common_steps, nat_tests, length-map, map-set, set_behind)

  reads_same : (o : OpenInput P) → o ≡ get_or items place o → h later ≡ h o →
      map f left ++ map h (set items place later) ≡ map f left ++ map h items
  reads_same o at same = ap (λ ys. map f left ++ ys) (map-kept h items place later o at same)

module _ {P : Type 0} (left : List (ℕ × InputResult P)) (items : List (OpenInput P)) (window : RunProgressModel P)
    (is : window_of left items ≡ window) (number place : ℕ) (n : number ≡ length window.left + place)
    (within : place < length window.under_way) (o : OpenInput P) (at : o ≡ get_or items place o) where
  lt : place < length items
  lt = grind (arith, common_steps, nat_tests)

  n_is : number ≡ length left + place
  n_is = grind (arith, common_steps, nat_tests)

  -- The progress of an open input.
  pub open_get : slice_get (progress_in window) number ≡ Some o.progress
  open_get =
      let place_is : number ≡ length (map ended_in left) + place = omega (arith, n_is, length-map left ended_in) in
      let here : slice_get (map known_in items) place ≡ Some o.progress =
      get_at (map known_in items) place o.progress (omega (arith, lt, length-map items known_in))
      (ap known_in at ∙ sym (get_or-map known_in items place o o.progress lt)) in
      ap (λ (w : RunProgressModel P). slice_get (progress_in w) number) (sym is)
      ∙ (get_behind (map ended_in left) (map known_in items) number place place_is ∙ here)

  -- The records of its legs, once the answer to an awaited leg brings one.
  pub open_answers : (none : P) (way : Way) (passage : P) (passages : Option (P × P)) →
      passages ≡ passages_after none o.progress way passage → IfSome passages (AnswersTo none window number way passage)
  open_answers none way passage passages e = grind (arith, common_steps, nat_tests, open_get)

  -- Its progress is set.
  pub open_written : (later : OpenInput P) (p : InputProgress P) → later.time ≡ o.time → later.progress ≡ p →
      ProgressIsWritten number p window (window_of left (set items place later))
  open_written later p time same = grind (arith, common_steps, nat_tests, reads_same, reads_set, n_is)

  -- Its mark is set or cleared.
  pub open_has_mark : (later : OpenInput P) (m : Bool) → later.has_place ≡ m →
      HasMark number m window (window_of left (set items place later))
  open_has_mark later m same = grind (arith, common_steps, nat_tests, reads_set, n_is)

  pub open_marked : (later : OpenInput P) (m : Bool) → later.time ≡ o.time → later.progress ≡ o.progress →
      later.has_place ≡ m → InputIsMarked number m window (window_of left (set items place later))
  open_marked later m time progress mark = grind (arith, common_steps, nat_tests, reads_same, open_has_mark)

  -- Its mark stays.
  pub open_unmarked : (later : OpenInput P) → later.has_place ≡ o.has_place →
      marks_in (window_of left (set items place later)) ≡ marks_in window
  open_unmarked later same = reads_same unmarked mark_of left items number place later o at same ∙ ap marks_in is

  -- Its second leg.
  pub open_second : (later : OpenInput P) (second : Option Leg) → IsSecondOf number o later second →
      IsSecondLegOf number window (window_of left (set items place later)) second
  open_second later None s = (
    open_marked later false (ap progress_arrived s.0) (ap known_in s.0) (ap mark_of s.0),
    record { p = o.progress; there = open_get; asked_is = s.1 },
  )
  open_second later (Some leg) s = record {
    asks = record { p = o.progress; there = open_get; asked_is = s.2 };
    first = s.0;
    first_is = s.3;
    written = open_written later (Returning s.0) (ap progress_arrived s.1) (ap known_in s.1);
    mark = open_has_mark later false (ap mark_of s.1);
  }

-- No second leg is known of an input whose outcome has left the window.
pub left_unknown : {P : Type 0} (left : List (ℕ × InputResult P)) (ps : List (InputProgress P)) (number : ℕ) →
    number < length left → is_unknown (slice_get (map ended_in left ++ ps) number) ≡ true
left_unknown [] ps number lt = absurd (omega arith)
left_unknown (x ∷ left) ps zero lt = refl
left_unknown (x ∷ left) ps (suc number) lt = left_unknown left ps number (omega arith)

past_unknown : {P : Type 0} (ps : List (InputProgress P)) (number : ℕ) → length ps ≤ number → is_unknown
    (slice_get ps number) ≡ true
past_unknown [] number le = refl
past_unknown (p ∷ ps) zero le = absurd (omega arith)
past_unknown (p ∷ ps) (suc number) le = past_unknown ps number (omega arith)

length_of : {X : Type 0} {m n : ℕ} (xs ys : List X) → length xs ≡ m → length ys ≡ n → length (xs ++ ys) ≡ m + n
length_of xs ys one two = omega (arith, one, two, length-append xs ys)

pub length_all : {P : Type 0} (window : RunProgressModel P) → length (progress_in window)
    ≡ length window.left + length window.under_way
length_all window = grind (arith, common_steps, nat_tests, length_of, length-map)

length_marks : {P : Type 0} (window : RunProgressModel P) → length (marks_in window)
    ≡ length window.left + length window.under_way
length_marks window = grind (arith, common_steps, nat_tests, length_of, length-map)

pub times_long : {P : Type 0} (window : RunProgressModel P) → length (times_in window) ≡ length (progress_in window)
times_long window = grind (arith, common_steps, nat_tests, length_of, length-map, length_all)

-- The number of no open input.
pub unread_unknown : {P : Type 0} (left : List (ℕ × InputResult P)) (items : List (OpenInput P)) (number : ℕ) →
    length left + length items ≤ number → is_unknown (slice_get (progress_in (window_of left items)) number) ≡ true
unread_unknown left items number le = grind (arith, common_steps, nat_tests, past_unknown, length_all)

-- STEPS

pub expecting_times : {P : Type 0} (time : ℕ) (way : Way) (window : RunProgressModel P) →
    times_in (progress_expecting time way window)
    ≡ times_in window ++ time ∷ []
expecting_times time way window = grind (arith, common_steps, nat_tests, map-append, append_assoc)

pub expecting_progress : {P : Type 0} (time : ℕ) (way : Way) (window : RunProgressModel P) →
    progress_in (progress_expecting time way window) ≡ progress_in window ++ Awaited way ∷ []
expecting_progress time way window = grind (arith, common_steps, nat_tests, map-append, append_assoc)

pub expecting_marks : {P : Type 0} (time : ℕ) (way : Way) (window : RunProgressModel P) →
    marks_in (progress_expecting time way window)
    ≡ marks_in window ++ false ∷ []
expecting_marks time way window = grind (arith, common_steps, nat_tests, map-append, append_assoc)

pub expecting_unmarked : {P : Type 0} (time : ℕ) (way : Way) (number : ℕ) (window later : RunProgressModel P) →
    number ≡ length (progress_in window) → later ≡ progress_expecting time way window → IsUnmarked number later
expecting_unmarked {P} time way number window later n is =
    let long : number ≡ length (marks_in window) + 0 = omega (arith, n, length_all window, length_marks window) in
    let left : later.left ≡ window.left = ap (λ (w : RunProgressModel P). w.left) is in
    record {
      open_is = omega (arith, n, length_all window, ap length left);
      mark = ap (λ (w : RunProgressModel P). slice_get (marks_in w) number) is
          ∙ (ap (λ ms. slice_get ms number) (expecting_marks time way window)
          ∙ get_behind (marks_in window) (false ∷ []) number 0 long);
    }

-- The first open input may leave.
pub first_leaves : {P : Type 0} (window : RunProgressModel P) (first : OpenInput P) (rest : List (OpenInput P))
    (d : InputResult P)
    (left : List (ℕ × InputResult P)) → window.under_way ≡ first ∷ rest → FirstIsComplete window.under_way →
    departed_in first.progress ≡ Some d → left ≡ window.left ++ (first.time, d) ∷ [] →
    FirstInputLeaves (first.time, d) window (window_of left rest)
first_leaves window first rest d left is may ends more = grind (arith, common_steps, nat_tests)

-- One outcome left.
pub leaves_over : {P : Type 0} (pair : ℕ × InputResult P) (window later : RunProgressModel P) →
    FirstInputLeaves pair window later →
    OutcomesAreHandedOver (pair ∷ []) window later
leaves_over {P} pair window later l =
    let lefts : List (InputProgress P) = map ended_in window.left in
    let rest : List (InputProgress P) = map known_in later.under_way in
    let was : progress_in window ≡ lefts ++ l.progress ∷ rest = ap (λ xs. lefts ++ map known_in xs) l.first in
    let now : progress_in later ≡ lefts ++ ended_in pair ∷ rest =
    ap (λ xs. map ended_in xs ++ rest) l.left_is
    ∙ (ap (λ xs. xs ++ rest) (map-append ended_in window.left (pair ∷ []))
    ∙ append_assoc lefts (ended_in pair ∷ []) rest) in
    let place : length window.left ≡ length lefts + 0 = omega (arith, length-map window.left ended_in) in
    let set_is : progress_in later ≡ slice_set (progress_in window) (length window.left) (ended_in pair) =
    now ∙ (sym (set_behind lefts (l.progress ∷ rest) (length window.left) 0 (ended_in pair) place)
    ∙ ap (λ ps. set ps (length window.left) (ended_in pair)) (sym was)) in
    let there : slice_get (progress_in window) (length window.left) ≡ Some l.progress =
    ap (λ ps. slice_get ps (length window.left)) was
    ∙ get_behind lefts (l.progress ∷ rest) (length window.left) 0 place in
    record {
      left_is = l.left_is;
      times_stay = ap (λ xs. map time_in xs ++ map progress_arrived later.under_way) l.left_is
          ∙ (ap (λ xs. xs ++ map progress_arrived later.under_way) (map-append time_in window.left (pair ∷ []))
          ∙ (append_assoc (map time_in window.left) (pair.0 ∷ []) (map progress_arrived later.under_way)
          ∙ sym (ap (λ xs. map time_in window.left ++ map progress_arrived xs) l.first)));
      marks_stay = ap (λ xs. map unmarked xs ++ map mark_of later.under_way) l.left_is
          ∙ (ap (λ xs. xs ++ map mark_of later.under_way) (map-append unmarked window.left (pair ∷ []))
          ∙ (append_assoc (map unmarked window.left) (false ∷ []) (map mark_of later.under_way)
          ∙ sym (ap (λ xs. map unmarked window.left ++ map mark_of xs) l.first)));
      known = λ whole known.
          rw set_is (known_set whole (progress_in window) (length window.left) (ended_in pair)
          (ended_known whole (length window.left) pair.1 (known_departed whole (length window.left) l.progress pair.1
          l.ended (known (length window.left) l.progress there))) known);
    }

pub over_none : {P : Type 0} (window : RunProgressModel P) → OutcomesAreHandedOver [] window window
over_none window = grind (arith, common_steps, nat_tests, append-nil)

pub over_more : {P : Type 0} (xs ys : List (ℕ × InputResult P)) (window middle later : RunProgressModel P) →
    OutcomesAreHandedOver xs window middle → OutcomesAreHandedOver ys middle later →
    OutcomesAreHandedOver (xs ++ ys) window later
over_more xs ys window middle later a b = grind (arith, common_steps, nat_tests, append_assoc)

-- THE END

get_left : {P : Type 0} (left : List (ℕ × InputResult P)) (ps : List (InputProgress P)) (i : ℕ) (pair : ℕ ×
    InputResult P) →
    slice_get left i ≡ Some pair → slice_get (map ended_in left ++ ps) i ≡ Some (ended_in pair)
get_left [] ps i pair h = cc
get_left (x ∷ left) ps zero pair h = cc
get_left (x ∷ left) ps (suc i) pair h = get_left left ps i pair h

front_by : {P : Type 0} (left : List (ℕ × InputResult P)) (more : List ℕ) (inputs : List Arrival)
    (outs : List (InputResult P)) → length outs ≡ length inputs → map time_in left ++ more ≡ map (λ i. i.time) inputs →
    ((i : ℕ) (pair : ℕ × InputResult P) → slice_get left i ≡ Some pair → slice_get outs i ≡ Some pair.1) →
    IsFrontOf left (timed_results inputs outs)
front_by [] more inputs outs long times h = (timed_results inputs outs, refl)
front_by (x ∷ left) more [] outs long times h = cc
front_by (x ∷ left) more (i ∷ inputs) [] long times h = absurd (omega arith)
front_by {P} (x ∷ left) more (i ∷ inputs) (o ∷ outs) long times h =
    let here : Some o ≡ Some x.1 = h zero x refl in
    let rest : IsFrontOf left (timed_results inputs outs) =
    front_by left more inputs outs (omega arith) (cc (times)) (λ k pair g. h (suc k) pair g) in
    let time : x.0 ≡ i.time = cc (times) in
    let outcome : x.1 ≡ o = cc (here) in (
      rest.0,
      ap (λ l. x ∷ l) rest.1 ∙ ap (λ (y : ℕ × InputResult P). y ∷ timed_results inputs outs)
          (rw (time, outcome) refl),
    )

pub left_front : {P : Type 0} (whole : RunLegs P) (window : RunProgressModel P) (inputs : List Arrival) →
    times_in window ≡ map (λ i. i.time) inputs → ProgressesAreKnown whole (progress_in window) →
    length whole.departed ≡ length inputs → IsFrontOf window.left (timed_results inputs whole.departed)
left_front whole window inputs times known long =
    front_by window.left (map progress_arrived window.under_way) inputs whole.departed long times
    (λ i pair g. left_known whole i pair (known i (ended_in pair)
    (get_left window.left (map known_in window.under_way) i pair g)))

-- The same if more inputs came than were read.
pub left_front_of : {P : Type 0} (whole : RunLegs P) (window : RunProgressModel P) (inputs unread : List Arrival) →
    times_in window ≡ map (λ i. i.time) inputs → ProgressesAreKnown whole (progress_in window) →
    length whole.departed ≡ length (inputs ++ unread) →
    IsFrontOf window.left (timed_results (inputs ++ unread) whole.departed)
left_front_of whole window inputs unread times known long =
    let more : List ℕ = map (λ (i : Arrival). i.time) unread in
    front_by window.left (map progress_arrived window.under_way ++ more) (inputs ++ unread) whole.departed long
    (sym (append_assoc (map time_in window.left) (map progress_arrived window.under_way) more)
    ∙ (ap (λ ts. ts ++ more) times ∙ sym (map-append (λ (i : Arrival). i.time) inputs unread)))
    (λ i pair g. left_known whole i pair (known i (ended_in pair)
    (get_left window.left (map known_in window.under_way) i pair g)))

no_more : {X : Type 0} (xs ys zs : List X) → xs ++ ys ≡ zs → length xs ≡ length zs → xs ≡ zs
no_more [] [] zs e long = e
no_more [] (y ∷ ys) zs e long = absurd (let h : suc (length ys) ≡ length zs = ap length e in omega arith)
no_more (x ∷ xs) ys [] e long = absurd (omega arith)
no_more (x ∷ xs) ys (z ∷ zs) e long = grind (arith, common_steps, nat_tests, no_more xs ys zs (cc (e)) (omega arith))

length_timed : {X : Type 0} (inputs : List Arrival) (outs : List X) → length outs ≡ length inputs →
    length (timed_results inputs outs) ≡ length inputs
length_timed [] outs e = refl
length_timed (i ∷ inputs) [] e = absurd (omega arith)
length_timed (i ∷ inputs) (o ∷ outs) e = ap suc (length_timed inputs outs (omega arith))

pub left_whole : {P : Type 0} (whole : RunLegs P) (window : RunProgressModel P) (inputs : List Arrival) →
    times_in window ≡ map (λ i. i.time) inputs → ProgressesAreKnown whole (progress_in window) →
    length whole.departed ≡ length inputs → window.under_way ≡ [] → window.left ≡ timed_results inputs whole.departed
left_whole whole window inputs times known long none =
    grind (arith, common_steps, nat_tests, left_front, append-nil, length-map, no_more, length_timed)

pub timed_outcomes : {P : Type 0} (inputs : List Arrival) (outs : List (InputResult P)) → length outs ≡ length inputs →
    map collected_outcome (timed_results inputs outs) ≡ map (λ d. d.outcome) outs
timed_outcomes [] [] e = refl
timed_outcomes [] (o ∷ outs) e = absurd (omega arith)
timed_outcomes (i ∷ inputs) [] e = absurd (omega arith)
timed_outcomes (i ∷ inputs) (o ∷ outs) e = ap (λ l. o.outcome ∷ l) (timed_outcomes inputs outs (omega arith))

-- The results of the inputs of a run have the run's outcomes.
same_outcomes : {P : Type 0} (tells : Passage → P) (all : List StepResult) →
    map (λ d. d.outcome) (map (input_result tells) all) ≡ map (λ s. s.outcome) all
same_outcomes tells [] = refl
same_outcomes tells (s ∷ all) = ap (λ l. s.outcome ∷ l) (same_outcomes tells all)

pub departed_outcomes : {P : Type 0} (tells : Passage → P) (rules : Rules) (start : State) (inputs : List Arrival) →
    map (λ d. d.outcome) (input_results tells rules start inputs) ≡ (effect_from rules start inputs).outcomes
departed_outcomes tells rules start inputs = same_outcomes tells (steps_of rules start inputs)
    ∙ steps_outcomes rules start inputs

pub departed_long : {P : Type 0} (tells : Passage → P) (rules : Rules) (start : State) (inputs : List Arrival) →
    length (input_results tells rules start inputs) ≡ length inputs
departed_long tells rules start inputs = length-map (steps_of rules start inputs) (input_result tells)
    ∙ steps_long rules start inputs

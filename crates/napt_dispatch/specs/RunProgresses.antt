-- The progress of the inputs that were read: those whose outcomes have left the window, and the open ones.
use Rattle.std.specs.Prelude.{◌≡◌, ℕ, ◌≤◌, ◌++◌, List, [], ◌∷◌, length, Bool, true, false, Option, Some, None, IfSome, is_some, option_to_list, map, slice_get, slice_set}
use Rattle.napt_wire.specs.declared.{Cause.Cause, Way.{Way, TheVariants.{Outgoing, Incoming}}}
use Rattle.napt_config.specs.Rules.{Rules}
use Rattle.napt_rules.specs.{declared.{End.End, Leg.Leg, Outcome.Outcome}, Prelude.{Arrival, LegAct, State, effect_from}}
use Rattle.napt_rules.specs.declared.End.TheVariants as ends
use Rattle.napt_laws.specs.{SecondLegs.second_legs, Dispatching.outcome_of_end}
use Rattle.napt_rules.specs.declared.Outcome.TheVariants as outcomes
use Rattle.napt_sequential.specs.{declared.passage.Passage.Passage, Traces.traces_of}
use Rattle.napt_dispatch.specs.declared.{outcome_sink.InputResult.InputResult, dispatcher.input_progress.{OpenInput.OpenInput, InputProgress.InputProgress}}
use Rattle.napt_dispatch.specs.{declared.dispatcher.input_progress.InputProgress.TheVariants.{Awaited, Returning, Answered}, Dispatch.input_results}

-- The results that left the window, each with its arrival time in ns, and then the open inputs, all in input order.
pub record RunProgressModel (P : Type 0) : Type 0 where
  pub left : List (ℕ × InputResult P)
  pub under_way : List (OpenInput P)

abbrev pub time_in : {X : Type 0} → ℕ × X → ℕ
time_in pair = pair.0

abbrev pub end_of_answer : Outcome → End
end_of_answer (outcomes.ToOutside packet) = ends.ToOutside packet
end_of_answer (outcomes.ToInside packet) = ends.ToInside packet
end_of_answer (outcomes.Dropped cause) = ends.Dropped cause

-- Returns the progress of an input that ended with this result and awaits no second leg.
abbrev pub progress_ended : {P : Type 0} → InputResult P → InputProgress P
progress_ended departed =
    Answered (record { way = Incoming; now = departed.now }) (end_of_answer departed.outcome) departed.first
    departed.second

-- Returns the result of an input that is dropped without a leg. `none` is the record of a leg that does not exist.
abbrev pub refused_at : {P : Type 0} → P → ℕ → Cause → InputResult P
refused_at none now cause = record { outcome = outcomes.Dropped cause; now = now; first = none; second = none }

abbrev pub progress_refused : {P : Type 0} → P → ℕ → Cause → InputProgress P
progress_refused none now cause = progress_ended (refused_at none now cause)

-- An input whose outcome has left the window counts as ended, and has no placeholder.
abbrev pub ended_in : {P : Type 0} → ℕ × InputResult P → InputProgress P
ended_in pair = progress_ended pair.1

abbrev pub unmarked : {P : Type 0} → ℕ × InputResult P → Bool
unmarked pair = false

abbrev pub known_in : {P : Type 0} → OpenInput P → InputProgress P
known_in input = input.progress

abbrev pub progress_arrived : {P : Type 0} → OpenInput P → ℕ
progress_arrived input = input.time

abbrev pub mark_of : {P : Type 0} → OpenInput P → Bool
mark_of input = input.has_place

-- Returns the progress of all inputs that were read, in their order.
abbrev pub progress_in : {P : Type 0} → RunProgressModel P → List (InputProgress P)
progress_in window = map ended_in window.left ++ map known_in window.under_way

-- Returns the arrival times of all inputs that were read, in ns.
abbrev pub times_in : {P : Type 0} → RunProgressModel P → List ℕ
times_in window = map time_in window.left ++ map progress_arrived window.under_way

-- Returns the mark of each input that was read, which is true while a placeholder is held for its second leg.
abbrev pub marks_in : {P : Type 0} → RunProgressModel P → List Bool
marks_in window = map unmarked window.left ++ map mark_of window.under_way

-- Returns the result of an input at a time, in ns, with the records of its two legs, if its outcome is known.
abbrev pub departed_with : {P : Type 0} → ℕ → P → P → Option Outcome → Option (InputResult P)
departed_with now first second None = None
departed_with now first second (Some outcome) =
    Some (record { outcome = outcome; now = now; first = first; second = second })

-- Returns the result of an input, if it is known.
abbrev pub departed_in : {P : Type 0} → InputProgress P → Option (InputResult P)
departed_in (Answered owed end first second) = departed_with owed.now first second (outcome_of_end end)
departed_in _ = None

abbrev pub has_ended : {P : Type 0} → InputProgress P → Bool
has_ended progress = is_some (departed_in progress)

abbrev pub is_incoming : Way → Bool
is_incoming Incoming = true
is_incoming Outgoing = false

-- Returns whether it is unknown if an input has a second leg (RFC 4787, REQ-9), also after an incoming leg or for none.
abbrev pub is_unknown : {P : Type 0} → Option (InputProgress P) → Bool
is_unknown (Some (Answered owed end first second)) = is_incoming owed.way
is_unknown _ = true

-- The input with this number is open and not marked.
pub record IsUnmarked {P : Type 0} (number : ℕ) (window : RunProgressModel P) : Type 0 where
  pub open_is : length window.left ≤ number
  pub mark : slice_get (marks_in window) number ≡ Some false

-- The first open input has ended, and no placeholder is held for its second leg.
abbrev pub FirstIsComplete : {P : Type 0} → List (OpenInput P) → Type 0
FirstIsComplete [] = ⊥
FirstIsComplete (first ∷ rest) = (has_ended first.progress ≡ true) × (first.has_place ≡ false)

-- STEPS

-- Returns the progress after one more input was read, which arrived at `time`, in ns, and goes this way first.
abbrev pub progress_expecting : {P : Type 0} → ℕ → Way → RunProgressModel P → RunProgressModel P
progress_expecting time way window = record window {
  under_way = window.under_way ++ record { time = time; progress = Awaited way; has_place = false } ∷ [];
}

-- Returns the records of both legs, where `passage` is that of an awaited leg with this direction, or `None`.
abbrev pub passages_after : {P : Type 0} → P → InputProgress P → Way → P → Option (P × P)
passages_after none (Awaited Outgoing) Outgoing passage = Some (passage, none)
passages_after none (Awaited Incoming) Incoming passage = Some (passage, none)
passages_after none (Returning first) Incoming passage = Some (first, passage)
passages_after none _ _ passage = None

-- The progress of the input with this number was set. The results that left and the arrival times did not change.
pub record ProgressIsWritten {P : Type 0} (number : ℕ) (progress : InputProgress P)
    (window later : RunProgressModel P) : Type 0 where
  pub left_stays : later.left ≡ window.left
  pub times_stay : times_in later ≡ times_in window
  pub progress_is : progress_in later ≡ slice_set (progress_in window) number progress

-- The mark of the input with this number was set or cleared.
abbrev pub HasMark : {P : Type 0} → ℕ → Bool → RunProgressModel P → RunProgressModel P → Type 0
HasMark number mark window later = marks_in later ≡ slice_set (marks_in window) number mark

-- The mark of the input with this number was set or cleared, and nothing else changed.
pub record InputIsMarked {P : Type 0} (number : ℕ) (mark : Bool) (window later : RunProgressModel P) : Type 0 where
  pub left_stays : later.left ≡ window.left
  pub times_stay : times_in later ≡ times_in window
  pub progress_stays : progress_in later ≡ progress_in window
  pub marks_are : HasMark number mark window later

-- The result of the first open input, which had ended, left the window with its arrival time in ns.
pub record FirstInputLeaves {P : Type 0} (pair : ℕ × InputResult P) (window later : RunProgressModel P) : Type 0 where
  pub progress : InputProgress P
  pub first : window.under_way ≡ record { time = pair.0; progress = progress; has_place = false } ∷ later.under_way
  pub ended : departed_in progress ≡ Some pair.1
  pub left_is : later.left ≡ window.left ++ pair ∷ []

-- THE RUN

-- The acts of a run, the results of its inputs, and the records of their first legs.
pub record RunLegs (P : Type 0) : Type 0 where
  pub acts : List LegAct
  pub departed : List (InputResult P)
  pub firsts : List P

abbrev pub whole_of : {P : Type 0} → (Passage → P) → Rules → State → List Arrival → RunLegs P
whole_of tells rules start inputs = record {
  acts = (effect_from rules start inputs).acts;
  departed = input_results tells rules start inputs;
  firsts = map (λ trace. tells trace.first) (traces_of rules start inputs);
}

-- Returns the second leg that an answer requires: one if it ends with `Onward` (RFC 4787, REQ-9), and otherwise none.
abbrev pub second_leg_asked_by : ℕ → ℕ → End → Option Leg
second_leg_asked_by number now (ends.Onward place packet) =
    Some (record { number = number; now = now; way = Incoming; packet = packet })
second_leg_asked_by number now _ = None

abbrev pub second_leg_asked : {P : Type 0} → ℕ → InputProgress P → Option Leg
second_leg_asked number (Answered owed end first second) = second_leg_asked_by number owed.now end
second_leg_asked number _ = None

pub record AsksForSecondLeg {P : Type 0} (number : ℕ) (progress : List (InputProgress P)) (second : Option Leg) : Type
    0 where
  pub p : InputProgress P
  pub there : slice_get progress number ≡ Some p
  pub asked_is : second_leg_asked number p ≡ second

-- Returns the record of the first leg, if a second leg is to follow.
abbrev pub first_by : {P : Type 0} → P → End → Option P
first_by first (ends.Onward place packet) = Some first
first_by first _ = None

abbrev pub first_in : {P : Type 0} → InputProgress P → Option P
first_in (Awaited way) = None
first_in (Returning first) = Some first
first_in (Answered owed end first second) = first_by first end

-- An incoming first leg is not followed by a second leg.
abbrev pub NoneBehind : Way → List Leg → Type 0
NoneBehind Outgoing legs = Unit {0}
NoneBehind Incoming legs = legs ≡ []

-- The progress of an input agrees with its second legs in the run.
abbrev pub KnowsSecond : {P : Type 0} → List Leg → ℕ → InputProgress P → Type 0
KnowsSecond legs number (Awaited way) = NoneBehind way legs
KnowsSecond legs number (Returning first) = (leg : Leg) × (legs ≡ leg ∷ [])
KnowsSecond legs number (Answered owed end first second) =
    is_incoming owed.way ≡ false → legs ≡ option_to_list (second_leg_asked_by number owed.now end)

-- The progress of an input agrees with the run.
pub record ProgressIsKnown {P : Type 0} (whole : RunLegs P) (number : ℕ) (progress : InputProgress P) : Type 0 where
  pub departed : IfSome (departed_in progress) (λ departed. slice_get whole.departed number ≡ Some departed)
  pub first : IfSome (first_in progress) (λ first. slice_get whole.firsts number ≡ Some first)
  pub second : KnowsSecond (second_legs number whole.acts) number progress

abbrev pub ProgressesAreKnown : {P : Type 0} → RunLegs P → List (InputProgress P) → Type 0
ProgressesAreKnown {P} whole progress = (i : ℕ) (p : InputProgress P) → slice_get progress i ≡ Some p →
    ProgressIsKnown whole i p

-- These results left the window. The arrival times and marks did not change, and the progress still agrees with a run.
pub record OutcomesAreHandedOver {P : Type 0} (went : List (ℕ × InputResult P)) (window later : RunProgressModel P) :
    Type 0 where
  pub left_is : later.left ≡ window.left ++ went
  pub times_stay : times_in later ≡ times_in window
  pub marks_stay : marks_in later ≡ marks_in window
  pub known : (whole : RunLegs P) → ProgressesAreKnown whole (progress_in window) →
      ProgressesAreKnown whole (progress_in later)

-- Laws of runs on which a dispatcher relies, which offers each leg to the translator of its address and takes the
-- answers one by one.
use Rattle.std.specs.{Prelude.{◌≡◌, ℕ, max, List, [], ◌∷◌, ◌++◌, length, Option, Some, None, IfSome, Ok}, List.slice_get}
use Rattle.napt_rules.specs.Prelude.{Binding, Each, bindings_at, act, Arrival, LegAct, RunEffect, effect_then, outcome_of, step, last_clock, State, effect_from, legs_at, local_replies, answers_at, Side, Outgoing, destination, reading, Rules, pool_place}
use Rattle.napt_rules.specs.declared.{Leg.Leg, Answer.Answer, End.{End, TheVariants.Onward}, Outcome.Outcome}

-- The list xs is a prefix of ys.
abbrev pub IsFrontOf : {X : Type 0} → List X → List X → Type 0
IsFrontOf {X} xs ys = (rest : List X) × (xs ++ rest ≡ ys)

-- If a translator was offered the first legs of its address and gave the first of their answers, these are the first
-- answers of the run at that address.
abbrev pub RightAnswersAreTheRuns : Type 0
RightAnswersAreTheRuns = (rules : Rules) (state : State) (inputs : List Arrival) (address : ℕ) (given : List Leg)
    (taken : List Answer) →
    let course : RunEffect = effect_from rules state inputs in
    IsFrontOf given (legs_at address course.acts) →
    IsFrontOf taken (local_replies rules address given
    (record { list = bindings_at address state.list; at = state.clock })) →
    IsFrontOf taken (answers_at address course.acts)

-- A run over one more input is the run, followed by the step of that input.
abbrev pub RunsGrow : Type 0
RunsGrow = (rules : Rules) (state : State) (inputs : List Arrival) (input : Arrival) →
    let course : RunEffect = effect_from rules state inputs in
    effect_from rules state (inputs ++ input ∷ [])
    ≡ effect_then course (step rules (length inputs) (max (last_clock state.clock inputs) input.clock) input
    course.list)

-- Returns the outcome of an input from the end of its last leg, or none if the end is `Onward`.
abbrev pub outcome_of_end : End → Option Outcome
outcome_of_end (Onward place packet) = None
outcome_of_end end = Some (outcome_of end)

-- Each leg that does not end with `Onward` gives the outcome of its input.
abbrev pub OutcomeIsGiven : List Outcome → LegAct → Type 0
OutcomeIsGiven all a = IfSome (outcome_of_end a.end) (λ outcome. slice_get all a.leg.number ≡ Some outcome)

abbrev pub AnswersGiveOutcomes : Type 0
AnswersGiveOutcomes = (rules : Rules) (state : State) (inputs : List Arrival) →
    let course : RunEffect = effect_from rules state inputs in
    Each (OutcomeIsGiven course.outcomes) course.acts

-- A leg that ends with `Onward` is outgoing, and its place is that of its packet's destination (RFC 4787, REQ-9).
pub record IsEndForeseen (rules : Rules) (leg : Leg) (place : ℕ) (packet : List ℕ) : Type 0 where
  pub way : leg.way ≡ Outgoing
  pub served : pool_place rules (destination leg.packet).address ≡ Some place
  pub kept : (destination packet).address ≡ (destination leg.packet).address

abbrev pub OnwardIsForeseen : Type 0
OnwardIsForeseen = (rules : Rules) (address : ℕ) (leg : Leg) (list : List Binding) (place : ℕ) (packet : List ℕ)
    (side : Side) → reading side leg.packet ≡ Ok leg.packet →
    (act rules address leg list).end ≡ Onward place packet → IsEndForeseen rules leg place packet

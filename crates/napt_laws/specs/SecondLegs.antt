-- The second legs of hairpins (RFC 4787, REQ-9) by the number of their input, before the answer to the first leg is
-- known.
use Rattle.std.specs.Prelude.{◌≡◌, ℕ, ◌==◌, max, cond, List, [], ◌∷◌, ◌++◌, length, map, filter, Ok}
use Rattle.napt_rules.specs.Prelude.{Binding, Each, served_at, LegEffect, act, Arrival, admission, LegAct, RunEffect, admitted_effect, last_clock, State, effect_from, legs_at, Outgoing, Incoming, Inside, destination, IsPacket, Rules}
use Rattle.napt_rules.specs.declared.{Leg.Leg, End.{End, TheVariants.Onward}}

-- Returns the act of a first leg: its address, its end, and the binding that it used.
abbrev pub first_act : Rules → ℕ → Leg → List Binding → LegAct
first_act rules address leg list =
    let first : LegEffect = act rules address leg list in
    record { address = address; leg = leg; end = first.end; through = first.through }

-- Returns the act of a first leg, and then that of its second leg, if it has one.
abbrev pub acts_of : Rules → ℕ → Leg → List Binding → List LegAct
acts_of rules address leg list = (admitted_effect rules address leg list).acts

-- Returns the acts of the input with this number.
abbrev pub acts_of_number : ℕ → List LegAct → List LegAct
acts_of_number number acts = filter (λ a. a.leg.number == number) acts

abbrev pub all_but_first : List LegAct → List LegAct
all_but_first [] = []
all_but_first (a ∷ acts) = acts

-- Returns the second leg of the input with this number, if it has one.
abbrev pub second_legs : ℕ → List LegAct → List Leg
second_legs number acts = map (λ a. a.leg) (all_but_first (acts_of_number number acts))

-- Returns the second leg that a first leg with this end requires, which is none unless the end is `Onward`.
abbrev pub second_of : Leg → End → List Leg
second_of leg (Onward place packet) = record leg { way = Incoming; packet = packet } ∷ []
second_of leg _ = []

-- The end of an outgoing leg determines the second leg of its input.
abbrev pub HasItsSecondLeg : List LegAct → LegAct → Type 0
HasItsSecondLeg acts a = a.leg.way ≡ Outgoing → second_legs a.leg.number acts ≡ second_of a.leg a.end

abbrev pub AnswersFillPlaces : Type 0
AnswersFillPlaces = (rules : Rules) (state : State) (inputs : List Arrival) →
    let course : RunEffect = effect_from rules state inputs in
    Each (HasItsSecondLeg course.acts) course.acts

-- One more input from inside adds a first leg at its host's address, and perhaps a second leg at its destination's.
abbrev pub PlacesStandForLegs : Type 0
PlacesStandForLegs = (rules : Rules) (state : State) (done rest : List Arrival) (input : Arrival) (packet : List ℕ) →
    input.side ≡ Inside → admission rules input ≡ Ok packet → IsPacket packet → (address : ℕ) →
    let leg : Leg = record {
      number = length done;
      now = max (last_clock state.clock done) input.clock;
      way = Outgoing;
      packet = packet;
    } in
    let all : RunEffect = effect_from rules state ((done ++ input ∷ []) ++ rest) in
    legs_at address (effect_from rules state (done ++ input ∷ [])).acts
    ≡ legs_at address (effect_from rules state done).acts
    ++ (cond (served_at rules Outgoing packet == address) (leg ∷ []) []
    ++ cond ((destination packet).address == address) (second_legs (length done) all.acts) [])

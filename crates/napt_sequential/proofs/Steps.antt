-- A step of all translators: the legs of one input.
use native.Mathlib.Omega.{arith}
use Rattle.std.proofs.lemmas.{Grind.common_steps, Bool.Decides.nat_tests}
use Rattle.std.proofs.Common.{◌≡◌, ℕ, ◌≤◌, List, length, Result, refl, sym, ap, subst, append-nil, append_assoc}
use Rattle.napt_wire.specs.{declared.{Way.TheVariants.Incoming, Cause.Cause}, Fields.destination, Reading.reading}
use Rattle.napt_config.specs.Rules.{Rules}
use Rattle.napt_rules.specs.{Prelude.{act, Arrival, LegAct, outcome_of, leg_effect, with_second_leg, refused_effect, admitted_effect, legs_at}, declared.Leg.Leg}
use Rattle.napt_rules.specs.declared.{End.{End, TheVariants.Onward}, Outcome.{Outcome, TheVariants.Dropped}}
use Rattle.napt_sequential.specs.declared.counted_translator.CountedTranslator.{CountedTranslator}
use Rattle.napt_sequential.specs.CountedTranslators.{SequentialRunModel, IsCountedTranslator, AreCountedTranslators, state_after, StepFollows}
use Rattle.napt_sequential.specs.declared.input.Input.TheInside as fields
use Rattle.napt_laws.proofs.RunsLocal.{later_at_once}

-- ONE LEG, OR TWO

pub follows_once : (rules : Rules) (address : ℕ) (leg : Leg) (state : SequentialRunModel)
    (translators : List CountedTranslator)
    (end : End) → (act rules address leg state.list).end ≡ end →
    with_second_leg rules address leg (act rules address leg state.list) end
    ≡ leg_effect address leg (act rules address leg state.list) →
    AreCountedTranslators rules (state_after rules address leg state) translators → (outcome : Outcome) →
    outcome ≡ outcome_of end → StepFollows rules leg.now (admitted_effect rules address leg state.list) state
    translators outcome
follows_once rules address leg state translators end is alone are outcome told = grind (arith, common_steps, nat_tests)

pub follows_twice : (rules : Rules) (address : ℕ) (leg : Leg) (state : SequentialRunModel)
    (translators : List CountedTranslator)
    (place : ℕ) (packet : List ℕ) → (act rules address leg state.list).end ≡ Onward place packet →
    (let next : Leg = record leg { way = Incoming; packet = packet } in
    let to : ℕ = (destination packet).address in
    let between : SequentialRunModel = state_after rules address leg state in
    AreCountedTranslators rules (state_after rules to next between) translators → (outcome : Outcome) →
    outcome ≡ outcome_of (act rules to next between.list).end →
    StepFollows rules leg.now (admitted_effect rules address leg state.list) state translators outcome)
follows_twice rules address leg state translators place packet is = grind (arith, common_steps, nat_tests, append_assoc)

-- NO LEG

pub follows_none : (rules : Rules) (now : ℕ) (state : SequentialRunModel) (translators : List CountedTranslator) →
    state.clock ≤ now → AreCountedTranslators rules state translators → (cause : Cause) →
    StepFollows rules now (refused_effect cause state.list) state translators (Dropped cause)
follows_none rules now state translators later are cause = (
  refl,
  record {
    many = are.many;
    each = λ place address counted at is_there.
        let is : IsCountedTranslator rules place address state counted = are.each place address counted at is_there in
        record {
          own = is.own;
          translator = is.translator;
          at_once = later_at_once rules address state.clock now later is.own state.list is.at_once;
          legs = subst (λ (xs : List LegAct). counted.legs ≡ length (legs_at address xs)) (sym (append-nil state.acts))
              is.legs;
        };
  },
)

-- An input as contracts see it, from its fields.
abbrev pub arrival_of : fields.Inside → Arrival
arrival_of input = record { side = input.side; time = input.time; clock = input.clock; bytes = input.bytes.items }

-- A copy of the bytes reads as the input does.
pub reads_as : (input copy : Arrival) (bytes : List ℕ) (read : Result (List ℕ) Cause) → copy ≡ input →
    bytes ≡ copy.bytes → reading copy.side bytes ≡ read → reading input.side input.bytes ≡ read
reads_as input copy bytes read shown copied is = grind (arith, common_steps, nat_tests)

pub side_as : (input copy : Arrival) → copy ≡ input → copy.side ≡ input.side
side_as input copy shown = ap (λ (a : Arrival). a.side) shown

-- Two runs compared: a relation between two lists that each leg preserves is preserved by a run.
use Rattle.std.proofs.Common.{◌≡◌, ℕ, ◌+◌, ◌≤◌, max, List, [], ◌∷◌, ◌++◌, Option, Result, Ok, Err, refl, ◌∙◌, ap, subst, arith}
use Rattle.napt_rules.specs.Prelude.{BindingUse, Binding, LegEffect, act, Arrival, admission, LegAct, RunEffect, outcome_of, leg_effect, with_second_leg, admitted_effect, served_at, reading, first_leg, step_as, step, run_from, last_clock, Incoming, Cause, destination, Rules}
use Rattle.napt_rules.specs.declared.{Leg.Leg, Outcome.Outcome, End.{End, TheVariants.{ToOutside, ToInside, Onward, Dropped}}}
use Rattle.napt_laws.proofs.RunInduction.{IsServed, was_admitted, serves}

-- The relation of the two lists at a time, after a leg, and after a run.
module _ (R : ℕ → List Binding → List Binding → Type 0) (now : ℕ) where
  pub record AreActsBeside (x y : LegEffect) : Type 0 where
    pub end : x.end ≡ y.end
    pub through : x.through ≡ y.through
    pub list : R now x.list y.list

  pub record AreBeside (x y : RunEffect) : Type 0 where
    pub outcomes : x.outcomes ≡ y.outcomes
    pub acts : x.acts ≡ y.acts
    pub list : R now x.list y.list

module _ (rules : Rules) (R : ℕ → List Binding → List Binding → Type 0)
    (later : (n m : ℕ) → n ≤ m → (a b : List Binding) → R n a b → R m a b)
    (legs : (address : ℕ) (leg : Leg) (a b : List Binding) → IsServed rules address leg → R leg.now a b →
    AreActsBeside R leg.now (act rules address leg a) (act rules address leg b)) where
  module _ (address : ℕ) (leg : Leg) (x y : LegEffect) (same : AreActsBeside R leg.now x y) where
    once_both : AreBeside R leg.now (leg_effect address leg x) (leg_effect address leg y)
    once_both = record {
      outcomes = ap (λ (e : End). outcome_of e ∷ []) same.end;
      acts = ap (λ (e : End). (let a : LegAct = record { address = address; leg = leg; end = e; through = x.through }
          in a)
          ∷ []) same.end
          ∙ ap (λ (t : Option BindingUse). (let a : LegAct =
          record { address = address; leg = leg; end = y.end; through = t } in a) ∷ []) same.through;
      list = same.list;
    }

    follow_both : (end : End) → AreBeside R leg.now (with_second_leg rules address leg x end)
        (with_second_leg rules address leg y end)
    follow_both (ToOutside packet) = once_both
    follow_both (ToInside packet) = once_both
    follow_both (Dropped cause) = once_both
    follow_both (Onward place packet) =
        let next : Leg = record leg { way = Incoming; packet = packet } in
        let to : ℕ = (destination packet).address in
        let second : AreActsBeside R leg.now (act rules to next x.list) (act rules to next y.list) =
        legs to next x.list y.list (record { at = refl; read = λ out. cc; ours = λ out. cc }) same.list in
        record {
          outcomes = ap (λ (e : End). outcome_of e ∷ []) second.end;
          acts = ap (λ (acts : List LegAct). acts ++ (leg_effect to next (act rules to next x.list)).acts)
              once_both.acts
              ∙ ap (λ (e : End). (leg_effect address leg y).acts ++ (let a : LegAct =
              record { address = to; leg = next; end = e; through = (act rules to next x.list).through } in a) ∷ [])
              second.end ∙ ap (λ (t : Option BindingUse). (leg_effect address leg y).acts ++ (let a : LegAct =
              record { address = to; leg = next; end = (act rules to next y.list).end; through = t } in a) ∷ [])
              second.through;
          list = second.list;
        }

  step_both : (number now : ℕ) (input : Arrival) (a b : List Binding) → R now a b →
      (comes_to : Result (List ℕ) Cause) → admission rules input ≡ comes_to → AreBeside R now
      (step_as rules (first_leg number now input.side) comes_to a)
      (step_as rules (first_leg number now input.side) comes_to b)
  step_both number now input a b so (Err cause) is = record { outcomes = refl; acts = refl; list = so }
  step_both number now input a b so (Ok packet) is =
      let leg : Leg = first_leg number now input.side packet in
      let was = was_admitted rules input.side packet (reading input.side input.bytes) is in
      let address : ℕ = served_at rules leg.way packet in
      let same : AreActsBeside R now (act rules address leg a) (act rules address leg b) =
      legs address leg a b (serves rules number now input.side input.bytes packet was.0 was.1) so in
      subst (λ (e : End). AreBeside R now (admitted_effect rules address leg a)
      (with_second_leg rules address leg (act rules address leg b) e)) same.end
      (follow_both address leg (act rules address leg a) (act rules address leg b) same (act rules address leg a).end)

  pub run_both : (number clock : ℕ) (inputs : List Arrival) (a b : List Binding) → R clock a b →
      AreBeside R (last_clock clock inputs) (run_from rules number clock inputs a)
      (run_from rules number clock inputs b)
  run_both number clock [] a b so = record { outcomes = refl; acts = refl; list = so }
  run_both number clock (input ∷ inputs) a b so =
      let now : ℕ = max clock input.clock in
      let first : RunEffect = step rules number now input a in
      let other : RunEffect = step rules number now input b in
      let steps : AreBeside R now first other =
      step_both number now input a b (later clock now (omega arith) a b so) (admission rules input) refl in
      let rest = run_both (number + 1) now inputs first.list other.list steps.list in
      record {
        outcomes = ap (λ (os : List Outcome). os ++ (run_from rules (number + 1) now inputs first.list).outcomes)
            steps.outcomes ∙ ap (λ (os : List Outcome). other.outcomes ++ os) rest.outcomes;
        acts = ap (λ (acts : List LegAct). acts ++ (run_from rules (number + 1) now inputs first.list).acts) steps.acts
            ∙ ap (λ (acts : List LegAct). other.acts ++ acts) rest.acts;
        list = rest.list;
      }

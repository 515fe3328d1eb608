-- A property of each leg of a run, by the number of its input: an induction over runs.
use Rattle.std.proofs.Common.{ℕ, ◌+◌, max, Option, List, [], ◌∷◌, ◌++◌}
use Rattle.napt_rules.specs.Prelude.{BindingUse, Binding, Each, LegEffect, act, Arrival, LegAct, RunEffect, effect_then, with_second_leg, first_leg, step, run_from, Rules}
use Rattle.napt_rules.specs.declared.{Leg.Leg, End.End}
use Rattle.napt_laws.proofs.{StepProperties.of_step, OneMoreInput.{IsOfOne, step_one}}

-- `Here` is the property in the effect of one input, `From` that in the effect of inputs from a number on.
module _ (rules : Rules) (Here From : ℕ → RunEffect → LegAct → Type 0)
    (followed : (address : ℕ) (leg : Leg) (through : Option BindingUse) (list : List Binding) (end : End) →
    (let first : LegEffect = record { end = end; through = through; list = list } in
    let course : RunEffect = with_second_leg rules address leg first end in Each (Here leg.number course) course.acts))
    (more : (number : ℕ) (first rest : RunEffect) → IsOfOne first → Each (Here number first) first.acts →
    Each (From (number + 1) rest) rest.acts → Each (From number (effect_then first rest)) (first.acts ++ rest.acts))
  where
    pub each_leg : (number clock : ℕ) (inputs : List Arrival) (list : List Binding) →
        Each (From number (run_from rules number clock inputs list)) (run_from rules number clock inputs list).acts
    each_leg number clock [] list = tt
    each_leg number clock (input ∷ inputs) list =
        let now : ℕ = max clock input.clock in
        let first : RunEffect = step rules number now input list in
        more number first (run_from rules (number + 1) now inputs first.list) (step_one rules number now input list)
        (of_step rules number now list (λ (s : RunEffect). Each (Here number s) s.acts) (λ cause. tt)
        (λ address side packet. let leg : Leg = first_leg number now side packet in
        let acted : LegEffect = act rules address leg list in followed address leg acted.through acted.list acted.end)
        input)
        (each_leg (number + 1) now inputs first.list)

-- A run over one more input.
use Rattle.std.proofs.Common.{◌≡◌, ℕ, suc, ◌+◌, ◌*◌, ◌≤◌, max, List, [], ◌∷◌, ◌++◌, length, refl, ◌∙◌, ap, arith, append-nil, append_assoc, length-append}
use Rattle.napt_rules.specs.Prelude.{Binding, LegEffect, act, Arrival, RunEffect, effect_then, with_second_leg, first_leg, step, run_from, last_clock, opening, run_result, Rules}
use Rattle.napt_rules.specs.declared.{Leg.Leg, End.{End, TheVariants.{ToOutside, ToInside, Onward, Dropped}}, Outcome.Outcome}
use Rattle.napt_laws.proofs.StepProperties.{of_step}

ahead_none : (course : RunEffect) → effect_then course (record { outcomes = []; acts = []; list = course.list })
    ≡ course
ahead_none course = rw (append-nil course.outcomes, append-nil course.acts) refl

ahead_all : (first course next : RunEffect) → effect_then first (effect_then course next)
    ≡ effect_then (effect_then first course) next
ahead_all first course next = rw (
  append_assoc first.outcomes course.outcomes next.outcomes,
  append_assoc first.acts course.acts next.acts,
) refl

-- A run over two lists is the run over the first, followed by the run over the second.
pub run_append : (rules : Rules) (number clock : ℕ) (xs ys : List Arrival) (list : List Binding) (at : ℕ) →
    number + length xs ≡ at → run_from rules number clock (xs ++ ys) list
    ≡ effect_then (run_from rules number clock xs list)
    (run_from rules at (last_clock clock xs) ys (run_from rules number clock xs list).list)
run_append rules number clock [] ys list at e =
    let here : number ≡ at = omega arith in ap (λ (n : ℕ). run_from rules n clock ys list) here
run_append rules number clock (i ∷ xs) ys list at e =
    let now : ℕ = max clock i.clock in
    let first : RunEffect = step rules number now i list in
    let rest : RunEffect = run_from rules (number + 1) now xs first.list in
    ap (effect_then first) (run_append rules (number + 1) now xs ys first.list at (omega arith))
    ∙ ahead_all first rest (run_from rules at (last_clock now xs) ys rest.list)

pub grows : (rules : Rules) (number clock : ℕ) (inputs : List Arrival) (input : Arrival) (list : List Binding)
    (at : ℕ) → number + length inputs ≡ at →
    run_from rules number clock (inputs ++ input ∷ []) list
    ≡ effect_then (run_from rules number clock inputs list)
    (step rules at (max (last_clock clock inputs) input.clock) input
    (run_from rules number clock inputs list).list)
grows rules number clock inputs input list at e =
    run_append rules number clock inputs (input ∷ []) list at e
    ∙ ap (effect_then (run_from rules number clock inputs list)) (ahead_none
    (step rules at (max (last_clock clock inputs) input.clock) input (run_from rules number clock inputs list).list))

pub clock_on : (clock : ℕ) (xs ys : List Arrival) → last_clock clock (xs ++ ys) ≡ last_clock (last_clock clock xs) ys
clock_on clock [] ys = refl
clock_on clock (x ∷ xs) ys = clock_on (max clock x.clock) xs ys

pub clock_more : (clock : ℕ) (inputs : List Arrival) (input : Arrival) → last_clock clock (inputs ++ input ∷ [])
    ≡ max (last_clock clock inputs) input.clock
clock_more clock inputs input = clock_on clock inputs (input ∷ [])

-- THE NUMBER OF OUTCOMES AND OF LEGS

-- An input has one outcome and at most two legs.
abbrev pub IsOfOne : RunEffect → Type 0
IsOfOne course = ((outcome : Outcome) × (course.outcomes ≡ outcome ∷ [])) × (length course.acts ≤ 2)

follow_one : (rules : Rules) (address : ℕ) (leg : Leg) (first : LegEffect) (end : End) →
    IsOfOne (with_second_leg rules address leg first end)
follow_one rules address leg first (ToOutside packet) = ((_, refl), omega arith)
follow_one rules address leg first (ToInside packet) = ((_, refl), omega arith)
follow_one rules address leg first (Dropped cause) = ((_, refl), omega arith)
follow_one rules address leg first (Onward place packet) = ((_, refl), omega arith)

pub step_one : (rules : Rules) (number now : ℕ) (input : Arrival) (list : List Binding) →
    IsOfOne (step rules number now input list)
step_one rules number now input list =
    of_step rules number now list IsOfOne (λ cause. ((_, refl), omega arith))
    (λ address side packet. let leg : Leg = first_leg number now side packet in
    let first : LegEffect = act rules address leg list in follow_one rules address leg first first.end) input

pub outcomes_long : (rules : Rules) (number clock : ℕ) (inputs : List Arrival) (list : List Binding) →
    length (run_from rules number clock inputs list).outcomes ≡ length inputs
outcomes_long rules number clock [] list = refl
outcomes_long rules number clock (i ∷ inputs) list =
    let now : ℕ = max clock i.clock in
    let first : RunEffect = step rules number now i list in
    rw (step_one rules number now i list).0.1
    (ap suc (outcomes_long rules (number + 1) now inputs first.list))

pub ran_long : (rules : Rules) (inputs : List Arrival) → length (run_result rules inputs).outcomes ≡ length inputs
unfolding run_result
ran_long rules inputs = outcomes_long rules 0 0 inputs (opening rules)

pub acts_few : (rules : Rules) (number clock : ℕ) (inputs : List Arrival) (list : List Binding) →
    length (run_from rules number clock inputs list).acts ≤ 2 * length inputs
acts_few rules number clock [] list = omega arith
acts_few rules number clock (i ∷ inputs) list =
    let now : ℕ = max clock i.clock in
    let first : RunEffect = step rules number now i list in
    let rest : RunEffect = run_from rules (number + 1) now inputs first.list in
    let one : length first.acts ≤ 2 = (step_one rules number now i list).1 in
    let more : length rest.acts ≤ 2 * length inputs = acts_few rules (number + 1) now inputs first.list in
    let all : length (first.acts ++ rest.acts) ≡ length first.acts + length rest.acts =
    length-append first.acts rest.acts in
    omega arith

-- The laws on which a dispatcher relies.
use Rattle.std.proofs.Common.{◌≡◌, ℕ, suc, ◌+◌, ◌-◌, ◌≤◌, List, [], ◌∷◌, ◌++◌, length, Option, Some, None, IfSome, refl, sym, ◌∙◌, ap, subst, arith, append_assoc}
use Rattle.std.specs.List.{slice_get}
use Rattle.napt_rules.specs.Prelude.{BindingUse, Binding, Each, bindings_at, LegEffect, act, Arrival, LegAct, RunEffect, outcome_of, with_second_leg, run_from, effect_from, LocalState, local_after, local_answer, local_replies, answers_at, Incoming, destination, kind, SourcesLeaveDestinations, ErrorsLeaveDestinations, Rules, pool_place}
use Rattle.napt_rules.specs.declared.{Leg.Leg, Answer.Answer, End.{End, TheVariants.{ToOutside, ToInside, Onward, Dropped}}, Outcome.Outcome}
use Rattle.napt_laws.proofs.Lists.{each_weaker, each_append}
use Rattle.napt_laws.specs.Dispatching.{IsFrontOf, RightAnswersAreTheRuns, RunsGrow, outcome_of_end, OutcomeIsGiven, AnswersGiveOutcomes, OnwardIsForeseen}
use Rattle.napt_laws.proofs.{LegInduction.each_leg, OneMoreInput.grows, RunsLocal.translators_answer_from, OnwardLegs.{OnwardBy, onward}}

-- PREFIXES

front_front : {X : Type 0} (xs ys zs : List X) → IsFrontOf xs ys → IsFrontOf ys zs → IsFrontOf xs zs
front_front xs ys zs h g = (h.0 ++ g.0, sym (append_assoc xs h.0 g.0) ∙ (ap (λ (l : List _). l ++ g.0) h.1 ∙ g.1))

-- The replies to a prefix of the legs are a prefix of the replies.
replies_front : (rules : Rules) (address : ℕ) (xs rest : List Leg) (own : LocalState) →
    IsFrontOf (local_replies rules address xs own) (local_replies rules address (xs ++ rest) own)
replies_front rules address [] rest own = (local_replies rules address rest own, refl)
replies_front rules address (x ∷ xs) rest own =
    let more : IsFrontOf (local_replies rules address xs (local_after rules address x own))
    (local_replies rules address (xs ++ rest) (local_after rules address x own)) = replies_front rules address xs rest
    (local_after rules address x own) in
    (more.0, ap (λ (l : List Answer). local_answer rules address x own ∷ l) more.1)

pub right_answers : RightAnswersAreTheRuns
right_answers rules state inputs address given taken front right =
    let course : RunEffect = effect_from rules state inputs in
    let own : LocalState = record { list = bindings_at address state.list; at = state.clock } in
    front_front taken (local_replies rules address given own) (answers_at address course.acts) right
    (subst (λ (l : List Answer). IsFrontOf (local_replies rules address given own) l)
    (ap (λ (ls : List Leg). local_replies rules address ls own) front.1
    ∙ translators_answer_from rules state inputs address)
    (replies_front rules address given front.0 own))

pub runs_grow : RunsGrow
runs_grow rules state inputs input = grows rules 0 state.clock inputs input state.list (length inputs) (omega arith)

-- OUTCOMES

-- The acts of a step have its number, and one that does not end onward gives its outcome.
abbrev TellsHere : ℕ → List Outcome → LegAct → Type 0
TellsHere number outcomes a = (a.leg.number ≡ number) × IfSome (outcome_of_end a.end) (λ o. outcomes ≡ o ∷ [])

end_told : (e : End) → IfSome (outcome_of_end e) (λ o. outcome_of e ∷ [] ≡ o ∷ [])
end_told (ToOutside packet) = refl
end_told (ToInside packet) = refl
end_told (Onward place packet) = tt
end_told (Dropped cause) = refl

follow_tells : (rules : Rules) (address : ℕ) (leg : Leg) (through : Option BindingUse) (list : List Binding)
    (end : End) →
    (let first : LegEffect = record { end = end; through = through; list = list } in
    Each (TellsHere leg.number (with_second_leg rules address leg first end).outcomes)
    (with_second_leg rules address leg first end).acts)
follow_tells rules address leg through list (ToOutside packet) = ((refl, refl), tt)
follow_tells rules address leg through list (ToInside packet) = ((refl, refl), tt)
follow_tells rules address leg through list (Dropped cause) = ((refl, refl), tt)
follow_tells rules address leg through list (Onward place packet) =
    let next : Leg = record leg { way = Incoming; packet = packet } in
    ((refl, tt), ((refl, end_told (act rules (destination packet).address next list).end), tt))

-- The same as `OutcomeIsGiven`, for outcomes that begin at a number.
abbrev TellsFrom : ℕ → List Outcome → LegAct → Type 0
TellsFrom number all a = (number ≤ a.leg.number)
    × IfSome (outcome_of_end a.end) (λ o. slice_get all (a.leg.number - number) ≡ Some o)

here_from : (number : ℕ) (first all : List Outcome) (a : LegAct) (o : Option Outcome) → a.leg.number ≡ number →
    IfSome o (λ x. first ≡ x ∷ []) → IfSome o (λ x. slice_get (first ++ all) (a.leg.number - number) ≡ Some x)
here_from number first all a None e h = tt
here_from number first all a (Some x) e h =
    let none : a.leg.number - number ≡ 0 = omega arith in
    rw (h, none) refl

later_from : (number : ℕ) (outcome : Outcome) (first all : List Outcome) (a : LegAct) (o : Option Outcome) →
    first ≡ outcome ∷ [] → number + 1 ≤ a.leg.number →
    IfSome o (λ x. slice_get all (a.leg.number - (number + 1)) ≡ Some x) →
    IfSome o (λ x. slice_get (first ++ all) (a.leg.number - number) ≡ Some x)
later_from number outcome first all a None one le h = tt
later_from number outcome first all a (Some x) one le h =
    let more : a.leg.number - number ≡ suc (a.leg.number - (number + 1)) = omega arith in
    rw (one, more) h

tells_from : (rules : Rules) (number clock : ℕ) (inputs : List Arrival) (list : List Binding) →
    Each (TellsFrom number (run_from rules number clock inputs list).outcomes)
    (run_from rules number clock inputs list).acts
tells_from rules = each_leg rules (λ number course. TellsHere number course.outcomes)
    (λ number course. TellsFrom number course.outcomes) (follow_tells rules) (λ number first rest one here later.
    let all : List Outcome = first.outcomes ++ rest.outcomes in
    each_append (TellsFrom number all) first.acts rest.acts
    (each_weaker (TellsHere number first.outcomes) (TellsFrom number all) (λ a h.
    let e : a.leg.number ≡ number = h.0 in
    (omega arith, here_from number first.outcomes rest.outcomes a (outcome_of_end a.end) h.0 h.1)) first.acts here)
    (each_weaker (TellsFrom (number + 1) rest.outcomes) (TellsFrom number all) (λ a h.
    let e : number + 1 ≤ a.leg.number = h.0 in
    (omega arith, later_from number one.0.0 first.outcomes rest.outcomes a (outcome_of_end a.end) one.0.1 h.0 h.1))
    rest.acts later))

told_from : (all : List Outcome) (a : LegAct) (o : Option Outcome) →
    IfSome o (λ x. slice_get all (a.leg.number - 0) ≡ Some x) → IfSome o (λ x. slice_get all a.leg.number ≡ Some x)
told_from all a None h = tt
told_from all a (Some x) h = let same : a.leg.number ≡ a.leg.number - 0 = omega arith in ap (slice_get all) same ∙ h

pub answers_tell : AnswersGiveOutcomes
answers_tell rules state inputs =
    let course : RunEffect = effect_from rules state inputs in
    each_weaker (TellsFrom 0 course.outcomes) (OutcomeIsGiven course.outcomes) (λ a h.
    told_from course.outcomes a (outcome_of_end a.end) h.1) course.acts
    (tells_from rules 0 state.clock inputs state.list)

-- LEGS THAT END ONWARD

pub foretold : SourcesLeaveDestinations → ErrorsLeaveDestinations → OnwardIsForeseen
foretold packets errors rules address leg list place packet side reads h =
    let goes : List ℕ → Type 0 = λ q. (destination q).address ≡ (destination leg.packet).address in
    let to : OnwardBy rules goes leg.way place packet = onward rules leg goes (packets side leg.packet reads)
    (errors side leg.packet reads) address list leg.way (kind leg.packet) refl place packet h in
    record { way = to.0; served = ap (pool_place rules) (sym to.2) ∙ to.1; kept = to.2 }

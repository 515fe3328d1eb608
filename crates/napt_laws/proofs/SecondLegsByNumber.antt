-- Second legs by the number of their input.
use Rattle.std.proofs.Common.{◌≡◌, ◌≢◌, ℕ, ◌+◌, ◌≤◌, ◌==◌, max, Bool, true, false, cond, Option, List, [], ◌∷◌, ◌++◌, length, map, Ok, refl, sym, ◌∙◌, ap, subst, arith, append_assoc, append-nil, eq-eqb, ne_eqb}
use Rattle.std.proofs.lemmas.List.{map-append, Elements.filter-append}
use Rattle.napt_rules.specs.Prelude.{BindingUse, Binding, Each, way_from, served_at, LegEffect, act, Arrival, admission, LegAct, RunEffect, with_second_leg, last_clock, State, effect_from, acts_at, legs_at, Way, Outgoing, destination, IsPacket, Rules}
use Rattle.napt_rules.specs.declared.{Leg.Leg, End.{End, TheVariants.{ToOutside, ToInside, Onward, Dropped}}}
use Rattle.napt_laws.{proofs.Lists.{each_weaker, each_append}, specs.Dispatching.{IsFrontOf, OnwardIsForeseen}}
use Rattle.napt_laws.specs.SecondLegs.{first_act, acts_of, acts_of_number, all_but_first, second_legs, second_of, HasItsSecondLeg, AnswersFillPlaces, PlacesStandForLegs}
use Rattle.napt_laws.proofs.{LegInduction.each_leg, OneInput.{acts_begin, grown}}

-- The legs of an address in two lists of acts are those of the first and then those of the second.
pub legs_append : (address : ℕ) (xs ys : List LegAct) → legs_at address (xs ++ ys) ≡ legs_at address xs
    ++ legs_at address ys
legs_append address xs ys = ap (map (λ (a : LegAct). a.leg))
    (filter-append (λ (a : LegAct). a.address == address) xs ys)
    ∙ map-append (λ (a : LegAct). a.leg) (acts_at address xs) (acts_at address ys)

numbered_all : (k : ℕ) (P : LegAct → Type 0) → ((a : LegAct) → P a → a.leg.number ≡ k) → (acts : List LegAct) →
    Each P acts →
    acts_of_number k acts ≡ acts
numbered_all k P is [] h = refl
numbered_all k P is (a ∷ acts) h =
    ap (λ b. cond b (a ∷ acts_of_number k acts) (acts_of_number k acts)) (eq-eqb a.leg.number k (is a h.0))
    ∙ ap (λ (xs : List LegAct). a ∷ xs) (numbered_all k P is acts h.1)

numbered_none : (k : ℕ) (P : LegAct → Type 0) → ((a : LegAct) → P a → a.leg.number ≢ k) → (acts : List LegAct) →
    Each P acts →
    acts_of_number k acts ≡ []
numbered_none k P isnt [] h = refl
numbered_none k P isnt (a ∷ acts) h =
    ap (λ b. cond b (a ∷ acts_of_number k acts) (acts_of_number k acts)) (ne_eqb a.leg.number k (isnt a h.0))
    ∙ numbered_none k P isnt acts h.1

-- ONE INPUT

-- The acts of one input have its number, and the end of an outgoing one says which others there are.
abbrev SecondsHere : ℕ → List LegAct → LegAct → Type 0
SecondsHere number acts a = (a.leg.number ≡ number) × (a.leg.way ≡ Outgoing →
    map (λ (x : LegAct). x.leg) (all_but_first acts) ≡ second_of a.leg a.end)

follow_seconds : (rules : Rules) (address : ℕ) (leg : Leg) (through : Option BindingUse) (list : List Binding)
    (end : End) → (let first : LegEffect = record { end = end; through = through; list = list } in
    Each (SecondsHere leg.number (with_second_leg rules address leg first end).acts)
    (with_second_leg rules address leg first end).acts)
follow_seconds rules address leg through list (ToOutside packet) = ((refl, λ way. refl), tt)
follow_seconds rules address leg through list (ToInside packet) = ((refl, λ way. refl), tt)
follow_seconds rules address leg through list (Dropped cause) = ((refl, λ way. refl), tt)
follow_seconds rules address leg through list (Onward place packet) = ((refl, λ way. refl), ((refl, λ way. cc), tt))

-- A WHOLE RUN

-- The same for acts whose numbers begin at a number.
abbrev SecondsFrom : ℕ → List LegAct → LegAct → Type 0
SecondsFrom number acts a = (number ≤ a.leg.number) × HasItsSecondLeg acts a

module _ (number : ℕ) (firsts rests : List LegAct) (here : Each (SecondsHere number firsts) firsts)
    (later : Each (SecondsFrom (number + 1) rests) rests) where
  of_first : acts_of_number number (firsts ++ rests) ≡ firsts
  of_first =
      filter-append (λ (a : LegAct). a.leg.number == number) firsts rests
      ∙ (ap (λ (xs : List LegAct). acts_of_number number firsts ++ xs)
      (numbered_none number (SecondsFrom (number + 1) rests)
      (λ a h. let le : number + 1 ≤ a.leg.number = h.0 in λ e. absurd (omega arith)) rests later)
      ∙ (append-nil (acts_of_number number firsts) ∙ numbered_all number (SecondsHere number firsts) (λ a h.
      h.0) firsts here))

  of_rest : (k : ℕ) → number + 1 ≤ k → acts_of_number k (firsts ++ rests) ≡ acts_of_number k rests
  of_rest k le =
      filter-append (λ (a : LegAct). a.leg.number == k) firsts rests
      ∙ ap (λ (xs : List LegAct). xs ++ acts_of_number k rests) (numbered_none k (SecondsHere number firsts) (λ a h.
      let e : a.leg.number ≡ number = h.0 in λ same. absurd (omega arith)) firsts here)

  first_seconded : (a : LegAct) → SecondsHere number firsts a → SecondsFrom number (firsts ++ rests) a
  first_seconded a h =
      let e : a.leg.number ≡ number = h.0 in (
        omega arith,
        λ way. ap (λ (k : ℕ). second_legs k (firsts ++ rests)) e
            ∙ (ap (λ (xs : List LegAct). map (λ (x : LegAct). x.leg) (all_but_first xs)) of_first ∙ h.1 way),
      )

  rest_seconded : (a : LegAct) → SecondsFrom (number + 1) rests a → SecondsFrom number (firsts ++ rests) a
  rest_seconded a h =
      let le : number + 1 ≤ a.leg.number = h.0 in (
        omega arith,
        λ way. ap (λ (xs : List LegAct). map (λ (x : LegAct). x.leg) (all_but_first xs)) (of_rest a.leg.number le)
            ∙ h.1 way,
      )

  seconds_more : Each (SecondsFrom number (firsts ++ rests)) (firsts ++ rests)
  seconds_more =
      each_append (SecondsFrom number (firsts ++ rests)) firsts rests
      (each_weaker (SecondsHere number firsts) (SecondsFrom number (firsts ++ rests)) first_seconded firsts here)
      (each_weaker (SecondsFrom (number + 1) rests) (SecondsFrom number (firsts ++ rests)) rest_seconded rests later)

pub answers_fill : AnswersFillPlaces
answers_fill rules state inputs =
    let course : RunEffect = effect_from rules state inputs in
    each_weaker (SecondsFrom 0 course.acts) (HasItsSecondLeg course.acts) (λ a h. h.1) course.acts
    (each_leg rules (λ number course. SecondsHere number course.acts) (λ number course. SecondsFrom number course.acts)
    (follow_seconds rules) (λ number first rest one. seconds_more number first.acts rest.acts) 0 state.clock inputs
    state.list)

-- ONE MORE INPUT

pub cond_map : (b : Bool) (a : LegAct) → map (λ (x : LegAct). x.leg) (cond b (a ∷ []) []) ≡ cond b (a.leg ∷ []) []
cond_map true a = refl
cond_map false a = refl

cond_none : (b : Bool) → cond b (let ls : List Leg = [] in ls) [] ≡ []
cond_none true = refl
cond_none false = refl

cond_two : (b c : Bool) (x y : LegAct) → map (λ (a : LegAct). a.leg)
    (cond b (x ∷ cond c (y ∷ []) []) (cond c (y ∷ []) []))
    ≡ cond b (x.leg ∷ []) [] ++ cond c (y.leg ∷ []) []
cond_two true true x y = refl
cond_two true false x y = refl
cond_two false true x y = refl
cond_two false false x y = refl

module _ (rules : Rules) (first_at : ℕ) (leg : Leg) (first : LegEffect) (to address : ℕ) where
  abbrev Both : End → Type 0
  Both e = legs_at address (with_second_leg rules first_at leg first e).acts ≡ cond (first_at == address) (leg ∷ []) []
      ++ cond (to == address) (second_of leg e) []

  single : cond (first_at == address) (leg ∷ []) [] ≡ cond (first_at == address) (leg ∷ []) []
      ++ cond (to == address) [] []
  single = sym (append-nil (cond (first_at == address) (leg ∷ []) []))
      ∙ ap (λ (ls : List Leg). cond (first_at == address) (leg ∷ []) [] ++ ls) (sym (cond_none (to == address)))

  legs_here : (e : End) → ((place : ℕ) (packet : List ℕ) → e ≡ Onward place packet → (destination packet).address
      ≡ to) → Both e
  legs_here (ToOutside packet) f = cond_map (first_at == address) _ ∙ single
  legs_here (ToInside packet) f = cond_map (first_at == address) _ ∙ single
  legs_here (Dropped cause) f = cond_map (first_at == address) _ ∙ single
  legs_here (Onward place packet) f =
      cond_two (first_at == address) ((destination packet).address == address) _ _
      ∙ ap (λ (d : ℕ). cond (first_at == address) (leg ∷ []) []
      ++ cond (d == address) (second_of leg (Onward place packet)) []) (f place packet refl)

at_seam : {X : Type 0} (P : X → Type 0) (xs : List X) (x : X) (rest : List X) → Each P (xs ++ x ∷ rest) → P x
at_seam P [] x rest h = h.0
at_seam P (y ∷ xs) x rest h = at_seam P xs x rest h.1

-- The first leg comes first.
head_by : (rules : Rules) (address : ℕ) (leg : Leg) (first : LegEffect) (e : End) → (tail : List LegAct)
    × ((with_second_leg rules address leg first e).acts
    ≡ record { address = address; leg = leg; end = first.end; through = first.through } ∷ tail)
head_by rules address leg first (ToOutside packet) = ([], refl)
head_by rules address leg first (ToInside packet) = ([], refl)
head_by rules address leg first (Dropped cause) = ([], refl)
head_by rules address leg first (Onward place packet) = (_, refl)

module _ (rules : Rules) (state : State) (done rest : List Arrival) (input : Arrival) (number now : ℕ)
    (long : length done ≡ number)
    (clock : max (last_clock state.clock done) input.clock ≡ now)
    (packet : List ℕ) (admitted : admission rules input ≡ Ok packet) where
  abbrev whole : List LegAct
  whole = (effect_from rules state ((done ++ input ∷ []) ++ rest)).acts

  abbrev before : RunEffect
  before = effect_from rules state done

  abbrev leg_of : Leg
  leg_of = record { number = number; now = now; way = way_from input.side; packet = packet }

  abbrev at_first : ℕ
  at_first = served_at rules (way_from input.side) packet

  pub acts_grow : (effect_from rules state (done ++ input ∷ [])).acts ≡ before.acts
      ++ acts_of rules at_first leg_of before.list
  acts_grow = ap (λ (r : RunEffect). r.acts) (grown rules state done rest input number now long clock (Ok packet)
      admitted)

  -- In the run over all inputs, the end of the first leg says which second leg there is.
  filled : way_from input.side ≡ Outgoing → second_legs number whole
      ≡ second_of leg_of (act rules at_first leg_of before.list).end
  filled way =
      let first : LegEffect = act rules at_first leg_of before.list in
      let head : (tail : List LegAct) × (acts_of rules at_first leg_of before.list
      ≡ first_act rules at_first leg_of before.list ∷ tail) = head_by rules at_first leg_of first first.end in
      let front : IsFrontOf (effect_from rules state (done ++ input ∷ [])).acts whole =
      acts_begin rules 0 state.clock (done ++ input ∷ []) rest state.list in
      let is : whole ≡ before.acts ++ (first_act rules at_first leg_of before.list ∷ (head.0 ++ front.0)) =
      sym front.1 ∙ (ap (λ (xs : List LegAct). xs ++ front.0)
      (acts_grow ∙ ap (λ (xs : List LegAct). before.acts ++ xs) head.1) ∙ append_assoc before.acts
      (first_act rules at_first leg_of before.list ∷ head.0) front.0) in
      at_seam (HasItsSecondLeg whole) before.acts (first_act rules at_first leg_of before.list) (head.0 ++ front.0)
      (subst (Each (HasItsSecondLeg whole)) is (answers_fill rules state ((done ++ input ∷ []) ++ rest))) way

  pub place_stands : OnwardIsForeseen → IsPacket packet → way_from input.side ≡ Outgoing → (address : ℕ) →
      legs_at address (effect_from rules state (done ++ input ∷ [])).acts
      ≡ legs_at address before.acts ++ (cond (at_first == address) (leg_of ∷ []) []
      ++ cond ((destination packet).address == address) (second_legs number whole) [])
  place_stands foretold is way address =
      let first : LegEffect = act rules at_first leg_of before.list in
      let goes : (place : ℕ) (q : List ℕ) → first.end ≡ Onward place q → (destination q).address
      ≡ (destination packet).address = λ place q h.
      (foretold rules at_first leg_of before.list place q is.0 is.1 h).kept in
      ap (legs_at address) acts_grow
      ∙ (legs_append address before.acts (acts_of rules at_first leg_of before.list)
      ∙ ap (λ (ls : List Leg). legs_at address before.acts ++ ls)
      (legs_here rules at_first leg_of first (destination packet).address address first.end goes
      ∙ ap (λ (ls : List Leg). cond (at_first == address) (leg_of ∷ []) []
      ++ cond ((destination packet).address == address) ls []) (sym (filled way))))

pub places_stand : OnwardIsForeseen → PlacesStandForLegs
places_stand foretold rules state done rest input packet side admitted is address =
    let number : ℕ = length done in
    let now : ℕ = max (last_clock state.clock done) input.clock in
    let all : List LegAct = (effect_from rules state ((done ++ input ∷ []) ++ rest)).acts in
    let way : way_from input.side ≡ Outgoing = ap way_from side in
    subst (λ (w : Way). legs_at address (effect_from rules state (done ++ input ∷ [])).acts
    ≡ legs_at address (effect_from rules state done).acts
    ++ (cond (served_at rules w packet == address) (record { number = number; now = now; way = w; packet = packet }
    ∷ []) [] ++ cond ((destination packet).address == address) (second_legs number all) [])) way
    (place_stands rules state done rest input number now refl refl packet admitted foretold is way address)

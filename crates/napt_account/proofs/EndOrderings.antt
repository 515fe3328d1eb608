-- Lists in order of end: two with the same elements are the same.
use Rattle.std.proofs.lemmas.{Grind.common_steps, Bool.Decides.nat_tests}
use Rattle.std.proofs.Common.{◌≡◌, ◌≢◌, ℕ, ◌⊎◌, inl, inr, Bool, true, false, ◌&&◌, ◌||◌, cond, List, [], ◌∷◌, ◌++◌, Option, Some, None, refl, sym, ◌∙◌, ap, subst, arith}
use Rattle.std.specs.Prelude.{filter, not, nat_lt}
use Rattle.napt_rules.specs.Prelude.{Each}
use Rattle.napt_account.specs.{declared.log.LogEntry.LogEntry, OpenEntries.Has, LogParts.{is_sooner, ends_first, placed, in_order_of_end}}

pub each_has : {X : Type 0} (P : X → Type 0) (xs : List X) (x : X) → Each P xs → Has xs x → P x
each_has P [] x each h = absurd h
each_has P (y ∷ ys) x each (inl is) = subst P is each.0
each_has P (y ∷ ys) x each (inr h) = each_has P ys x each.1 h

pub has_each : {X : Type 0} (P : X → Type 0) (xs : List X) → ((x : X) → Has xs x → P x) → Each P xs
has_each P [] h = tt
has_each P (y ∷ ys) h = (h y (inl refl), has_each P ys (λ x there. h x (inr there)))

pub has_filter : {X : Type 0} (p : X → Bool) (xs : List X) (x : X) → Has xs x → p x ≡ true → Has (filter p xs) x
has_filter p [] x h is = absurd h
has_filter p (y ∷ ys) x (inl e) is =
    subst (λ v. Has (cond v (y ∷ filter p ys) (filter p ys)) x) (sym (ap p e ∙ is)) (inl e)
has_filter p (y ∷ ys) x (inr h) is = elim (p y) as (λ v. Has (cond v (y ∷ filter p ys) (filter p ys)) x)
    [ true ↦ inr (has_filter p ys x h is) | false ↦ has_filter p ys x h is ]

pub filter_has : {X : Type 0} (p : X → Bool) (xs : List X) (x : X) → Has (filter p xs) x → Has xs x × (p x ≡ true)
filter_has p [] x h = absurd h
filter_has p (y ∷ ys) x h = elim (p y) as (λ v. p y ≡ v → Has (cond v (y ∷ filter p ys) (filter p ys)) x →
    Has (y ∷ ys) x × (p x ≡ true)) [
      | true ↦ λ e g. elim g [
        | inl is ↦ (inl is, sym (ap p is) ∙ e)
        | inr there ↦ let q = filter_has p ys x there in (inr q.0, q.1)
      ]
      | false ↦ λ e g. let q = filter_has p ys x g in (inr q.0, q.1)
    ] refl h

pub has_left : {X : Type 0} (xs ys : List X) (x : X) → Has xs x → Has (xs ++ ys) x
has_left [] ys x h = absurd h
has_left (y ∷ xs) ys x (inl is) = inl is
has_left (y ∷ xs) ys x (inr h) = inr (has_left xs ys x h)

pub has_parts : {X : Type 0} (xs ys : List X) (x : X) → Has (xs ++ ys) x → Has xs x ⊎ Has ys x
has_parts [] ys x h = inr h
has_parts (y ∷ xs) ys x (inl is) = inl (inl is)
has_parts (y ∷ xs) ys x (inr h) = elim (has_parts xs ys x h) [ inl here ↦ inl (inr here) | inr there ↦ inr there ]

-- LISTS IN AN ORDER

-- The relation holds between each element and all after it.
abbrev pub Along : {X : Type 0} → (X → X → Type 0) → List X → Type 0
Along R [] = Unit {0}
Along R (x ∷ xs) = Each (R x) xs × Along R xs

module _ {X : Type 0} (before : X → X → Bool) where
  abbrev pub InTurn : List X → Type 0
  InTurn = Along (λ x y. before x y ≡ true)

  -- Two such lists with the same elements are the same.
  pub same_turn : ((x y : X) → before x y ≡ true → before y x ≡ true → ⊥) → (xs ys : List X) → InTurn xs → InTurn ys →
      ((x : X) → Has xs x → Has ys x) → ((x : X) → Has ys x → Has xs x) → xs ≡ ys
  same_turn one_way [] [] s t f g = refl
  same_turn one_way [] (y ∷ ys) s t f g = absurd (g y (inl refl))
  same_turn one_way (x ∷ xs) [] s t f g = absurd (f x (inl refl))
  same_turn one_way (x ∷ xs) (y ∷ ys) s t f g =
      let head : x ≡ y = elim (f x (inl refl)) [
        | inl is ↦ sym is
        | inr there ↦ elim (g y (inl refl)) [
          | inl is ↦ is
          | inr also ↦ absurd (one_way x y (each_has (λ z. before x z ≡ true) xs y s.0 also)
              (each_has (λ z. before y z ≡ true) ys x t.0 there))
        ]
      ] in
      let into : (z : X) → Has xs z → Has ys z = λ z there. elim (f z (inr there)) [
        | inl is ↦ let h = subst (λ (w : X). before w z ≡ true) (head ∙ is)
            (each_has (λ w. before x w ≡ true) xs z s.0 there) in absurd (one_way z z h h)
        | inr also ↦ also
      ] in
      let back : (z : X) → Has ys z → Has xs z = λ z there. elim (g z (inr there)) [
        | inl is ↦ let h = subst (λ (w : X). before w z ≡ true) (sym head ∙ is)
            (each_has (λ w. before y w ≡ true) ys z t.0 there) in absurd (one_way z z h h)
        | inr also ↦ also
      ] in
      ap (λ (z : X). z ∷ xs) head ∙ ap (λ (zs : List X). y ∷ zs) (same_turn one_way xs ys s.1 t.1 into back)

-- THE ORDER

abbrev first_by : Option ℕ → Option ℕ → ℕ → ℕ → Bool
first_by a b m n = is_sooner a b || (not (is_sooner b a) && nat_lt m n)

not_both : (a b : Option ℕ) (m n : ℕ) → first_by a b m n ≡ true → first_by b a n m ≡ true → ⊥
not_both a b m n h k = grind (arith, common_steps, nat_tests)

either : (a b : Option ℕ) (m n : ℕ) → m ≢ n → first_by a b m n ≡ false → first_by b a n m ≡ true
either a b m n h k = grind (arith, common_steps, nat_tests)

pub first_then : (a b c : Option ℕ) (l m n : ℕ) → first_by a b l m ≡ true → first_by b c m n ≡ true →
    first_by a c l n ≡ true
first_then (Some a) (Some b) (Some c) l m n h g = grind (arith, nat_tests, h, g)
first_then (Some a) (Some b) None l m n h g = refl
first_then (Some a) None (Some c) l m n h g = cc
first_then (Some a) None None l m n h g = refl
first_then None (Some b) c l m n h g = cc
first_then None None (Some c) l m n h g = cc
first_then None None None l m n h g = grind (arith, nat_tests, h, g)

abbrev pub Differ : List LogEntry → Type 0
Differ = Along (λ x y. x.number ≢ y.number)

abbrev pub InOrder : List LogEntry → Type 0
InOrder = InTurn ends_first

-- AN INSERTION

pub placed_has : (l : LogEntry) (xs : List LogEntry) (x : LogEntry) → Has (placed l xs) x → (l ≡ x) ⊎ Has xs x
placed_has l [] x h = h
placed_has l (y ∷ ys) x h = elim (ends_first l y) as (λ v. Has (cond v (l ∷ y ∷ ys) (y ∷ placed l ys)) x →
    (l ≡ x) ⊎ ((y ≡ x) ⊎ Has ys x)) [
      | true ↦ λ g. g
      | false ↦ λ g. elim g [
        | inl is ↦ inr (inl is)
        | inr there ↦ elim (placed_has l ys x there) [ inl is ↦ inl is | inr also ↦ inr (inr also) ]
      ]
    ] h

pub has_placed : (l : LogEntry) (xs : List LogEntry) (x : LogEntry) → (l ≡ x) ⊎ Has xs x → Has (placed l xs) x
has_placed l [] x h = h
has_placed l (y ∷ ys) x h = elim (ends_first l y) as (λ v. Has (cond v (l ∷ y ∷ ys) (y ∷ placed l ys)) x) [
  | true ↦ h
  | false ↦ elim h [
    | inl is ↦ inr (has_placed l ys x (inl is))
    | inr there ↦ elim there [ inl is ↦ inl is | inr also ↦ inr (has_placed l ys x (inr also)) ]
  ]
]

placed_order : (l : LogEntry) (xs : List LogEntry) → InOrder xs → Each (λ y. l.number ≢ y.number) xs →
    InOrder (placed l xs)
placed_order l [] s differ = (tt, tt)
placed_order l (y ∷ ys) s differ = elim (ends_first l y) as (λ v. ends_first l y ≡ v →
    InOrder (cond v (l ∷ y ∷ ys) (y ∷ placed l ys))) [
      | true ↦ λ e. (
        (
          e,
          has_each (λ z. ends_first l z ≡ true) ys (λ z there.
              first_then l.entry.end y.entry.end z.entry.end l.number y.number z.number e
              (each_has (λ w. ends_first y w ≡ true) ys z s.0 there)),
        ),
        s,
      )
      | false ↦ λ e. (
        has_each (λ z. ends_first y z ≡ true) (placed l ys) (λ z there. elim (placed_has l ys z there) [
          | inl is ↦ subst (λ (w : LogEntry). ends_first y w ≡ true) is
              (either l.entry.end y.entry.end l.number y.number differ.0 e)
          | inr also ↦ each_has (λ w. ends_first y w ≡ true) ys z s.0 also
        ]),
        placed_order l ys s.1 differ.1,
      )
    ] refl

-- A LIST PUT IN ORDER

pub order_has : (xs : List LogEntry) (x : LogEntry) → Has (in_order_of_end xs) x → Has xs x
order_has [] x h = h
order_has (l ∷ xs) x h = elim (placed_has l (in_order_of_end xs) x h)
    [ inl is ↦ inl is | inr there ↦ inr (order_has xs x there) ]

pub has_order : (xs : List LogEntry) (x : LogEntry) → Has xs x → Has (in_order_of_end xs) x
has_order [] x h = h
has_order (l ∷ xs) x (inl is) = has_placed l (in_order_of_end xs) x (inl is)
has_order (l ∷ xs) x (inr there) = has_placed l (in_order_of_end xs) x (inr (has_order xs x there))

pub order_is : (xs : List LogEntry) → Differ xs → InOrder (in_order_of_end xs)
order_is [] differ = tt
order_is (l ∷ xs) differ = placed_order l (in_order_of_end xs) (order_is xs differ.1)
    (has_each (λ y. l.number ≢ y.number) (in_order_of_end xs) (λ y there.
    each_has (λ z. l.number ≢ z.number) xs y differ.0 (order_has xs y there)))

-- A list in order with the elements of another one is that one put in order.
pub is_order : (xs ys : List LogEntry) → InOrder xs → Differ ys → ((x : LogEntry) → Has xs x → Has ys x) →
    ((x : LogEntry) → Has ys x → Has xs x) → xs ≡ in_order_of_end ys
is_order xs ys s differ f g = same_turn ends_first
    (λ x y. not_both x.entry.end y.entry.end x.number y.number) xs (in_order_of_end ys) s (order_is ys differ)
    (λ x h. has_order ys x (f x h)) (λ x h. g x (order_has ys x h))

pub differ_filter : (p : LogEntry → Bool) (xs : List LogEntry) → Differ xs → Differ (filter p xs)
differ_filter p [] h = tt
differ_filter p (x ∷ xs) h = elim (p x) as (λ v. Differ (cond v (x ∷ filter p xs) (filter p xs))) [
  | true ↦ (
    has_each (λ y. x.number ≢ y.number) (filter p xs) (λ y there.
        each_has (λ z. x.number ≢ z.number) xs y h.0 (filter_has p xs y there).0),
    differ_filter p xs h.1,
  )
  | false ↦ differ_filter p xs h.1
]

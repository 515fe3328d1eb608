-- Rows of flows by last use.
use Rattle.std.proofs.lemmas.Grind.{common_steps}
use Rattle.std.proofs.Common.{◌≡◌, ◌≢◌, ℕ, zero, suc, ◌+◌, ◌-◌, ◌<◌, ◌≤◌, ◌⊎◌, inl, inr, Bool, true, false, ◌||◌, cond, List, [], ◌∷◌, ◌++◌, length, get_or, Option, Some, None, nat_lt, refl, sym, ◌∙◌, ap, arith, eqb, subst, is_some, IfSome, IfNone}
use Rattle.std.{specs.List.list_any, proofs.lemmas.{Bool.{cases_eq, cases_lt, true≢false, Decides.nat_tests}, List.{get_or_past, get_or_read, length_push}}}
use Rattle.std.{proofs.lemmas.Option.{same_Some, none-some, get_or_from_slice_get}, specs.Option.option_map}
use Rattle.napt_collections.specs.{declared.links.Links.Links, Links.{no_links, next, prev}}
use Rattle.napt_collections.proofs.Linked.{on_same, on_other, lowered, raised, row_out, less_out, row_in, less_in, under_in, over_in}
use Rattle.napt_rules.{specs.{declared.Flow.Flow, Prelude.{is_established, is_recent, is_live_flow, Timers}}, proofs.{Lists.any_weaker, Life.lived_flow}}
use Rattle.napt_binding.specs.Slots.{standing_flows, IsInSlot, NoneUsedAfter, row_of, EachOfRow, IsFirstUsed, IsLatest, is_recent_time}
use Rattle.napt_binding.{specs.TimedLinks.{flow_in, is_linked, most_links, AreLinksTimed}, proofs.{Slots.{any_stands, any_none}, LastUses.none_used}}

-- NODES

same_node : (flows : List (Option Flow)) (i : ℕ) → is_some (flow_in flows (i + 3 - 3)) ≡ is_some (flow_in flows i)
same_node flows i = let at : i + 3 - 3 ≡ i = omega arith in ap (λ (k : ℕ). is_some (flow_in flows k)) at

node_of : (flows : List (Option Flow)) (i : ℕ) (f : Flow) → flow_in flows i ≡ Some f → is_linked flows (i + 3) ≡ true
node_of flows i f h = let some = same_node flows i ∙ ap is_some h in grind (arith, nat_tests, some)

no_node : (flows : List (Option Flow)) (i : ℕ) → flow_in flows i ≡ None → is_linked flows (i + 3) ≡ false
no_node flows i h = let none = same_node flows i ∙ ap is_some h in grind (arith, nat_tests, none)

end_node : (flows : List (Option Flow)) (x : ℕ) → x < 3 → is_linked flows x ≡ true
end_node flows x lt = grind (arith, nat_tests, lt)

module _ (flows : List (Option Flow)) (links : List Links) (are : AreLinksTimed flows links) where
  linked_within : (x : ℕ) → is_linked flows x ≡ true → x < length links
  linked_within x l = grind (arith, common_steps, nat_tests, get_or_past, is_some)

  pub after_within : (i : ℕ) (f : Flow) → flow_in flows i ≡ Some f → next links (i + 3) < length links
  after_within i f h = linked_within (next links (i + 3))
      (are.row.onward (i + 3) (node_of flows i f h) (λ e. absurd (omega (arith, e)))).0

  pub end_within : (row : ℕ) → row < 2 → prev links (row + 1) < length links
  end_within row lt = linked_within (prev links (row + 1))
      (are.row.back (row + 1) (end_node flows (row + 1) (omega (arith, lt))) (λ e. absurd (omega (arith, e)))).0

-- A slot that is read and not empty has a flow.
pub flow_read : (flows : List (Option Flow)) (place : ℕ) (v : Option Flow) → place < length flows →
    v ≡ get_or flows place v → is_some v ≡ true → (f : Flow) × (flow_in flows place ≡ Some f)
flow_read flows place None lt read some = absurd (true≢false (sym some))
flow_read flows place (Some f) lt read some = (f, sym (get_or_read flows place (Some f) lt read None))

pub row_low : (flow : Flow) → row_of flow < 2
row_low flow = elim (is_established flow.marks) as (λ v. cond {A = ℕ} v 0 1 < 2)
    [ true ↦ omega arith | false ↦ omega arith ]

-- A SLOT CHANGES

module _ (flows after : List (Option Flow)) (links new_links : List Links) (place : ℕ) (o : Option Flow)
    (are : AreLinksTimed flows links) (others : (i : ℕ) → i ≢ place → flow_in after i ≡ flow_in flows i)
    (there : flow_in after place ≡ o) (as_many : length new_links ≡ length after + 3)
    (fits : length new_links ≤ most_links) where
  stay : (x : ℕ) → is_linked after x ≡ cond (eqb x (place + 3)) (is_some o) (is_linked flows x)
  stay x = elim (cases_eq x (place + 3)) [
    | inl e ↦
        let at : x - 3 ≡ place = omega (arith, e) in
        let is : is_some (flow_in after (x - 3)) ≡ is_some o =
        ap (λ (k : ℕ). is_some (flow_in after k)) at ∙ ap is_some there in
        let past : nat_lt x 3 ≡ false = grind (arith, nat_tests, e) in
        ap (λ v. v || is_some (flow_in after (x - 3))) past
        ∙ (is ∙ sym (on_same x (place + 3) (is_some o) (is_linked flows x) e))
    | inr ne ↦ elim (cases_lt x 3) [
      | inl lt ↦ end_node after x lt
          ∙ sym (on_other x (place + 3) (is_some o) (is_linked flows x) ne ∙ end_node flows x lt)
      | inr ge ↦
          let same : flow_in after (x - 3) ≡ flow_in flows (x - 3) = others (x - 3) (λ e. ne (omega (arith, e, ge))) in
          ap (λ (v : Option Flow). nat_lt x 3 || is_some v) same
          ∙ sym (on_other x (place + 3) (is_some o) (is_linked flows x) ne)
    ]
  ]

  -- After a slot was emptied, a flow in a slot was there before, and its slot is another.
  known : (i : ℕ) (f : Flow) → flow_in after i ≡ Some f → o ≡ None → (i ≢ place) × (flow_in flows i ≡ Some f)
  known i f h e =
      let ne : i ≢ place = λ z. none-some f (sym (ap (flow_in after) z ∙ (there ∙ e)) ∙ h) in
      (ne, sym (others i ne) ∙ h)

  -- The slot is emptied.
  module _ (was : Flow) (here : flow_in flows place ≡ Some was) (gone : o ≡ None)
      (nexts : (x : ℕ) → next new_links x
      ≡ cond (eqb x (prev links (place + 3))) (next links (place + 3)) (next links x))
      (prevs : (x : ℕ) → prev new_links x
      ≡ cond (eqb x (next links (place + 3))) (prev links (place + 3)) (prev links x)) where
    stay_out : (x : ℕ) → is_linked after x ≡ cond (eqb x (place + 3)) false (is_linked flows x)
    stay_out x = stay x ∙ ap (λ (v : Option Flow). cond (eqb x (place + 3)) (is_some v) (is_linked flows x)) gone

    less : (x y : ℕ) → is_linked after x ≡ true → is_linked after y ≡ true → are.rank x < are.rank y →
        lowered are.rank (place + 3) x < lowered are.rank (place + 3) y
    less = less_out 0 2 (is_linked flows) (is_linked after) (next links) (prev links) (next new_links) (prev new_links)
        are.rank (place + 3) are.row (node_of flows place was here) (λ e. absurd (omega (arith, e)))
        (λ e. absurd (omega (arith, e))) stay_out nexts prevs

    pub cleared : AreLinksTimed after new_links
    cleared = record {
      lengths = as_many;
      fits = fits;
      rank = lowered are.rank (place + 3);
      row = row_out 0 2 (is_linked flows) (is_linked after) (next links) (prev links) (next new_links) (prev new_links)
          are.rank (place + 3) are.row (node_of flows place was here) (λ e. absurd (omega (arith, e)))
          (λ e. absurd (omega (arith, e))) stay_out nexts prevs;
      ends = λ r lt. less r (r + 1) (end_node after r (omega (arith, lt))) (end_node after (r + 1) (omega (arith, lt)))
          (are.ends r lt);
      within = λ i f h.
          let w = are.within i f (known i f h gone).1 in
          let r = row_low f in (
            less (row_of f) (i + 3) (end_node after (row_of f) (omega (arith, r))) (node_of after i f h) w.0,
            less (i + 3) (row_of f + 1) (node_of after i f h) (end_node after (row_of f + 1) (omega (arith, r))) w.1,
          );
      rising = λ i j f g hf hg same le. are.rising i j f g (known i f hf gone).1 (known j g hg gone).1 same
          (elim (cases_lt (are.rank (j + 3)) (are.rank (i + 3))) [
            | inl lt ↦
                let l = less (j + 3) (i + 3) (node_of after j g hg) (node_of after i f hf) lt in
                absurd (omega (arith, l, le))
            | inr ge ↦ ge
          ]);
    }

  -- The slot is filled.
  module _ (flow : Flow) (empty : flow_in flows place ≡ None) (fresh : o ≡ Some flow)
      (late : NoneUsedAfter (standing_flows flows) flow.last)
      (nexts : (x : ℕ) → next new_links x
      ≡ cond (eqb x (place + 3)) (row_of flow + 1)
      (cond (eqb x (prev links (row_of flow + 1))) (place + 3) (next links x)))
      (prevs : (x : ℕ) → prev new_links x
      ≡ cond (eqb x (place + 3)) (prev links (row_of flow + 1))
      (cond (eqb x (row_of flow + 1)) (place + 3) (prev links x)))
    where
      abbrev last : ℕ
      last = row_of flow + 1

      abbrev over : ℕ → ℕ
      over = raised are.rank last (place + 3)

      stay_in : (x : ℕ) → is_linked after x ≡ cond (eqb x (place + 3)) true (is_linked flows x)
      stay_in x = stay x ∙ ap (λ (v : Option Flow). cond (eqb x (place + 3)) (is_some v) (is_linked flows x)) fresh

      at : is_linked flows last ≡ true
      at = let r = row_low flow in end_node flows last (omega (arith, r))

      not_first : last ≢ 0
      not_first e = absurd (omega (arith, e))

      more : (x y : ℕ) → is_linked flows x ≡ true → is_linked flows y ≡ true → are.rank x < are.rank y → over x < over y
      more = less_in 0 2 (is_linked flows) (is_linked after) (next links) (prev links) (next new_links) (prev new_links)
          are.rank last are.row (place + 3) at not_first (no_node flows place empty) stay_in nexts prevs

      under : (x : ℕ) → is_linked flows x ≡ true → are.rank x < are.rank last → over x < over (place + 3)
      under = under_in 0 2 (is_linked flows) (is_linked after) (next links) (prev links) (next new_links)
          (prev new_links) are.rank last are.row (place + 3) at not_first (no_node flows place empty) stay_in nexts
          prevs

      top : over (place + 3) < over last
      top = over_in 0 2 (is_linked flows) (is_linked after) (next links) (prev links) (next new_links)
          (prev new_links) are.rank last are.row (place + 3) at not_first (no_node flows place empty) stay_in nexts
          prevs

      it_is : (i : ℕ) (f : Flow) → i ≡ place → flow_in after i ≡ Some f → flow ≡ f
      it_is i f e h = same_Some flow f (sym fresh ∙ (sym there ∙ (sym (ap (flow_in after) e) ∙ h)))

      -- Every flow of the same row comes before the new one.
      latest : (i : ℕ) (f : Flow) → flow_in flows i ≡ Some f → row_of f ≡ row_of flow → over (i + 3) < over (place + 3)
      latest i f h same = under (i + 3) (node_of flows i f h)
          (subst (λ (k : ℕ). are.rank (i + 3) < are.rank (k + 1)) same (are.within i f h).1)

      within_in : (i : ℕ) (f : Flow) → flow_in after i ≡ Some f → (over (row_of f) < over (i + 3))
          × (over (i + 3) < over (row_of f + 1))
      within_in i f h = elim (cases_eq i place) [
        | inl e ↦
            let W : ℕ × ℕ → Type 0 = λ q. (over q.1 < over (q.0 + 3)) × (over (q.0 + 3) < over (q.1 + 1)) in
            let r = row_low flow in
            subst W (ap (λ (k : ℕ). let q : ℕ × ℕ = (k, row_of flow) in q) (sym e)
            ∙ ap (λ (g : Flow). let q : ℕ × ℕ = (i, row_of g) in q) (it_is i f e h))
            (under (row_of flow) (end_node flows (row_of flow) (omega (arith, r))) (are.ends (row_of flow) r), top)
        | inr ne ↦
            let was = sym (others i ne) ∙ h in
            let w = are.within i f was in
            let r = row_low f in
            let l = node_of flows i f was in (
              more (row_of f) (i + 3) (end_node flows (row_of f) (omega (arith, r))) l w.0,
              more (i + 3) (row_of f + 1) l (end_node flows (row_of f + 1) (omega (arith, r))) w.1,
            )
      ]

      rising_in : (i j : ℕ) (f g : Flow) → flow_in after i ≡ Some f → flow_in after j ≡ Some g → row_of f ≡ row_of g →
          over (i + 3) ≤ over (j + 3) → f.last ≤ g.last
      rising_in i j f g hf hg same le = elim (cases_eq j place) [
        | inl ej ↦
            let is : flow.last ≡ g.last = ap (λ (x : Flow). x.last) (it_is j g ej hg) in
            elim (cases_eq i place) [
              | inl ei ↦ let also : flow.last ≡ f.last = ap (λ (x : Flow). x.last) (it_is i f ei hf) in
                  omega (arith, is, also)
              | inr ni ↦ let b = none_used flows flow.last late i f (sym (others i ni) ∙ hf) in omega (arith, is, b)
            ]
        | inr nj ↦
            let wj = sym (others j nj) ∙ hg in
            elim (cases_eq i place) [
              | inl ei ↦
                  let row : row_of g ≡ row_of flow = sym same ∙ sym (ap row_of (it_is i f ei hf)) in
                  let lt = latest j g wj row in
                  let here : over (i + 3) ≡ over (place + 3) = ap (λ (k : ℕ). over (k + 3)) ei in
                  absurd (omega (arith, lt, le, here))
              | inr ni ↦
                  let wi = sym (others i ni) ∙ hf in
                  are.rising i j f g wi wj same (elim (cases_lt (are.rank (j + 3)) (are.rank (i + 3))) [
                    | inl lt ↦
                        let l = more (j + 3) (i + 3) (node_of flows j g wj) (node_of flows i f wi) lt in
                        absurd (omega (arith, l, le))
                    | inr ge ↦ ge
                  ])
            ]
      ]

      pub filled : AreLinksTimed after new_links
      filled = record {
        lengths = as_many;
        fits = fits;
        rank = over;
        row = row_in 0 2 (is_linked flows) (is_linked after) (next links) (prev links) (next new_links) (prev new_links)
            are.rank last are.row (place + 3) at not_first (no_node flows place empty) stay_in nexts prevs;
        ends = λ r lt. more r (r + 1) (end_node flows r (omega (arith, lt)))
            (end_node flows (r + 1) (omega (arith, lt)))
            (are.ends r lt);
        within = within_in;
        rising = rising_in;
      }

-- ONE MORE SLOT

more_links : (links : List Links) (x : ℕ) → get_or (links ++ no_links ∷ []) x no_links ≡ get_or links x no_links
more_links [] zero = refl
more_links [] (suc x) = refl
more_links (l ∷ links) zero = refl
more_links (l ∷ links) (suc x) = more_links links x

pushed_there : (flows : List (Option Flow)) (o : Option Flow) → flow_in (flows ++ o ∷ []) (length flows) ≡ o
pushed_there [] o = refl
pushed_there (z ∷ flows) o = pushed_there flows o

pushed_other : (flows : List (Option Flow)) (o : Option Flow) (i : ℕ) → i ≢ length flows →
    flow_in (flows ++ o ∷ []) i ≡ flow_in flows i
pushed_other [] o zero ne = absurd (ne refl)
pushed_other [] o (suc i) ne = refl
pushed_other (z ∷ flows) o zero ne = refl
pushed_other (z ∷ flows) o (suc i) ne = pushed_other flows o i (λ e. ne (ap suc e))

module _ (flows : List (Option Flow)) (links : List Links) (are : AreLinksTimed flows links) where
  abbrev pub longer : List Links
  longer = links ++ no_links ∷ []

  more_next : (x : ℕ) → next longer x ≡ next links x
  more_next x = ap (λ (l : Links). l.after) (more_links links x)

  more_prev : (x : ℕ) → prev longer x ≡ prev links x
  more_prev x = ap (λ (l : Links). l.before) (more_links links x)

  pub longer_within : (row : ℕ) → row < 2 → prev longer (row + 1) < length longer
  longer_within row low = grind (arith, common_steps, nat_tests, end_within, more, length_push, more_prev)

  module _ (new_links : List Links) (flow : Flow) (late : NoneUsedAfter (standing_flows flows) flow.last)
      (as_many : length new_links ≡ length flows + 4) (fits : length new_links ≤ most_links)
      (nexts : (x : ℕ) → next new_links x ≡ cond (eqb x (length flows + 3)) (row_of flow + 1)
      (cond (eqb x (prev longer (row_of flow + 1))) (length flows + 3) (next longer x)))
      (prevs : (x : ℕ) → prev new_links x ≡ cond (eqb x (length flows + 3)) (prev longer (row_of flow + 1))
      (cond (eqb x (row_of flow + 1)) (length flows + 3) (prev longer x))) where
    pub pushed : AreLinksTimed (flows ++ Some flow ∷ []) new_links
    pushed =
        let node : ℕ = length flows + 3 in
        let end : ℕ = row_of flow + 1 in
        let more = length_push flows (Some flow) in
        filled flows (flows ++ Some flow ∷ []) links new_links (length flows) (Some flow) are
        (pushed_other flows (Some flow)) (pushed_there flows (Some flow)) (omega (arith, as_many, more)) fits flow
        (get_or_past flows (length flows) None (omega arith)) refl late
        (λ x. nexts x ∙ (ap (λ (k : ℕ). cond (eqb x node) end (cond (eqb x k) node (next longer x))) (more_prev end)
        ∙ ap (λ (k : ℕ). cond (eqb x node) end (cond (eqb x (prev links end)) node k)) (more_next x)))
        (λ x. prevs x ∙ (ap (λ (k : ℕ). cond (eqb x node) k (cond (eqb x end) node (prev longer x))) (more_prev end)
        ∙ ap (λ (k : ℕ). cond (eqb x node) (prev links end) (cond (eqb x end) node k)) (more_prev x)))

-- THE ENDS OF A ROW

stands_in : (slots : List (Option Flow)) (i : ℕ) (f : Flow) → flow_in slots i ≡ Some f → IsInSlot slots i f
stands_in [] i f h = absurd (none-some f h)
stands_in (o ∷ slots) zero f h = ap Some h
stands_in (o ∷ slots) (suc i) f h = stands_in slots i f h

in_stands : (slots : List (Option Flow)) (i : ℕ) (f : Flow) → IsInSlot slots i f → flow_in slots i ≡ Some f
in_stands slots i f h = get_or_from_slice_get slots i (Some f) None h

slot_of : (flows : List (Option Flow)) (x : ℕ) → is_linked flows x ≡ true → 3 ≤ x → (f : Flow)
    × (flow_in flows (x - 3) ≡ Some f)
slot_of flows x l ge = grind (arith, common_steps, nat_tests, is_some)

module _ (flows : List (Option Flow)) (links : List Links) (are : AreLinksTimed flows links) where
  -- A node between the ends of a row is of that row.
  same_row : (k row r : ℕ) → k < 2 → row < 2 → are.rank k < r → r < are.rank (k + 1) → are.rank row < r →
      r < are.rank (row + 1) → k ≡ row
  same_row zero zero r lk lr a b c d = refl
  same_row zero (suc zero) r lk lr a b c d = absurd (omega (arith, b, c))
  same_row (suc zero) zero r lk lr a b c d = absurd (omega (arith, a, d))
  same_row (suc zero) (suc zero) r lk lr a b c d = refl
  same_row (suc (suc k)) row r lk lr a b c d = absurd (omega (arith, lk))
  same_row zero (suc (suc row)) r lk lr a b c d = absurd (omega (arith, lr))
  same_row (suc zero) (suc (suc row)) r lk lr a b c d = absurd (omega (arith, lr))

  no_end : (x row : ℕ) → row < 2 → are.rank row < are.rank x → are.rank x < are.rank (row + 1) → 3 ≤ x
  no_end zero zero lr a b = absurd (omega (arith, a))
  no_end (suc zero) zero lr a b = absurd (omega (arith, b))
  no_end (suc (suc zero)) zero lr a b = let e = are.ends 1 (omega arith) in absurd (omega (arith, b, e))
  no_end zero (suc zero) lr a b = let e = are.ends 0 (omega arith) in absurd (omega (arith, a, e))
  no_end (suc zero) (suc zero) lr a b = absurd (omega (arith, a))
  no_end (suc (suc zero)) (suc zero) lr a b = absurd (omega (arith, b))
  no_end (suc (suc (suc x))) row lr a b = omega arith
  no_end x (suc (suc row)) lr a b = absurd (omega (arith, lr))

  module _ (row : ℕ) (low : row < 2) where
    row_linked : is_linked flows row ≡ true
    row_linked = end_node flows row (omega (arith, low))

    over_linked : is_linked flows (row + 1) ≡ true
    over_linked = end_node flows (row + 1) (omega (arith, low))

    -- The node of a flow is not an end of a row.
    apart_from : (i x : ℕ) (f : Flow) → flow_in flows i ≡ Some f → x < 3 → are.rank (i + 3) ≢ are.rank x
    apart_from i x f h lt e =
        let same = are.row.apart (i + 3) x (node_of flows i f h) (end_node flows x lt) e in
        omega (arith, same, lt)

    between : (i : ℕ) (f : Flow) → flow_in flows i ≡ Some f → row_of f ≡ row → (are.rank row < are.rank (i + 3))
        × (are.rank (i + 3) < are.rank (row + 1))
    between i f h is = subst (λ (k : ℕ). (are.rank k < are.rank (i + 3)) × (are.rank (i + 3) < are.rank (k + 1))) is
        (are.within i f h)

    of_row : (i : ℕ) (f : Flow) → flow_in flows i ≡ Some f → are.rank row < are.rank (i + 3) →
        are.rank (i + 3) < are.rank (row + 1) → row_of f ≡ row
    of_row i f h a b = let w = are.within i f h in
        same_row (row_of f) row (are.rank (i + 3)) (row_low f) low w.0 w.1 a b

    first_next : (is_linked flows (next links row) ≡ true) × (are.rank (next links row) ≡ are.rank row + 1)
    first_next = are.row.onward row row_linked (λ e. absurd (omega (arith, e, low)))

    last_prev : (is_linked flows (prev links (row + 1)) ≡ true)
        × (are.rank (prev links (row + 1)) + 1 ≡ are.rank (row + 1))
    last_prev = are.row.back (row + 1) over_linked (λ e. absurd (omega (arith, e)))

    to_next : (v : Links) → v ≡ get_or links row v → v.after ≡ next links row
    to_next v read = let many = are.lengths in
        ap (λ (l : Links). l.after) (get_or_read links row v (omega (arith, low, many)) read no_links)

    to_prev : (v : Links) → v ≡ get_or links (row + 1) v → v.before ≡ prev links (row + 1)
    to_prev v read = let many = are.lengths in
        ap (λ (l : Links). l.before) (get_or_read links (row + 1) v (omega (arith, low, many)) read no_links)

    pub first_used_is : (v : Links) → v ≡ get_or links row v → (found : Option (ℕ × Flow)) →
        IfSome found (λ e. IsInSlot flows e.0 e.1 × (e.0 + 3 ≡ v.after)) →
        IfNone found ((i : ℕ) (f : Flow) → IsInSlot flows i f → i + 3 ≢ v.after) → IsFirstUsed row flows found
    first_used_is v read None some none = λ i f s is.
        let w = between i f (in_stands flows i f s) is in
        let n = first_next in
        let to = to_next v read in
        let x : ℕ = next links row in
        let ge : 3 ≤ x = no_end x row low (omega (arith, n.1)) (omega (arith, n.1, w.0, w.1)) in
        let g = slot_of flows x n.0 ge in
        none (x - 3) g.0 (stands_in flows (x - 3) g.0 g.1) (omega (arith, ge, to))
    first_used_is v read (Some (place, flow)) some none =
        let to = to_next v read in
        let at = in_stands flows place flow some.0 in
        let n = first_next in
        let r : are.rank (place + 3) ≡ are.rank row + 1 = ap are.rank (some.1 ∙ to) ∙ n.1 in
        let up = are.ends row low in
        let other = apart_from place (row + 1) flow at (omega (arith, low)) in
        let is : row_of flow ≡ row = of_row place flow at (omega (arith, r)) (omega (arith, r, up, other)) in (
          some.0,
          is,
          λ i f s same.
              let h = in_stands flows i f s in
              let w = between i f h same in
              are.rising place i flow f at h (is ∙ sym same) (omega (arith, r, w.0)),
        )

    pub latest_is : (v : Links) → v ≡ get_or links (row + 1) v → (found : Option (ℕ × Flow)) →
        IfSome found (λ e. IsInSlot flows e.0 e.1 × (e.0 + 3 ≡ v.before)) →
        IfNone found ((i : ℕ) (f : Flow) → IsInSlot flows i f → i + 3 ≢ v.before) →
        IsLatest row flows (option_map (λ e. e.1.last) found)
    latest_is v read None some none = λ i f s is.
        let w = between i f (in_stands flows i f s) is in
        let n = last_prev in
        let to = to_prev v read in
        let x : ℕ = prev links (row + 1) in
        let ge : 3 ≤ x = no_end x row low (omega (arith, n.1, w.0, w.1)) (omega (arith, n.1)) in
        let g = slot_of flows x n.0 ge in
        none (x - 3) g.0 (stands_in flows (x - 3) g.0 g.1) (omega (arith, ge, to))
    latest_is v read (Some (place, flow)) some none =
        let to = to_prev v read in
        let at = in_stands flows place flow some.0 in
        let n = last_prev in
        let r : are.rank (place + 3) + 1 ≡ are.rank (row + 1) = ap (λ (k : ℕ). are.rank k + 1) (some.1 ∙ to) ∙ n.1 in
        let up = are.ends row low in
        let other = apart_from place row flow at (omega (arith, low)) in
        let is : row_of flow ≡ row = of_row place flow at (omega (arith, r, up, other)) (omega (arith, r)) in (
          (place, flow, some.0, is, refl),
          λ i f s same.
              let h = in_stands flows i f s in
              let w = between i f h same in
              are.rising i place f flow h at (same ∙ sym is) (omega (arith, r, w.1)),
        )

-- LIVE FLOWS

-- The timer of the flows of a row, in seconds.
abbrev pub timer : Timers → ℕ → ℕ
timer timers zero = timers.established
timer timers (suc row) = timers.transitory

live_row : (timers : Timers) (now : ℕ) (f : Flow) → is_live_flow timers now f
    ≡ is_recent now f.last (timer timers (row_of f))
live_row timers now f = elim (is_established f.marks) as (λ v.
    is_recent now f.last (cond v timers.established timers.transitory)
    ≡ is_recent now f.last (timer timers (cond v 0 1))) [ true ↦ refl | false ↦ refl ]

pub live_in : (timers : Timers) (now row : ℕ) (f : Flow) → row_of f ≡ row → is_live_flow timers now f
    ≡ is_recent now f.last (timer timers row)
live_in timers now row f is = live_row timers now f ∙ ap (λ (r : ℕ). is_recent now f.last (timer timers r)) is

either_row : (f : Flow) → (row_of f ≡ 0) ⊎ (row_of f ≡ 1)
either_row f = elim (is_established f.marks) as (λ v. (cond {A = ℕ} v 0 1 ≡ 0) ⊎ (cond {A = ℕ} v 0 1 ≡ 1))
    [ true ↦ inl refl | false ↦ inr refl ]

module _ (timers : Timers) (now : ℕ) (slots : List (Option Flow)) where
  -- A flow of the row is live if its latest one is.

  pub one_live : (row : ℕ) (latest : Option ℕ) → IsLatest row slots latest →
      is_recent_time now (timer timers row) latest ≡ true →
      list_any (is_live_flow timers now) (standing_flows slots) ≡ true
  one_live row latest h k = grind (arith, common_steps, nat_tests, any_stands, live_in)

  none_live : (row : ℕ) (latest : Option ℕ) → IsLatest row slots latest →
      is_recent_time now (timer timers row) latest ≡ false →
      EachOfRow row slots (λ f. is_live_flow timers now f ≡ false)
  none_live row latest h k g j p q = grind (arith, common_steps, nat_tests, live_in)

  pub live_is : (established others : Option ℕ) → IsLatest 0 slots established → IsLatest 1 slots others →
      list_any (is_live_flow timers now) (standing_flows slots) ≡ (is_recent_time now timers.established established
      || is_recent_time now timers.transitory others)
  live_is established others is_e is_o =
      grind (arith, common_steps, nat_tests, one_live, any_none, either_row, none_live)

or_true : (a b : Bool) → b ≡ true → (a || b) ≡ true
or_true true b h = refl
or_true false b h = h

pub lives_until : (timers : Timers) (now : ℕ) (slots : List (Option Flow)) (established others : Option ℕ) (e o : ℕ) →
    IsLatest 0 slots established → IsLatest 1 slots others →
    list_any (is_live_flow timers now) (standing_flows slots) ≡ true →
    ((t : ℕ) → now < t → t ≤ e → is_recent_time t timers.established established ≡ true) →
    ((t : ℕ) → now < t → t ≤ o → is_recent_time t timers.transitory others ≡ true) →
    (t : ℕ) → (e < t → t ≤ o) → list_any (is_live_flow timers t) (standing_flows slots) ≡ true
lives_until timers now slots established others e o is_e is_o live lives_e lives_o t or = elim (cases_lt now t) [
  | inl later ↦ live_is timers t slots established others is_e is_o ∙ (elim (cases_lt e t) [
    | inl past ↦ or_true (is_recent_time t timers.established established) (is_recent_time t timers.transitory others)
        (lives_o t later (or past))
    | inr within ↦ ap (λ v. v || is_recent_time t timers.transitory others) (lives_e t later within)
  ])
  | inr within ↦ any_weaker (is_live_flow timers t) (is_live_flow timers now) (standing_flows slots)
      (lived_flow timers t now within) live
]

pub or_second : (r s a b l : Bool) → r ≡ a → r ≡ false → s ≡ b → l ≡ (a || b) → s ≡ l
or_second r s a b l e f g is = g ∙ sym (is ∙ ap (λ v. v || b) (sym e ∙ f))

-- NO FLOWS

abbrev pub ends : List Links
ends = record { before = 0; after = 1 } ∷ record { before = 0; after = 2 } ∷ record { before = 1; after = 2 } ∷ []

at_end : (x : ℕ) → is_linked [] x ≡ true → x < 3
at_end x l = elim (cases_lt x 3) [ inl lt ↦ lt | inr ge ↦ absurd (grind (arith, nat_tests, l, ge)) ]

onward_none : (x : ℕ) → is_linked [] x ≡ true → x ≢ 2 → (is_linked [] (next ends x) ≡ true) × (next ends x ≡ x + 1)
onward_none zero l nl = (refl, refl)
onward_none (suc zero) l nl = (refl, refl)
onward_none (suc (suc x)) l nl = let lt = at_end (suc (suc x)) l in absurd (nl (omega (arith, lt)))

back_none : (x : ℕ) → is_linked [] x ≡ true → x ≢ 0 → (is_linked [] (prev ends x) ≡ true) × (prev ends x + 1 ≡ x)
back_none zero l nf = absurd (nf refl)
back_none (suc zero) l nf = (refl, refl)
back_none (suc (suc zero)) l nf = (refl, refl)
back_none (suc (suc (suc x))) l nf = let lt = at_end (suc (suc (suc x))) l in absurd (omega (arith, lt))

pub no_flows : AreLinksTimed [] ends
no_flows = record {
  lengths = refl;
  fits = omega arith;
  rank = λ x. x;
  row = record {
    first_linked = refl;
    last_linked = refl;
    lowest = λ x l. omega arith;
    highest = λ x l. let lt = at_end x l in omega (arith, lt);
    onward = onward_none;
    back = back_none;
    apart = λ x y lx ly e. e;
  };
  ends = λ row lt. omega arith;
  within = λ i f h. absurd (none-some f h);
  rising = λ i j f g hf hg same le. absurd (none-some f hf);
}

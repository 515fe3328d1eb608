-- Rows of nodes, and the changes after which one is still a row.
use Rattle.std.proofs.lemmas.Grind.{common_steps}
use Rattle.std.proofs.Common.{◌≡◌, ◌≢◌, ℕ, ◌+◌, ◌-◌, ◌<◌, ◌≤◌, ◌⊎◌, inl, inr, Bool, true, false, cond, nat_lt, refl, sym, ◌∙◌, ap, arith, eqb, subst}
use Rattle.std.proofs.lemmas.Bool.{eq-eqb, cases_eq, true≢false, Decides.nat_tests}
use Rattle.napt_collections.specs.Links.{IsRow}

-- TESTS

pub on_same : {X : Type 0} (x y : ℕ) (a b : X) → x ≡ y → cond (eqb x y) a b ≡ a
on_same x y a b e = ap (λ v. cond v a b) (eq-eqb x y e)

pub on_other : {X : Type 0} (x y : ℕ) (a b : X) → x ≢ y → cond (eqb x y) a b ≡ b
on_other x y a b n = grind (arith, common_steps, nat_tests)

-- The ranks after p is unlinked: those above that of p are one less.
abbrev pub lowered : (ℕ → ℕ) → ℕ → ℕ → ℕ
lowered rank p x = cond (nat_lt (rank p) (rank x)) (rank x - 1) (rank x)

-- The ranks after n is linked before p: n gets that of p, and those from that of p on are one more.
abbrev pub raised : (ℕ → ℕ) → ℕ → ℕ → ℕ → ℕ
raised rank p n x = cond (eqb x n) (rank p) (cond (nat_lt (rank x) (rank p)) (rank x) (rank x + 1))

module _ (first last : ℕ) (linked after : ℕ → Bool) (next prev new_next new_prev rank : ℕ → ℕ) (p : ℕ)
    (is : IsRow first last linked next prev rank) where
  -- A NODE IS UNLINKED

  abbrev low : ℕ → ℕ
  low = lowered rank p

  module _ (here : linked p ≡ true) (not_first : p ≢ first) (not_last : p ≢ last)
      (stay : (x : ℕ) → after x ≡ cond (eqb x p) false (linked x))
      (nexts : (x : ℕ) → new_next x ≡ cond (eqb x (prev p)) (next p) (next x))
      (prevs : (x : ℕ) → new_prev x ≡ cond (eqb x (next p)) (prev p) (prev x)) where
    was : (x : ℕ) → after x ≡ true → (x ≢ p) × (linked x ≡ true)
    was x h = grind (arith, common_steps, nat_tests, on_same, on_other)

    still : (x : ℕ) → x ≢ p → linked x ≡ true → after x ≡ true
    still x ne l = stay x ∙ (on_other x p false (linked x) ne ∙ l)

    -- Another linked node is below p or above it.
    pub side : (x : ℕ) → after x ≡ true → ((rank x < rank p) × (low x ≡ rank x))
        ⊎ ((rank p < rank x) × (low x + 1 ≡ rank x))
    side x h = grind (arith, common_steps, nat_tests, was)

    up : (linked (next p) ≡ true) × (rank (next p) ≡ rank p + 1)
    up = is.onward p here not_last

    down : (linked (prev p) ≡ true) × (rank (prev p) + 1 ≡ rank p)
    down = is.back p here not_first

    apart_of : (x y : ℕ) → rank x ≢ rank y → x ≢ y
    apart_of x y ne e = ne (ap rank e)

    onward_out : (x : ℕ) → after x ≡ true → x ≢ last → (after (new_next x) ≡ true)
        × (low (new_next x) ≡ low x + 1)
    onward_out x h nl =
        let w = was x h in
        let G : ℕ → Type 0 = λ n. (after n ≡ true) × (low n ≡ low x + 1) in
        elim (cases_eq x (prev p)) [
          | inl e ↦
              let r : rank x ≡ rank (prev p) = ap rank e in
              let l = still (next p) (apart_of (next p) p (λ z. absurd (omega (arith, z, up.1)))) up.0 in
              subst G (sym (nexts x ∙ on_same x (prev p) (next p) (next x) e))
              (l, grind (arith, nat_tests, side x h, side (next p) l, r, up.1, down.1))
          | inr ne ↦
              let o = is.onward x w.1 nl in
              let other : next x ≢ p = λ z. let r : rank (next x) ≡ rank p = ap rank z in
              ne (is.apart x (prev p) w.1 down.0 (omega (arith, r, o.1, down.1))) in
              let l = still (next x) other o.0 in
              subst G (sym (nexts x ∙ on_other x (prev p) (next p) (next x) ne))
              (l, grind (arith, nat_tests, side x h, side (next x) l, o.1))
        ]

    back_out : (x : ℕ) → after x ≡ true → x ≢ first → (after (new_prev x) ≡ true) × (low (new_prev x) + 1
        ≡ low x)
    back_out x h nf =
        let w = was x h in
        let G : ℕ → Type 0 = λ n. (after n ≡ true) × (low n + 1 ≡ low x) in
        elim (cases_eq x (next p)) [
          | inl e ↦
              let r : rank x ≡ rank (next p) = ap rank e in
              let l = still (prev p) (apart_of (prev p) p (λ z. absurd (omega (arith, z, down.1)))) down.0 in
              subst G (sym (prevs x ∙ on_same x (next p) (prev p) (prev x) e))
              (l, grind (arith, nat_tests, side x h, side (prev p) l, r, up.1, down.1))
          | inr ne ↦
              let o = is.back x w.1 nf in
              let other : prev x ≢ p = λ z. let r : rank (prev x) ≡ rank p = ap rank z in
              ne (is.apart x (next p) w.1 up.0 (omega (arith, r, o.1, up.1))) in
              let l = still (prev x) other o.0 in
              subst G (sym (prevs x ∙ on_other x (next p) (prev p) (prev x) ne))
              (l, grind (arith, nat_tests, side x h, side (prev x) l, o.1))
        ]

    pub row_out : IsRow first last after new_next new_prev low
    row_out =
        let lf : after first ≡ true = still first (λ e. not_first (sym e)) is.first_linked in
        let ll : after last ≡ true = still last (λ e. not_last (sym e)) is.last_linked in
        record {
          first_linked = lf;
          last_linked = ll;
          lowest = λ x h. grind (arith, nat_tests, side x h, side first lf, is.lowest x (was x h).1, is.lowest p here);
          highest = λ x h.
              grind (arith, nat_tests, side x h, side last ll, is.highest x (was x h).1, is.highest p here);
          onward = onward_out;
          back = back_out;
          apart = λ x y hx hy e. is.apart x y (was x hx).1 (was y hy).1
              (grind (arith, nat_tests, side x hx, side y hy, e));
        }

    -- The order of the other nodes is unchanged.
    pub less_out : (x y : ℕ) → after x ≡ true → after y ≡ true → rank x < rank y → low x < low y
    less_out x y hx hy lt = grind (arith, nat_tests, side x hx, side y hy, lt)

  -- A NODE IS LINKED BEFORE p

  module _ (n : ℕ) (at : linked p ≡ true) (not_first : p ≢ first) (absent : linked n ≡ false)
      (stay : (x : ℕ) → after x ≡ cond (eqb x n) true (linked x))
      (nexts : (x : ℕ) → new_next x ≡ cond (eqb x n) p (cond (eqb x (prev p)) n (next x)))
      (prevs : (x : ℕ) → new_prev x ≡ cond (eqb x n) (prev p) (cond (eqb x p) n (prev x))) where
    abbrev up_in : ℕ → ℕ
    up_in = raised rank p n

    here_in : after n ≡ true
    here_in = stay n ∙ on_same n n true (linked n) refl

    not_n : (x : ℕ) → linked x ≡ true → x ≢ n
    not_n x l e = true≢false (sym l ∙ (ap linked e ∙ absent))

    still_in : (x : ℕ) → linked x ≡ true → after x ≡ true
    still_in x l = stay x ∙ (on_other x n true (linked x) (not_n x l) ∙ l)

    was_in : (x : ℕ) → x ≢ n → after x ≡ true → linked x ≡ true
    was_in x ne h = sym (stay x ∙ on_other x n true (linked x) ne) ∙ h

    pub rank_n : (x : ℕ) → x ≡ n → up_in x ≡ rank p
    rank_n x e = on_same x n (rank p) (cond (nat_lt (rank x) (rank p)) (rank x) (rank x + 1)) e

    -- A linked node is below p, or is p or above it.
    pub side_in : (x : ℕ) → linked x ≡ true → ((rank x < rank p) × (up_in x ≡ rank x))
        ⊎ ((rank p ≤ rank x) × (up_in x ≡ rank x + 1))
    side_in x l = grind (arith, common_steps, nat_tests, on_other, not_n)

    down_in : (linked (prev p) ≡ true) × (rank (prev p) + 1 ≡ rank p)
    down_in = is.back p at not_first

    onward_in : (x : ℕ) → after x ≡ true → x ≢ last → (after (new_next x) ≡ true) × (up_in (new_next x)
        ≡ up_in x + 1)
    onward_in x h nl =
        let G : ℕ → Type 0 = λ k. (after k ≡ true) × (up_in k ≡ up_in x + 1) in
        elim (cases_eq x n) [
          | inl e ↦ subst G (sym (nexts x ∙ on_same x n p (cond (eqb x (prev p)) n (next x)) e))
              (still_in p at, grind (arith, nat_tests, side_in p at, rank_n x e))
          | inr ne ↦
              let l = was_in x ne h in
              let to = nexts x ∙ on_other x n p (cond (eqb x (prev p)) n (next x)) ne in
              elim (cases_eq x (prev p)) [
                | inl e ↦
                    let r : rank x ≡ rank (prev p) = ap rank e in
                    subst G (sym (to ∙ on_same x (prev p) n (next x) e))
                    (here_in, grind (arith, nat_tests, side_in x l, rank_n n refl, r, down_in.1))
                | inr nb ↦
                    let o = is.onward x l nl in
                    let other : rank x + 1 ≢ rank p = λ z. nb (is.apart x (prev p) l down_in.0
                    (omega (arith, z, down_in.1))) in
                    subst G (sym (to ∙ on_other x (prev p) n (next x) nb))
                    (still_in (next x) o.0, grind (arith, nat_tests, side_in x l, side_in (next x) o.0, o.1, other))
              ]
        ]

    back_in : (x : ℕ) → after x ≡ true → x ≢ first → (after (new_prev x) ≡ true) × (up_in (new_prev x) + 1
        ≡ up_in x)
    back_in x h nf =
        let G : ℕ → Type 0 = λ k. (after k ≡ true) × (up_in k + 1 ≡ up_in x) in
        elim (cases_eq x n) [
          | inl e ↦ subst G (sym (prevs x ∙ on_same x n (prev p) (cond (eqb x p) n (prev x)) e)) (
            still_in (prev p) down_in.0,
            grind (arith, nat_tests, side_in (prev p) down_in.0, rank_n x e, down_in.1),
          )
          | inr ne ↦
              let l = was_in x ne h in
              let to = prevs x ∙ on_other x n (prev p) (cond (eqb x p) n (prev x)) ne in
              elim (cases_eq x p) [
                | inl e ↦
                    let r : rank x ≡ rank p = ap rank e in
                    subst G (sym (to ∙ on_same x p n (prev x) e))
                    (here_in, grind (arith, nat_tests, side_in x l, rank_n n refl, r))
                | inr np ↦
                    let o = is.back x l nf in
                    let other : rank x ≢ rank p = λ z. np (is.apart x p l at z) in
                    subst G (sym (to ∙ on_other x p n (prev x) np))
                    (still_in (prev x) o.0, grind (arith, nat_tests, side_in x l, side_in (prev x) o.0, o.1, other))
              ]
        ]

    apart_in : (x y : ℕ) → after x ≡ true → after y ≡ true → up_in x ≡ up_in y → x ≡ y
    apart_in x y hx hy e = grind (arith, common_steps, nat_tests, side_in, was_in, rank_n)

    bounds_in : (x : ℕ) → after x ≡ true → (up_in first ≤ up_in x) × (up_in x ≤ up_in last)
    bounds_in x h =
        let f = side_in first is.first_linked in
        let l = side_in last is.last_linked in
        elim (cases_eq x n) [
          | inl e ↦
              let r = rank_n x e in
              let low : rank first ≤ rank (prev p) = is.lowest (prev p) down_in.0 in
              let high : rank p ≤ rank last = is.highest p at in
              (grind (arith, nat_tests, f, r, low, down_in.1), grind (arith, nat_tests, l, r, high))
          | inr ne ↦
              let lx = was_in x ne h in (
                grind (arith, nat_tests, f, side_in x lx, is.lowest x lx),
                grind (arith, nat_tests, l, side_in x lx, is.highest x lx),
              )
        ]

    pub row_in : IsRow first last after new_next new_prev up_in
    row_in = grind (arith, common_steps, nat_tests, still_in, bounds_in, onward_in, back_in, apart_in)

    -- The order of the other nodes is unchanged, and n lies between them.
    pub less_in : (x y : ℕ) → linked x ≡ true → linked y ≡ true → rank x < rank y → up_in x < up_in y
    less_in x y lx ly lt = grind (arith, nat_tests, side_in x lx, side_in y ly, lt)

    pub under_in : (x : ℕ) → linked x ≡ true → rank x < rank p → up_in x < up_in n
    under_in x l lt = grind (arith, nat_tests, side_in x l, rank_n n refl, lt)

    pub over_in : up_in n < up_in p
    over_in = grind (arith, nat_tests, side_in p at, rank_n n refl)

-- Lists of bindings that are alike, and the changes after which they are still alike.
use Rattle.std.proofs.Common.{◌≡◌, ℕ, ◌≤◌, Bool, true, false, not, cond, List, [], ◌∷◌, ◌++◌, map, filter, find, Some, refl, sym, ◌∙◌, ap, subst, arith}
use Rattle.std.{specs.{List.{list_any, Sorted.IsPermutation}, Option.option_map}, proofs.lemmas.{List.{map-append, Elements.filter-append}, Bool.true≢false, Option.same_Some}}
use Rattle.std.proofs.lemmas.List.Sorted.{IsPermutation-refl, IsPermutation-sym, IsPermutation-trans, IsPermutation-map, IsPermutation-append, IsPermutation-append_comm, IsPermutation-cons}
use Rattle.napt_config.specs.declared.settings.Timers.{Timers}
use Rattle.napt_rules.specs.Prelude.{Binding, change_first, is_live, with_live_flows, purge, hold_ago, live_and_held, row, AreAlike}
use Rattle.napt_rules.specs.declared.Row.{Row}
use Rattle.napt_laws.proofs.{Lists.{filter_swap, filter_map}, UniqueSearches.{Once, any_found}, SeenElements.{ago_later, purge_taken}, Purges.purge_purge, Permutations.filter_moved}

-- TESTS OF ROWS

module _ {X Y : Type 0} (f : X → Y) (q : Y → Bool) where
  pub filter_of : (xs : List X) → map f (filter (λ x. q (f x)) xs) ≡ filter q (map f xs)
  filter_of [] = refl
  filter_of (x ∷ xs) = grind (arith, filter_of xs)

  pub any_of_all : (xs : List X) → list_any (λ x. q (f x)) xs ≡ list_any q (map f xs)
  any_of_all [] = refl
  any_of_all (x ∷ xs) = grind (arith, any_of_all xs)

  pub find_of : (xs : List X) → option_map f (find (λ x. q (f x)) xs) ≡ find q (map f xs)
  find_of [] = refl
  find_of (x ∷ xs) = grind (arith, find_of xs)

  pub once_of : (xs : List X) → Once (λ x. q (f x)) xs → Once q (map f xs)
  once_of [] o = tt
  once_of (x ∷ xs) o = ((λ h. sym (any_of_all xs) ∙ o.0 h), once_of xs o.1)

-- A CHANGED ELEMENT, of those that pass a test, comes after the others in some order
module _ {X : Type 0} (s t : X → Bool) (f : X → X) where
  abbrev others : List X → List X
  others xs = filter (λ x. not (t x)) xs

  others_all : (xs : List X) → list_any t xs ≡ false → others xs ≡ xs
  others_all [] h = refl
  others_all (x ∷ xs) h = grind (arith, others_all xs)

  pub changed_last : (xs : List X) (b : X) → find s xs ≡ Some b → t b ≡ true → Once t xs →
      IsPermutation (change_first s f xs) (others xs ++ f b ∷ [])
  changed_last [] b e h o = cc
  changed_last (x ∷ xs) b e h o = elim (s x) as (λ v. cond v (Some x) (find s xs) ≡ Some b →
      IsPermutation (cond v (f x ∷ xs) (x ∷ change_first s f xs)) (others (x ∷ xs) ++ f b ∷ [])) [
        | true ↦ λ g.
            let is : x ≡ b = same_Some x b g in
            let here : t x ≡ true = ap t is ∙ h in
            let rest : others (x ∷ xs) ≡ xs = ap (λ v. cond (not v) (x ∷ others xs) (others xs)) here
            ∙ others_all xs (o.0 here) in
            subst (λ (l : List X). IsPermutation (f x ∷ xs) (l ++ f b ∷ [])) (sym rest)
            (subst (λ (y : X). IsPermutation (f x ∷ xs) (xs ++ f y ∷ [])) is
            (IsPermutation-append_comm (f x ∷ []) xs))
        | false ↦ λ g. elim (t x) as (λ v. t x ≡ v → IsPermutation (x ∷ change_first s f xs)
            (cond (not v) (x ∷ others xs) (others xs) ++ f b ∷ [])) [
              | true ↦ λ k. absurd (true≢false (sym (any_found s t xs b g h) ∙ o.0 k))
              | false ↦ λ k. IsPermutation-cons x (change_first s f xs) (others xs ++ f b ∷ [])
                  (changed_last xs b g h o.1)
            ] refl
      ] e

-- CHANGES THAT KEEP LISTS ALIKE

module _ (timers : Timers) where
  pub purge_moved : (now : ℕ) (a b : List Binding) → IsPermutation a b →
      IsPermutation (purge timers now a) (purge timers now b)
  purge_moved now a b s = IsPermutation-map (with_live_flows timers now) _ _
      (filter_moved (is_live timers now) a b s)

  pub purge_joined : (now : ℕ) (a b : List Binding) →
      purge timers now (a ++ b) ≡ purge timers now a ++ purge timers now b
  purge_joined now a b = ap (map (with_live_flows timers now)) (filter-append (is_live timers now) a b)
      ∙ map-append (with_live_flows timers now) (filter (is_live timers now) a) (filter (is_live timers now) b)

  pub purge_some : (q : Row → Bool) (now : ℕ) (list : List Binding) →
      purge timers now (filter (λ b. q b.row) list) ≡ filter (λ b. q b.row) (purge timers now list)
  purge_some q now list = sym
      (filter_map (λ b. q b.row) (with_live_flows timers now) (filter (is_live timers now) list) (λ b. refl)
      ∙ ap (map (with_live_flows timers now)) (filter_swap (λ b. q b.row) (is_live timers now) list))

  module _ (now : ℕ) where
    pub alike_moved : (a b : List Binding) → IsPermutation a b → AreAlike timers now a b
    alike_moved a b s = record {
      live = purge_moved now a b s;
      held = λ t le. IsPermutation-map row _ _ (purge_moved t a b s);
    }

    pub alike_back : (a b : List Binding) → AreAlike timers now a b → AreAlike timers now b a
    alike_back a b alike = record {
      live = IsPermutation-sym _ _ alike.live;
      held = λ t le. IsPermutation-sym _ _ (alike.held t le);
    }

    pub alike_then : (a b c : List Binding) → AreAlike timers now a b → AreAlike timers now b c →
        AreAlike timers now a c
    alike_then a b c first rest = record {
      live = IsPermutation-trans _ _ _ first.live rest.live;
      held = λ t le. IsPermutation-trans _ _ _ (first.held t le) (rest.held t le);
    }

    pub alike_some : (q : Row → Bool) (a b : List Binding) → AreAlike timers now a b →
        AreAlike timers now (filter (λ x. q x.row) a) (filter (λ x. q x.row) b)
    alike_some q a b alike = record {
      live = rw (purge_some q now a, purge_some q now b) (filter_moved (λ x. q x.row) _ _ alike.live);
      held = λ t le. rw (
        purge_some q t a,
        purge_some q t b,
        filter_of row q (purge timers t a),
        filter_of row q (purge timers t b),
      ) (filter_moved q _ _ (alike.held t le));
    }

    pub alike_both : (a b c d : List Binding) → AreAlike timers now a b → AreAlike timers now c d →
        AreAlike timers now (a ++ c) (b ++ d)
    alike_both a b c d first rest = record {
      live = rw (purge_joined now a c, purge_joined now b d) (IsPermutation-append _ _ _ _ first.live rest.live);
      held = λ t le. rw (
        purge_joined t a c,
        purge_joined t b d,
        map-append row (purge timers t a) (purge timers t c),
        map-append row (purge timers t b) (purge timers t d),
      )
          (IsPermutation-append _ _ _ _ (first.held t le) (rest.held t le));
    }

    pub alike_taken : (a b : List Binding) → AreAlike timers now a b →
        AreAlike timers now (live_and_held timers now a) (live_and_held timers now b)
    alike_taken a b alike = record {
      live = rw (purge_taken timers now a, purge_taken timers now b) alike.live;
      held = λ t le. rw (
        purge_purge timers (hold_ago timers now) t le a,
        purge_purge timers (hold_ago timers now) t le b,
      ) (alike.held t le);
    }

    -- An element of both lists is removed, and one is added.
    pub alike_put : (q : Row → Bool) (a b : List Binding) → AreAlike timers now a b → (new : Binding) →
        (x y : List Binding) → IsPermutation x (filter (λ b. q b.row) a ++ new ∷ []) →
        IsPermutation y (filter (λ b. q b.row) b ++ new ∷ []) → AreAlike timers now x y
    alike_put q a b alike new x y s t =
        alike_then x _ y (alike_moved x _ s)
        (alike_then _ _ y (alike_both _ _ (new ∷ []) (new ∷ []) (alike_some q a b alike)
        (alike_moved (new ∷ []) (new ∷ []) (IsPermutation-refl (new ∷ []))))
        (alike_back y _ (alike_moved y _ t)))

  pub alike_later : (n m : ℕ) → n ≤ m → (a b : List Binding) → AreAlike timers n a b → AreAlike timers m a b
  alike_later n m le a b alike = record {
    live = subst (λ (l : List Binding). IsPermutation l (purge timers m b)) (purge_purge timers n m le a)
        (subst (IsPermutation (purge timers m (purge timers n a))) (purge_purge timers n m le b)
        (purge_moved m _ _ alike.live));
    held = λ t ago. let before = ago_later timers n m le in alike.held t (omega (arith, before, ago));
  }

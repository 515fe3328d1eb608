-- If no two bindings share an endpoint, no two of their rows do.
use Rattle.std.proofs.Common.{◌≡◌, ◌≢◌, ℕ, suc, ◌<◌, inl, inr, true, false, cond, List, [], ◌∷◌, ◌++◌, map, length, sym, ◌∙◌, ap, subst, arith, get_or, All, AllPairs, filter, flat_map, nat_le}
use Rattle.std.proofs.lemmas.{Bool.{cases_lt, eqb-true}, List.get_or_default}
use Rattle.std.proofs.lemmas.List.Elements.{All-nil, All-cons, All-head, All-tail, All-append, All-map, All-filter, filter_passes}
use Rattle.std.proofs.lemmas.List.{Kept.{AllPairs-cons, AllPairs-filter}, Sorted.All-permutation}
use Rattle.napt_rules.specs.Prelude.{Binding, is_at, bindings_at, is_live, with_live_flows, purge, opening, Arrival, row, rank, insert_row, sorted_rows, rows, RunEffect, run, last_clock, run_result, AreRowsApart, AreApart, RunsStayApart, Rules, RulesInvariant, Timers}
use Rattle.napt_rules.specs.declared.Row.{Row}
use Rattle.napt_laws.proofs.Orders.{put-moves, in_order-moves}

-- PAIRS OF A LIST

module _ {X : Type 0} (R : X → X → Type 0) where
  head_pairs : (x : X) (xs : List X) → AllPairs R (x ∷ xs) → All (R x) xs
  head_pairs x xs h k d lt = h 0 (suc k) d (omega arith) (omega arith)

  tail_pairs : (x : X) (xs : List X) → AllPairs R (x ∷ xs) → AllPairs R xs
  tail_pairs x xs h i j d lt within = h (suc i) (suc j) d (omega arith) (omega arith)

  joined : (xs ys : List X) → AllPairs R xs → AllPairs R ys → All (λ x. All (R x) ys) xs → AllPairs R (xs ++ ys)
  joined [] ys h g across = g
  joined (x ∷ xs) ys h g across =
      AllPairs-cons R x (xs ++ ys)
      (All-append (R x) xs ys (head_pairs x xs h) (All-head (λ z. All (R z) ys) x xs across))
      (joined xs ys (tail_pairs x xs h) g (All-tail (λ z. All (R z) ys) x xs across))

mapped : {X Y : Type 0} (R : Y → Y → Type 0) (f : X → Y) (xs : List X) → AllPairs (λ x y. R (f x) (f y)) xs →
    AllPairs R (map f xs)
mapped R f [] h = λ i j d lt within. absurd (omega arith)
mapped R f (x ∷ xs) h =
    AllPairs-cons R (f x) (map f xs) (All-map (R (f x)) f xs (head_pairs (λ x y. R (f x) (f y)) x xs h))
    (mapped R f xs (tail_pairs (λ x y. R (f x) (f y)) x xs h))

-- SORTED ROWS

turned : (a b : Row) → AreRowsApart a b → AreRowsApart b a
turned a b h = λ same. let p = h (sym same) in ((λ e. p.0 (sym e)), (λ e. p.1 (sym e)))

apart_put : (x : Row) (xs : List Row) → All (AreRowsApart x) xs → AllPairs AreRowsApart xs →
    AllPairs AreRowsApart (insert_row x xs)
apart_put x [] here h = AllPairs-cons AreRowsApart x [] here h
apart_put x (y ∷ xs) here h = elim (nat_le (rank x) (rank y)) as (λ v.
    AllPairs AreRowsApart (cond v (x ∷ y ∷ xs) (y ∷ insert_row x xs))) [
      | true ↦ AllPairs-cons AreRowsApart x (y ∷ xs) here h
      | false ↦ AllPairs-cons AreRowsApart y (insert_row x xs)
          (All-permutation (AreRowsApart y) (x ∷ xs) (insert_row x xs)
          (put-moves x xs) (All-cons (AreRowsApart y) x xs (turned x y (All-head (AreRowsApart x) y xs here))
          (head_pairs AreRowsApart y xs h)))
          (apart_put x xs (All-tail (AreRowsApart x) y xs here) (tail_pairs AreRowsApart y xs h))
    ]

apart_ordered : (xs : List Row) → AllPairs AreRowsApart xs → AllPairs AreRowsApart (sorted_rows xs)
apart_ordered [] h = h
apart_ordered (x ∷ xs) h =
    apart_put x (sorted_rows xs)
    (All-permutation (AreRowsApart x) xs (sorted_rows xs) (in_order-moves xs) (head_pairs AreRowsApart x xs h))
    (apart_ordered xs (tail_pairs AreRowsApart x xs h))

-- TWO ADDRESSES

module _ (list : List Binding) (apart : AllPairs AreApart list) (a b : ℕ) (differ : a ≢ b) where
  -- Two bindings at two places of the list.
  meet : (i j : ℕ) (d : Binding) → i < length list → j < length list → is_at a (get_or list i d).row ≡ true →
      is_at b (get_or list j d).row ≡ true → AreApart (get_or list i d) (get_or list j d)
  meet i j d i_in j_in at_a at_b =
      let same : i ≡ j → a ≡ b = λ e. sym (eqb-true _ _ at_a)
      ∙ (ap (λ (k : ℕ). (get_or list k d).row.external.address) e ∙ eqb-true _ _ at_b) in
      elim (cases_lt i j) [
        | inl lt ↦ apart i j d lt j_in
        | inr le ↦ elim (cases_lt j i) [
          | inl lt ↦ turned (row (get_or list j d)) (row (get_or list i d)) (apart j i d lt i_in)
          | inr ge ↦ absurd (differ (same (omega arith)))
        ]
      ]

  across : All (λ x. All (AreApart x) (bindings_at b list)) (bindings_at a list)
  across k d lt =
      All-filter (λ c. is_at a c.row) (λ x. is_at a x.row ≡ true → All (AreApart x) (bindings_at b list)) list
      (λ i e i_in at_a m f below. All-filter (λ c. is_at b c.row)
      (λ y. is_at b y.row ≡ true → AreApart (get_or list i e) y) list
      (λ j g j_in at_b. subst (AreApart (get_or list i e)) (get_or_default list j e g j_in)
      (meet i j e i_in j_in at_a (subst (λ (y : Binding). is_at b y.row ≡ true) (get_or_default list j g e j_in)
      at_b))) m f below (filter_passes (λ c. is_at b c.row) list m f below)) k d lt
      (filter_passes (λ c. is_at a c.row) list k d lt)

-- THE ROWS OF A POOL

module _ (timers : Timers) (now : ℕ) where
  all_rows : (P : Row → Type 0) (list : List Binding) → All (λ b. P (row b)) list → All P (rows timers now list)
  all_rows P list h =
      let live : List Binding = filter (is_live timers now) list in
      let seen : List Row = map row (purge timers now list) in
      All-permutation P seen (rows timers now list) (in_order-moves seen)
      (All-map P row (purge timers now list) (All-map (λ b. P (row b)) (with_live_flows timers now) live
      (All-filter (is_live timers now) (λ b. P (row b)) list h)))

  rows_of_one : (list : List Binding) → AllPairs AreApart list → AllPairs AreRowsApart (rows timers now list)
  rows_of_one list h =
      apart_ordered (map row (purge timers now list))
      (mapped AreRowsApart row (purge timers now list)
      (mapped AreApart (with_live_flows timers now) (filter (is_live timers now) list)
      (AllPairs-filter AreApart (is_live timers now) list h)))

  module _ (list : List Binding) (apart : AllPairs AreApart list) where
    abbrev rows_at : ℕ → List Row
    rows_at a = rows timers now (bindings_at a list)

    all_pool : (P : Row → Type 0) (pool : List ℕ) → All (λ b. All P (rows_at b)) pool → All P (flat_map rows_at pool)
    all_pool P [] h = All-nil P
    all_pool P (b ∷ pool) h =
        All-append P (rows_at b) (flat_map rows_at pool) (All-head (λ b. All P (rows_at b)) b pool h)
        (all_pool P pool (All-tail (λ b. All P (rows_at b)) b pool h))

    pool_apart : (pool : List ℕ) → AllPairs (λ a b. a ≢ b) pool → AllPairs AreRowsApart (flat_map rows_at pool)
    pool_apart [] differ = λ i j d lt within. absurd (omega arith)
    pool_apart (a ∷ pool) differ =
        joined AreRowsApart (rows_at a) (flat_map rows_at pool)
        (rows_of_one (bindings_at a list) (AllPairs-filter AreApart (λ b. is_at a b.row) list apart))
        (pool_apart pool (tail_pairs (λ a b. a ≢ b) a pool differ))
        (all_rows (λ x. All (AreRowsApart x) (flat_map rows_at pool)) (bindings_at a list) (λ k d lt.
        let x : Row = row (get_or (bindings_at a list) k d) in
        all_pool (AreRowsApart x) pool (λ m e below. let b : ℕ = get_or pool m e in
        all_rows (AreRowsApart x) (bindings_at b list)
        (across list apart a b (head_pairs (λ a b. a ≢ b) a pool differ m e below) k d lt))))

distinct : (xs : List ℕ) → ((i j : ℕ) → i < length xs → j < length xs → get_or xs i 0 ≡ get_or xs j 0 → i ≡ j) →
    AllPairs (λ a b. a ≢ b) xs
distinct xs h i j d lt within same =
    let e : i ≡ j = h i j (omega arith) within
    (get_or_default xs i 0 d (omega arith) ∙ (same ∙ get_or_default xs j d 0 within)) in
    absurd (omega arith)

pub rows_apart : RunsStayApart → (rules : Rules) → RulesInvariant rules → (inputs : List Arrival) →
    AllPairs AreRowsApart (run_result rules inputs).bindings
unfolding run_result
rows_apart apart rules keeps inputs =
    let course : RunEffect = run rules inputs (opening rules) in
    pool_apart rules.timers (last_clock 0 inputs) course.list (apart rules keeps inputs) rules.pool
    (distinct rules.pool keeps.pool.distinct)

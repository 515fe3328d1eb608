-- The first free place from a number's own on, else before it, is that of the first free candidate.
use Rattle.std.proofs.Common.{◌≡◌, ℕ, zero, suc, ◌+◌, ◌-◌, ◌*◌, ◌<◌, ◌≤◌, Bool, true, false, not, cond, List, [], ◌∷◌, ◌++◌, map, Option, Some, None, refl, sym, ◌∙◌, ap, subst, arith}
use Rattle.std.specs.{Prelude.find, List.range_with_len}
use Rattle.napt_collections.specs.BitSets.{IsFirstAbsent}
use Rattle.napt_table.specs.{declared.candidate_class.CandidateClass.CandidateClass, Classes.{member, from_place}, Places.number_place_in_map}

-- SEARCHES OF A RANGE OF NUMBERS

module _ (free : ℕ → Bool) (at : ℕ → ℕ) where
  pub find_counted : (first many j : ℕ) → j < many → free (at (first + j)) ≡ true →
      ((i : ℕ) → i < j → free (at (first + i)) ≡ false) → find free (map at (range_with_len first many))
      ≡ Some (at (first + j))
  find_counted first zero j lt here before = absurd (omega arith)
  find_counted first (suc many) zero lt here before =
      let z : first + 0 ≡ first = omega arith in
      ap (λ v. cond v (Some (at first)) (find free (map at (range_with_len (first + 1) many))))
      (ap (λ n. free (at n)) (sym z)
      ∙ here)
      ∙ ap (λ n. Some (at n)) (sym z)
  find_counted first (suc many) (suc j) lt here before =
      let e : first + suc j ≡ (first + 1) + j = omega arith in
      let z : first + 0 ≡ first = omega arith in
      ap (λ v. cond v (Some (at first)) (find free (map at (range_with_len (first + 1) many))))
      (ap (λ n. free (at n)) (sym z)
      ∙ before zero (omega arith))
      ∙ find_counted (first + 1) many j (omega arith) (ap (λ n. free (at n)) (sym e) ∙ here) (λ i less.
      let f : (first + 1) + i ≡ first + suc i = omega arith in ap (λ n. free (at n)) f
      ∙ before (suc i) (omega arith))
      ∙ ap (λ n. Some (at n)) (sym e)

  pub find_no_counted : (first many : ℕ) → ((i : ℕ) → i < many → free (at (first + i)) ≡ false) →
      find free (map at (range_with_len first many)) ≡ None
  find_no_counted first zero none = refl
  find_no_counted first (suc many) none =
      let z : first + 0 ≡ first = omega arith in
      ap (λ v. cond v (Some (at first)) (find free (map at (range_with_len (first + 1) many))))
      (ap (λ n. free (at n)) (sym z)
      ∙ none zero (omega arith))
      ∙ find_no_counted (first + 1) many (λ i less. let f : (first + 1) + i ≡ first + suc i = omega arith in
      ap (λ n. free (at n)) f ∙ none (suc i) (omega arith))

module _ (p : ℕ → Bool) where
  pub find_front : (xs ys : List ℕ) (x : ℕ) → find p xs ≡ Some x → find p (xs ++ ys) ≡ Some x
  find_front [] ys x e = cc
  find_front (y ∷ xs) ys x e = elim (p y) as (λ v. cond v (Some y) (find p xs) ≡ Some x →
      cond v (Some y) (find p (xs ++ ys)) ≡ Some x) [ true ↦ λ h. h | false ↦ λ h. find_front xs ys x h ] e

  pub find_rest : (xs ys : List ℕ) → find p xs ≡ None → find p (xs ++ ys) ≡ find p ys
  find_rest [] ys e = refl
  find_rest (y ∷ xs) ys e = elim (p y) as (λ v. cond v (Some y) (find p xs) ≡ None →
      cond v (Some y) (find p (xs ++ ys)) ≡ find p ys) [ true ↦ λ h. cc | false ↦ λ h. find_rest xs ys h ] e

-- THE FIRST FREE NUMBER OF A CLASS at adjacent places, from a place on

module _ (used : ℕ → Bool) (place : ℕ → ℕ) (class : CandidateClass)
    (place_is : (q : ℕ) → q < class.count → place (class.least + class.step * q) ≡ place class.least + q) (k : ℕ)
    (within : k ≤ class.count) where
  abbrev end : ℕ
  end = place class.least + class.count

  abbrev first : ℕ
  first = place class.least + k

  abbrev free : ℕ → Bool
  free n = not (used (place n))

  -- The numbers of the class from the place on; then those before it.
  abbrev upper : List ℕ
  upper = map (member class) (range_with_len k (class.count - k))

  abbrev lower : List ℕ
  lower = map (member class) (range_with_len 0 k)

  free_at : (q : ℕ) → q < class.count → free (member class q) ≡ not (used (place class.least + q))
  free_at q lt = ap (λ (n : ℕ). not (used n)) (place_is q lt)

  found_among : (from many a b x : ℕ) → from + many ≤ class.count → a ≡ place class.least + from → b ≡ a + many →
      IsFirstAbsent used a b (Some x) → find free (map (member class) (range_with_len from many))
      ≡ Some (member class (x - place class.least))
  found_among from many a b x fits a_is b_is h =
      let j : ℕ = x - a in
      let e : place class.least + (from + j) ≡ x = omega arith in
      find_counted free (member class) from many j (omega arith)
      (free_at (from + j) (omega arith) ∙ ap (λ (n : ℕ). not (used n)) e ∙ ap not h.2)
      (λ i less. free_at (from + i) (omega arith)
      ∙ ap not (h.3 (place class.least + (from + i)) (omega arith) (omega arith)))
      ∙ (let q : from + j ≡ x - place class.least = omega arith in ap (λ (n : ℕ). Some (member class n)) q)

  none_among : (from many a b : ℕ) → from + many ≤ class.count → a ≡ place class.least + from → b ≡ a + many →
      IsFirstAbsent used a b None → find free (map (member class) (range_with_len from many)) ≡ None
  none_among from many a b fits a_is b_is none =
      find_no_counted free (member class) from many (λ i less. free_at (from + i) (omega arith)
      ∙ ap not (none (place class.least + (from + i)) (omega arith) (omega arith)))

  none_near : IsFirstAbsent used first end None → find free upper ≡ None
  none_near none =
      none_among k (class.count - k) first end (omega arith) refl (omega arith) none

  -- A free number is found from the place on.
  pub found_near : (x : ℕ) → IsFirstAbsent used first end (Some x) →
      find free (upper ++ lower) ≡ Some (member class (x - place class.least))
  found_near x h =
      find_front free upper lower (member class (x - place class.least))
      (found_among k (class.count - k) first end x (omega arith) refl (omega arith) h)

  -- A free number is found before the place, and none from it on.
  pub found_far : (x : ℕ) → IsFirstAbsent used first end None → IsFirstAbsent used (place class.least) first (Some x) →
      find free (upper ++ lower) ≡ Some (member class (x - place class.least))
  found_far x none h =
      find_rest free upper lower (none_near none)
      ∙ found_among 0 k (place class.least) first x (omega arith) (omega arith) refl h

  pub found_nowhere : IsFirstAbsent used first end None → IsFirstAbsent used (place class.least) first None →
      find free (upper ++ lower) ≡ None
  found_nowhere none before =
      find_rest free upper lower (none_near none)
      ∙ none_among 0 k (place class.least) first (omega arith) (omega arith) refl before

-- A class of numbers with a step of 2 is at adjacent places of the bitmap.
pub two_apart : (class : CandidateClass) → class.step ≡ 2 → (q : ℕ) →
    number_place_in_map (class.least + class.step * q) ≡ number_place_in_map class.least + q
two_apart class apart q =
    let twice : class.step * q ≡ 2 * q = ap (λ (n : ℕ). n * q) apart in
    ap (λ (n : ℕ). number_place_in_map (class.least + n)) twice ∙ omega arith

-- The same, where the search starts at the place of the least number.
module _ (used : ℕ → Bool) (class : CandidateClass) (apart : class.step ≡ 2) (k : ℕ) (within : k ≤ class.count)
    (start : ℕ)
    (starts : start ≡ number_place_in_map class.least) where
  abbrev run_is : (q : ℕ) → q < class.count → number_place_in_map (class.least + class.step * q)
      ≡ number_place_in_map class.least + q
  run_is = λ q lt. two_apart class apart q

  abbrev free_number : ℕ → Bool
  free_number n = not (used (number_place_in_map n))

  moved : (from many : ℕ) (o : Option ℕ) → IsFirstAbsent used (start + from) (start + many) o →
      IsFirstAbsent used (number_place_in_map class.least + from) (number_place_in_map class.least + many) o
  moved from many o h = subst (λ (s : ℕ). IsFirstAbsent used (s + from) (s + many) o) starts h

  moved_first : (o : Option ℕ) → IsFirstAbsent used start (start + k) o →
      IsFirstAbsent used (number_place_in_map class.least) (number_place_in_map class.least + k) o
  moved_first o h = subst (λ (s : ℕ). IsFirstAbsent used s (s + k) o) starts h

  number_is : (x : ℕ) → Some (class.least + 2 * (x - start)) ≡ Some (member class (x - number_place_in_map class.least))
  number_is x = ap (λ (s : ℕ). Some (class.least + 2 * (x - s))) starts
      ∙ ap (λ (n : ℕ). Some (class.least + n * (x - number_place_in_map class.least))) (sym apart)

  pub near_choice : (x : ℕ) → IsFirstAbsent used (start + k) (start + class.count) (Some x) →
      Some (class.least + 2 * (x - start)) ≡ find free_number (from_place class k)
  near_choice x h =
      number_is x ∙ sym (found_near used number_place_in_map class run_is k within x (moved k class.count (Some x) h))

  pub far_choice : IsFirstAbsent used (start + k) (start + class.count) None → (x : ℕ) →
      IsFirstAbsent used start (start + k) (Some x) →
      Some (class.least + 2 * (x - start)) ≡ find free_number (from_place class k)
  far_choice none x h =
      number_is x
      ∙ sym (found_far used number_place_in_map class run_is k within x (moved k class.count None none)
      (moved_first (Some x) h))

  pub no_choice : IsFirstAbsent used (start + k) (start + class.count) None →
      IsFirstAbsent used start (start + k) None → None ≡ find free_number (from_place class k)
  no_choice none h =
      sym (found_nowhere used number_place_in_map class run_is k within (moved k class.count None none)
      (moved_first None h))

-- A CLASS WITHOUT GAPS

module _ (used : ℕ → Bool) (class : CandidateClass) (apart : class.step ≡ 1) (p : ℕ) (small : p ≤ class.count) where
  all_is : (q : ℕ) → q < class.count → class.least + class.step * q ≡ class.least + q
  all_is q lt = ap (λ n. class.least + n * q) apart ∙ omega arith

  number_at : (x : ℕ) → class.least ≤ x → x ≡ member class (x - class.least)
  number_at x le =
      let one : 1 * (x - class.least) ≡ class.step * (x - class.least) = ap (λ n. n * (x - class.least)) (sym apart) in
      omega (arith, le, one)

  pub near_number : (x : ℕ) → IsFirstAbsent used (class.least + p) (class.least + class.count) (Some x) →
      Some x ≡ find (λ n. not (used n)) (from_place class p)
  near_number x h =
      ap (λ (n : ℕ). Some n) (number_at x (omega (arith, h.0)))
      ∙ sym (found_near used (λ n. n) class all_is p small x h)

  pub far_number : IsFirstAbsent used (class.least + p) (class.least + class.count) None → (o : Option ℕ) →
      IsFirstAbsent used class.least (class.least + p) o → o ≡ find (λ n. not (used n)) (from_place class p)
  far_number none (Some x) h =
      ap (λ (n : ℕ). Some n) (number_at x (omega (arith, h.0)))
      ∙ sym (found_far used (λ n. n) class all_is p small x none h)
  far_number none None h = sym (found_nowhere used (λ n. n) class all_is p small none h)

-- The candidates in a block are the numbers of one parity, then those of the other, each a class from a place of it on
-- and then before it; or, where parity is free, all numbers of the block
use Rattle.std.proofs.Common.{◌≡◌, ℕ, zero, suc, ◌+◌, ◌-◌, ◌*◌, ◌/◌, ◌%◌, ◌<◌, ◌≤◌, ◌^◌, Bool, true, false, List, ◌∷◌, ◌++◌, map, Option, Some, None, refl, sym, ◌∙◌, ap, arith}
use Rattle.std.{specs.{Prelude.{find, IfSome}, List.range_with_len}, proofs.{lemmas.List.map-append, Math.Nat.{mod-eq_of_lt, add-mod_left}}}
use Rattle.napt_config.specs.{Rules.IsPortBlock, declared.settings.PortBlock.PortBlock}
use Rattle.napt_wire.specs.declared.{Endpoint.Endpoint, Protocol.Protocol}
use Rattle.napt_rules.specs.Prelude.{Each, numbers_below, every_other, each_one, place_in, block_from, candidates_in_block, candidates, NumberAssignment}
use Rattle.napt_laws.proofs.{Blocks.each_of_block, Classes.{small_number, each_candidate}}
use Rattle.napt_table.{specs.{declared.candidate_class.CandidateClass.CandidateClass, Classes.{member, from_place, class_in_block, class_of_block}}, proofs.Choices.{find_front, find_rest}}

-- RANGES

range_split : (a m n : ℕ) → range_with_len a (m + n) ≡ range_with_len a m ++ range_with_len (a + m) n
range_split a zero n =
    let z : a + 0 ≡ a = omega arith in
    let y : 0 + n ≡ n = omega arith in
    ap (range_with_len a) y ∙ ap (λ b. range_with_len b n) (sym z)
range_split a (suc m) n =
    let e : (a + 1) + m ≡ a + suc m = omega arith in
    let y : suc m + n ≡ suc (m + n) = omega arith in
    ap (range_with_len a) y
    ∙ ap (λ (l : List ℕ). a ∷ l)
    (range_split (a + 1) m n ∙ ap (λ b. range_with_len (a + 1) m ++ range_with_len b n) e)

map_alike : (f g : ℕ → ℕ) (a b m : ℕ) → ((k : ℕ) → k < m → f (a + k) ≡ g (b + k)) →
    map f (range_with_len a m) ≡ map g (range_with_len b m)
map_alike f g a b zero same = refl
map_alike f g a b (suc m) same =
    let x : a + 0 ≡ a = omega arith in
    let y : b + 0 ≡ b = omega arith in
    let first : f a ≡ g b = sym (ap f x) ∙ (same 0 (omega arith) ∙ ap g y) in
    let rest : map f (range_with_len (a + 1) m) ≡ map g (range_with_len (b + 1) m) =
    map_alike f g (a + 1) (b + 1) m (λ k lt.
    let p : (a + 1) + k ≡ a + suc k = omega arith in
    let q : (b + 1) + k ≡ b + suc k = omega arith in
    ap f p ∙ (same (suc k) (omega (arith, lt)) ∙ sym (ap g q))) in
    ap (λ (n : ℕ). n ∷ map f (range_with_len (a + 1) m)) first ∙ ap (λ (l : List ℕ). g b ∷ l) rest

-- A range that wraps around is two ranges.
map_wraps : (f g : ℕ → ℕ) (many j : ℕ) → j ≤ many → ((k : ℕ) → k < many - j → f (0 + k) ≡ g (j + k)) →
    ((k : ℕ) → k < j → f ((0 + (many - j)) + k) ≡ g (0 + k)) →
    map f (range_with_len 0 many) ≡ map g (range_with_len j (many - j)) ++ map g (range_with_len 0 j)
map_wraps f g many j le before after =
    let whole : many ≡ (many - j) + j = omega (arith, le) in
    ap (λ n. map f (range_with_len 0 n)) whole
    ∙ (ap (map f) (range_split 0 (many - j) j)
    ∙ (map-append f (range_with_len 0 (many - j)) (range_with_len (0 + (many - j)) j)
    ∙ (ap (λ (l : List ℕ). l ++ map f (range_with_len (0 + (many - j)) j)) (map_alike f g 0 j (many - j) before)
    ∙ ap (λ (l : List ℕ). map g (range_with_len j (many - j)) ++ l) (map_alike f g (0 + (many - j)) 0 j after))))

-- ONE PARITY

module _ (block : PortBlock) (is : IsPortBlock block) where
  pub turn_is : (place : ℕ) → place ≤ block.size →
      every_other block place ≡ from_place (class_in_block block (place % 2)) (place / 2)
  unfolding numbers_below
  turn_is place on =
      map_wraps (λ k. block.first + (place + 2 * k) % block.size) (member (class_in_block block (place % 2)))
      (block.size / 2) (place / 2) (omega (arith, on))
      (λ k lt.
      let less : place + 2 * (0 + k) < block.size = omega (arith, on, lt, is.size_even) in
      ap (λ n. block.first + n) (mod-eq_of_lt less) ∙ omega arith)
      (λ k lt.
      let over : place + 2 * ((0 + (block.size / 2 - place / 2)) + k) ≡ block.size + (place % 2 + 2 * k) =
      omega (arith, on, lt, is.size_even) in
      let less : place % 2 + 2 * k < block.size = omega (arith, on, lt, is.size_even) in
      ap (λ n. block.first + n % block.size) over
      ∙ (ap (λ n. block.first + n) (add-mod_left block.size (place % 2 + 2 * k) ∙ mod-eq_of_lt less) ∙ omega arith))

  -- The whole block, where parity is free.
  pub each_is : (place : ℕ) → place ≤ block.size → each_one block place ≡ from_place (class_of_block block) place
  unfolding numbers_below
  each_is place on =
      map_wraps (λ k. block.first + (place + k) % block.size) (member (class_of_block block)) block.size place on
      (λ k lt.
      let less : place + (0 + k) < block.size = omega (arith, lt) in
      ap (λ n. block.first + n) (mod-eq_of_lt less) ∙ omega arith)
      (λ k lt.
      let over : place + ((0 + (block.size - place)) + k) ≡ block.size + k = omega (arith, on) in
      let less : k < block.size = omega (arith, on, lt) in
      ap (λ n. block.first + n % block.size) over
      ∙ (ap (λ n. block.first + n) (add-mod_left block.size k ∙ mod-eq_of_lt less) ∙ omega arith))

  -- The same, for a class and a place that equal those of the block.
  pub each_by : (choosing : NumberAssignment) → choosing.keeps_parity ≡ false →
      (protocol : Protocol) (inside : Endpoint)
      (class : CandidateClass) → class ≡ class_of_block block → (place : ℕ) →
      place ≡ place_in choosing.seed choosing.keeps_parity block.size protocol inside → place < block.size →
      from_place class place ≡ candidates_in_block choosing block protocol inside
  each_by choosing free protocol inside class class_is place place_is within =
      ap (λ (k : CandidateClass). from_place k place) class_is
      ∙ (sym (each_is place (omega (arith, within)))
      ∙ (sym (ap (λ keeps. block_from keeps block place) free)
      ∙ ap (block_from choosing.keeps_parity block) place_is))

  module _ (free : ℕ → Bool) (place : ℕ) (within : place < block.size) where
    abbrev alike : List ℕ
    alike = from_place (class_in_block block (place % 2)) (place / 2)

    abbrev unlike : List ℕ
    unlike = from_place (class_in_block block ((place + 1) % 2)) ((place + 1) / 2)

    both : block_from true block place ≡ alike ++ unlike
    both =
        ap (λ (l : List ℕ). l ++ every_other block (place + 1)) (turn_is place (omega (arith, within)))
        ∙ ap (λ (l : List ℕ). alike ++ l) (turn_is (place + 1) (omega (arith, within)))

    -- A number of the place's parity is free.
    pub found_alike : (n : ℕ) → find free alike ≡ Some n → Some n ≡ find free (block_from true block place)
    found_alike n e = sym (ap (find free) both ∙ find_front free alike unlike n e)

    -- No number of the place's parity is free.
    pub found_unlike : find free alike ≡ None → find free unlike ≡ find free (block_from true block place)
    found_unlike e = sym (ap (find free) both ∙ find_rest free alike unlike e)

-- EACH CANDIDATE has 16 bits

pub each_small : (choosing : NumberAssignment) (block : Option PortBlock) → IfSome block IsPortBlock → (P : ℕ → Type 0)
    (protocol : Protocol) (inside : Endpoint) → ((n : ℕ) → n < 2 ^ 16 → P n) →
    Each P (candidates choosing block protocol inside)
each_small choosing None is P protocol inside holds =
    each_candidate P choosing protocol inside (λ n fits. holds n (small_number choosing.keeps_parity protocol
    inside.number n fits))
each_small choosing (Some block) is P protocol inside holds =
    each_of_block P choosing block is protocol inside (λ n of. holds n (omega (arith, of.last, is.high)))

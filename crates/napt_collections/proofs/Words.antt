-- The bits of one word, and its first clear bit.
use Rattle.std.proofs.lemmas.Grind.{common_steps}
use Rattle.std.proofs.Common.{◌≡◌, ◌≢◌, ℕ, ◌+◌, ◌-◌, ◌*◌, ◌%◌, ◌^◌, ◌<◌, ◌≤◌, max, true, false, refl, sym, ◌∙◌, ap, w64, arith, eqb, eqb-true}
use Rattle.std.{specs.{Prelude.◌==◌, Int.{bit_at, trailing_ones, RustNames.bit_or}}, proofs.lemmas.{Bool.Decides.nat_tests, Nat.{one_shl, or_lt}}}
use Rattle.std.proofs.lemmas.{Nat.Bits.{bit_at_or, bit_at_ones, bit_at_ones_above, bit_at-lt, bit_at-trailing_ones}, Bool.true≢false}
use Rattle.napt_collections.specs.BitSets.{has_bit, full_word}

pub is_set : (word i : ℕ) → bit_at word i ≡ 1 → has_bit word i ≡ true
is_set word i h = grind (arith, nat_tests)

pub is_clear : (word i : ℕ) → bit_at word i ≡ 0 → has_bit word i ≡ false
is_clear word i h = grind (arith, nat_tests)

-- A word with a clear bit is not full.
pub open_word : (word i : ℕ) → i < 64 → has_bit word i ≡ false → (word == full_word) ≡ false
open_word word i lt clear = elim (eqb word full_word) as (λ v. eqb word full_word ≡ v → (word == full_word) ≡ false) [
  | true ↦ λ e.
      absurd (true≢false (sym (is_set full_word i (bit_at_ones 64 i lt))
      ∙ (ap (λ (w : ℕ). has_bit w i) (sym (eqb-true word full_word e)) ∙ clear)))
  | false ↦ λ e. e
] refl

-- The word with all bits below `from` set.
abbrev pub filled : ℕ → ℕ → ℕ
filled word from = bit_or word (1 * 2 ^ from % 2 ^ 64 - 1)

module _ (word from : ℕ) (within : from < 64) where
  low_is : 1 * 2 ^ from % 2 ^ 64 - 1 ≡ 2 ^ from - 1
  low_is = ap (λ (n : ℕ). n - 1) (one_shl from 64 within)

  filled_is : (i : ℕ) → bit_at (filled word from) i ≡ max (bit_at word i) (bit_at (2 ^ from - 1) i)
  filled_is i = ap (λ (n : ℕ). bit_at (bit_or word n) i) low_is ∙ bit_at_or word (2 ^ from - 1) i

  pub filled_below : (i : ℕ) → i < from → bit_at (filled word from) i ≡ 1
  filled_below i lt = grind (arith, common_steps, nat_tests, bit_at_ones, bit_at-lt, filled_is)

  pub filled_from : (i : ℕ) → from ≤ i → bit_at (filled word from) i ≡ bit_at word i
  filled_from i le = grind (arith, common_steps, nat_tests, bit_at_ones_above, filled_is)

  -- If all bits of `filled` are set, the bits of the word from `from` on are set.
  pub all_set : filled word from ≡ 2 ^ 64 - 1 → (j : ℕ) → from ≤ j → j < 64 → has_bit word j ≡ true
  all_set e j le lt = is_set word j (sym (filled_from j le) ∙ ap (λ (n : ℕ). bit_at n j) e ∙ bit_at_ones 64 j lt)

  module _ (some : filled word from + 1 < 2 ^ 64) where
    abbrev k : ℕ
    k = trailing_ones w64 (filled word from)

    found : (k < 64) × (bit_at (filled word from) k ≡ 0) × ((i : ℕ) → i < k → bit_at (filled word from) i ≡ 1)
    found = bit_at-trailing_ones w64 (filled word from) some

    pub first_from : from ≤ k
    first_from = elim (Rattle.std.proofs.Common.ltb k from) as (λ v. Rattle.std.proofs.Common.ltb k from ≡ v →
        from ≤ k) [
          | true ↦ λ e. let lt : k < from = grind (arith, nat_tests) in let a = filled_below k lt in let b = found.1 in
              absurd (omega arith)
          | false ↦ λ e. grind (arith, nat_tests)
        ] refl

    pub first_is : (from ≤ k) × (k < 64) × (has_bit word k ≡ false) × ((j : ℕ) → from ≤ j → j < k → has_bit word j
        ≡ true)
    first_is = grind (arith, common_steps, first_from, found, is_clear, filled_from, is_set)

pub filled_small : (word from : ℕ) → word < 2 ^ 64 → filled word from < 2 ^ 64
filled_small word from lt = or_lt 64 word (1 * 2 ^ from % 2 ^ 64 - 1) lt (omega arith)

-- A set of numbers as bits: the number n is bit n modulo 64 of the word n / 64.
use Rattle.std.specs.{Prelude.{◌≡◌, ℕ, ◌-◌, ◌/◌, ◌%◌, ◌^◌, ◌<◌, ◌≤◌, ◌==◌, Bool, true, false, List, length, slice_index_or, Option, Some, None}, Int.bit_at}

abbrev pub has_bit : ℕ → ℕ → Bool
has_bit word i = bit_at word i == 1

-- Whether the set has the number n.
abbrev pub has : List ℕ → ℕ → Bool
has words n = has_bit (slice_index_or words (n / 64) 0) (n % 64)

-- The result is the first number k with from ≤ k < end that is not in the set, or `None` if there is no such number.
abbrev pub IsFirstAbsent : (ℕ → Bool) → ℕ → ℕ → Option ℕ → Type 0
IsFirstAbsent used from end None = (j : ℕ) → from ≤ j → j < end → used j ≡ true
IsFirstAbsent used from end (Some k) = (from ≤ k) × (k < end) × (used k ≡ false) × ((j : ℕ) → from ≤ j → j < k →
    used j ≡ true)

abbrev pub full_word : ℕ
full_word = 2 ^ 64 - 1

-- There are 1024 words, and bit i of `full` is set exactly if word i is full.
pub record MarksFullWords (words full : List ℕ) : Type 0 where
  pub many : length words ≡ 1024
  pub few : length full ≡ 16
  pub marks : (i : ℕ) → i < 1024 → has full i ≡ (slice_index_or words i 0 == full_word)

-- The bits of a list of words.
use Rattle.std.proofs.Common.{◌≡◌, ◌≢◌, ℕ, ◌+◌, ◌-◌, ◌*◌, ◌/◌, ◌%◌, ◌^◌, ◌<◌, ◌≤◌, true, false, List, length, get_or, set, Some, None, refl, sym, ◌∙◌, ap, arith, ltb, eqb-true, w64, replicate}
use Rattle.std.{specs.{Prelude.◌==◌, Int.{bit_at, trailing_ones}}, proofs.lemmas.{Bool.Decides.nat_tests, Grind.common_steps, List.length-replicate}}
use Rattle.std.proofs.lemmas.Nat.Bits.{bit_at-zero, bit_at_ones, bit_at-trailing_ones}
use Rattle.napt_collections.{specs.BitSets.{has_bit, has, IsFirstAbsent, MarksFullWords, full_word}, proofs.Words.{is_set, is_clear}}

pub same_default : (words : List ℕ) (i c d : ℕ) → i < length words → get_or words i c ≡ get_or words i d
same_default words i c d lt = grind (arith, common_steps)

-- The set has a number exactly if its word has its bit.
pub word_bit : (words : List ℕ) (i d j : ℕ) → i < length words → 64 * i ≤ j → j < 64 * i + 64 → has words j
    ≡ has_bit (get_or words i d) (j - 64 * i)
word_bit words i d j lt low high = grind (arith, common_steps, nat_tests, same_default)

module _ (words : List ℕ) (i d lo from : ℕ) (lt : i < length words) (within : from ≤ 64 * i + lo) (before : (j : ℕ) →
    from ≤ j → j < 64 * i + lo → has words j ≡ true) where
  -- The first clear bit of this word is the first absent number, if no number before it is absent.
  pub first_here : (k : ℕ) → IsFirstAbsent (has_bit (get_or words i d)) lo 64 (Some k) → IsFirstAbsent (has words)
      from (64 * length words) (Some (64 * i + k))
  first_here k h = grind (arith, common_steps, nat_tests, word_bit)

  pub none_here : IsFirstAbsent (has_bit (get_or words i d)) lo 64 None → (j : ℕ) → from ≤ j → j < 64 * (i + 1) →
      has words j ≡ true
  none_here h j le less = grind (arith, common_steps, nat_tests, word_bit)

-- FULL WORDS

module _ (words full : List ℕ) (m : MarksFullWords words full) where
  pub in_full_word : (i : ℕ) → i < 1024 → has full i ≡ true → (j : ℕ) → 64 * i ≤ j → j < 64 * i + 64 →
      has words j ≡ true
  in_full_word i lt h j low high =
      let e : get_or words i 0 ≡ full_word = eqb-true (get_or words i 0) full_word (sym (m.marks i lt) ∙ h) in
      word_bit words i 0 j (omega (arith, m.many)) low high
      ∙ (ap (λ (w : ℕ). has_bit w (j - 64 * i)) e ∙ is_set full_word (j - 64 * i)
      (bit_at_ones 64 (j - 64 * i) (omega arith)))

  -- The set has all numbers of a range of full words.
  pub in_full_words : (lo hi : ℕ) → hi ≤ 1024 → ((i : ℕ) → lo ≤ i → i < hi → has full i ≡ true) → (j : ℕ) →
      64 * lo ≤ j → j < 64 * hi → has words j ≡ true
  in_full_words lo hi top all j low high =
      in_full_word (j / 64) (omega arith) (all (j / 64) (omega arith) (omega arith)) j (omega arith) (omega arith)

  pub not_full : (i d : ℕ) → i < 1024 → has full i ≡ false → get_or words i d < 2 ^ 64 → get_or words i d + 1 < 2 ^ 64
  not_full i d lt h small = grind (arith, common_steps, nat_tests, same_default)

  -- The first clear bit of a word that is not full is the number of its trailing ones.
  pub first_open : (i d : ℕ) → i < 1024 → has full i ≡ false → get_or words i d < 2 ^ 64 →
      IsFirstAbsent (has_bit (get_or words i d)) 0 64 (Some (trailing_ones w64 (get_or words i d)))
  first_open i d lt h small =
      let w : ℕ = get_or words i d in
      let f : (trailing_ones w64 w < 64) × (bit_at w (trailing_ones w64 w) ≡ 0) × ((j : ℕ) → j < trailing_ones w64 w →
      bit_at w j ≡ 1) = bit_at-trailing_ones w64 w (not_full i d lt h small) in
      (omega arith, f.0, is_clear w (trailing_ones w64 w) f.1, λ j le less. is_set w j (f.2 j less))

-- THE MARKS STAY RIGHT

pub marked : (words full : List ℕ) (place w f d : ℕ) → place < 1024 → MarksFullWords words full → has_bit f (place % 64)
    ≡ (w == full_word) → ((i : ℕ) → i < 64 → i ≢ place % 64 → has_bit f i ≡ has_bit (get_or full (place / 64) d) i) →
    MarksFullWords (set words place w) (set full (place / 64) f)
marked words full place w f d lt m here others =
    grind (arith, common_steps, nat_tests, same_default)

-- THE EMPTY SET

pub empty_has : (n : ℕ) → has_bit 0 n ≡ false
empty_has n = is_clear 0 n (bit_at-zero n)

zero_at : (n i : ℕ) → get_or {A = ℕ} (replicate n 0) i 0 ≡ 0
zero_at n i = grind (arith, common_steps, nat_tests)

pub empty_has_none : (n : ℕ) (j : ℕ) → has (replicate n 0) j ≡ false
empty_has_none n j = ap (λ (w : ℕ). has_bit w (j % 64)) (zero_at n (j / 64)) ∙ empty_has (j % 64)

pub empty_marked : MarksFullWords (replicate 1024 0) (replicate 16 0)
empty_marked = record {
  many = length-replicate {A = ℕ} 1024 0;
  few = length-replicate {A = ℕ} 16 0;
  marks = λ i within. empty_has_none 16 i ∙ sym (ap (λ (w : ℕ). w == full_word) (zero_at 1024 i));
}

-- THE FIRST ABSENT NUMBER OVER ALL WORDS

module _ (words full : List ℕ) (m : MarksFullWords words full) (from d : ℕ) (within : from < 65536)
    (here : IsFirstAbsent (has_bit (get_or words (from / 64) d)) (from % 64) 64 None) where
  up_to_next : (j : ℕ) → from ≤ j → j < 64 * (from / 64 + 1) → has words j ≡ true
  up_to_next = grind (arith, common_steps, none_here)

  -- The set has all numbers up to `hi`, if the words before it are full.
  up_to : (hi : ℕ) → hi ≤ 1024 → ((i : ℕ) → from / 64 + 1 ≤ i → i < hi → has full i ≡ true) → (j : ℕ) → from ≤ j →
      j < 64 * hi → has words j ≡ true
  up_to hi top all j le less = elim (ltb j (64 * (from / 64 + 1))) as (λ v. ltb j (64 * (from / 64 + 1)) ≡ v →
      has words j ≡ true) [
        | true ↦ λ t. up_to_next j le (grind (arith, nat_tests))
        | false ↦ λ t. let past : 64 * (from / 64 + 1) ≤ j = grind (arith, nat_tests) in
            in_full_words words full m (from / 64 + 1) hi top all j past less
      ] refl

  pub over_none : IsFirstAbsent (has full) (from / 64 + 1) (64 * length full) None → IsFirstAbsent (has words)
      from 65536 None
  over_none none j le less = up_to 1024 (omega arith) (λ i low high. none i low (omega (arith, m.few))) j le
      (omega arith)

  pub over_some : (next e : ℕ) → IsFirstAbsent (has full) (from / 64 + 1) (64 * length full) (Some next) →
      get_or words next e < 2 ^ 64 →
      IsFirstAbsent (has words) from 65536 (Some (64 * next + trailing_ones w64 (get_or words next e)))
  over_some next e some small =
      let top : next < 1024 = omega (arith, m.few) in
      let f : IsFirstAbsent (has words) from (64 * length words)
      (Some (64 * next + trailing_ones w64 (get_or words next e))) =
      first_here words next e 0 from (omega (arith, m.many)) (omega arith) (λ j le less.
      up_to next (omega arith) (λ i low high. some.3 i low high) j le (omega arith))
      (trailing_ones w64 (get_or words next e)) (first_open words full m next e top some.2 small) in
      (f.0, omega (arith, f.1, m.many), f.2, f.3)

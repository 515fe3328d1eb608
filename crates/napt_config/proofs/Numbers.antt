-- Decimal numbers in texts.
use Rattle.std.proofs.lemmas.Grind.{common_steps}
use Rattle.std.proofs.Common.{◌≡◌, ℕ, ◌^◌, ◌<◌, ◌≤◌, true, ℤ, pos, negsuc, Some, List, [], ◌∷◌, length, get_or, None, Ok, Err, nat_lt, refl, subst, leb-true, inl, inr, arith, rules}
use Rattle.std.proofs.lemmas.{Bool.{cases_lt, and_parts, Decides.nat_tests}, Option.cond_some, Str.Parse.{IsNumeralModel, numerals_by_value, parse_digits}}
use Rattle.std.specs.{Char.is_ascii_digit, List.list_all, Str.Parse.{ParsesUnsigned, digits_value}}
use Rattle.toml.specs.Data.{Data}
use Rattle.napt_config.proofs.ReadingSteps.{ok_or_ok}
use Rattle.napt_config.specs.Prelude.{number_of, is_decimal, number_between, number_at_key}

-- `is_ascii_digit` and `digits_value` describe the digits that `parse` accepts.
pub digits_model : IsNumeralModel (λ ds. list_all is_ascii_digit ds ≡ true) (digits_value 10)
digits_model = numerals_by_value _ (search rules)

are_digits : (text : List ℕ) → is_decimal text ≡ true → list_all is_ascii_digit text ≡ true
are_digits text number = grind (arith, common_steps, and_parts, nat_lt, get_or)

some_digits : (text : List ℕ) → is_decimal text ≡ true → 0 < length text
some_digits [] number = cc
some_digits (byte ∷ rest) number = omega arith

too_large : (least most : ℕ) (text : List ℕ) → most < digits_value 10 text → number_of least most text ≡ None
unfolding number_of
too_large least most text large = grind (arith, nat_tests)

-- A number that `parse` refuses is read as none.
pub number_of-unread : {E : Type 0} (e : E) (least most : ℕ) (text : List ℕ) → most < 2 ^ 32 → is_decimal text ≡ true →
    ParsesUnsigned 32 10 text (Err e) → number_of least most text ≡ None
number_of-unread e least most text bound number refused =
    grind (arith, common_steps, parse_digits, digits_model, are_digits, cases_lt, some_digits, too_large)

-- An empty text is read as none.
pub number_of-nothing : (least most : ℕ) → number_of least most [] ≡ None
unfolding number_of
number_of-nothing least most = refl

-- A number that is read is in its range.
pub number_of-range : (least most n : ℕ) (text : List ℕ) → number_of least most text ≡ Some n → (least ≤ n) × (n ≤ most)
unfolding number_of
number_of-range least most n text is = grind (arith, common_steps, cond_some, and_parts, leb-true)

between-range : (least most n : ℕ) (z : ℤ) → number_between least most z ≡ Some n → (least ≤ n) × (n ≤ most)
between-range least most n (pos k) is =
    let (tests, same) = cond_some _ _ n is in
    let (low, high) = and_parts _ _ tests in
    let P : ℕ → Type 0 = λ k. (least ≤ k) × (k ≤ most) in
    subst P same (leb-true _ _ low, leb-true _ _ high)
between-range least most n (negsuc k) is = cc

pub number_at-range : (least most n : ℕ) (value : Data) → number_at_key least most value ≡ Ok n → (least ≤ n) ×
    (n ≤ most)
unfolding number_at_key
number_at-range least most n value is = grind (arith, common_steps, between-range, ok_or_ok)

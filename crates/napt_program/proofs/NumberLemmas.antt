-- `parse` reads the numbers in texts as the definition does.
use Rattle.std.proofs.lemmas.{Grind.common_steps, Bool.{Decides.nat_tests}}
use Rattle.std.proofs.lemmas.Fmt.{decimal-digits_value, decimal_is_IsNumeral, decimal_nonempty, first_decimal, parse-decimal}
use Rattle.std.proofs.lemmas.Str.Parse.{IsNumeralModel, numerals_by_value, parse_digits, parse_plain, digit_at}
use Rattle.std.proofs.Common.{◌≡◌, ◌∙◌, ℕ, ◌<◌, ◌≤◌, ◌^◌, true, false, nat_lt, ◌&&◌, List, slice_index, decimal, Ok, Err, ap, arith, rules, sym, subst}
use Rattle.std.specs.{Char.is_ascii_digit, List.list_all, Str.Parse.{ParsesUnsigned, digits_value}}
use Rattle.std.specs.declared.num.ParseIntError.{ParseIntError}
use Rattle.napt_program.specs.CommandLine.{seconds_of}

digits_model : IsNumeralModel (λ ds. list_all is_ascii_digit ds ≡ true) (digits_value 10)
digits_model = numerals_by_value _ (search rules)

pub seconds_read : (text : List ℕ) (n : ℕ) → ParsesUnsigned {E = ParseIntError} 32 10 text (Ok n) → n ≡ seconds_of text
seconds_read text n read = grind (arith, common_steps, nat_tests, digits_model, parse_digits)

pub seconds_unread : (text : List ℕ) (e : ParseIntError) → ParsesUnsigned 32 10 text (Err e) → 0 ≡ seconds_of text
seconds_unread text e refused = grind (arith, common_steps, nat_tests, digits_model, parse_digits)

-- A number above 0 begins with a digit from 1 to 9.
first_digit : (text : List ℕ) (n : ℕ) → 0 < n → n < 2 ^ 64 → text ≡ decimal n
    → (48 < slice_index text 0) × (slice_index text 0 ≤ 57)
first_digit text n some small is =
    subst (λ l. (48 < slice_index l 0) × (slice_index l 0 ≤ 57)) (sym is) (
      first_decimal n some small,
      (digit_at (decimal n) 0 (decimal_is_IsNumeral n small).0.1 (decimal_nonempty n small)).1,
    )

-- The number that `parse` reads from a text that begins so is the text's number in decimal.
pub number_read : (text : List ℕ) (n : ℕ) → ParsesUnsigned {E = ParseIntError} 64 10 text (Ok n)
    → 48 < slice_index text 0 → slice_index text 0 < 58 → text ≡ decimal n
number_read text n read low high =
    let digits = parse_plain digits_model {E = ParseIntError} 64 text (Ok n) read (omega (arith, low)) in
    sym (decimal-digits_value digits_model text digits.0.0 digits.0.1 (λ e. absurd (omega (arith, low, e))) digits.0.2)
    ∙ ap decimal (sym digits.1)

-- Each number in decimal is read.
pub number_again : (text : List ℕ) (n m : ℕ) → m < 2 ^ 64 → text ≡ decimal m
    → ParsesUnsigned {E = ParseIntError} 64 10 text (Ok n) → n ≡ m
number_again text n m small is read =
    grind (arith, common_steps, nat_tests, parse-decimal {E = ParseIntError} 64 m text (Ok n) small small is read)

pub number_unread : (text : List ℕ) (e : ParseIntError) (m : ℕ) → m < 2 ^ 64 → text ≡ decimal m
    → ParsesUnsigned 64 10 text (Err e) → 0 ≡ m
number_unread text e m small is read =
    grind (arith, common_steps, nat_tests, parse-decimal {E = ParseIntError} 64 m text (Err e) small small is read)

pub no_number : (text : List ℕ) (m : ℕ) → 0 < m → m < 2 ^ 64 → text ≡ decimal m
    → (nat_lt 48 (slice_index text 0) && nat_lt (slice_index text 0) 58) ≡ false → 0 ≡ m
no_number text m some small is begins = grind (arith, common_steps, nat_tests, first_digit text m some small is)

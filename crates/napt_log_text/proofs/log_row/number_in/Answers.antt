-- number_in: a number that was written is read back, and an empty field is read as empty.
use Rattle.std.proofs.lemmas.{Grind.common_steps, Bool.Decides.nat_tests}
use Rattle.std.proofs.Common.{ℕ, ◌≡◌, ◌==◌, ◌∙◌, true, false, List, length, Option, Some, None, Result, Ok, Err, sym, ap, arith}
use Rattle.std.{specs.Str.Parse.ParsesUnsigned, proofs.lemmas.Fmt.{decimal_is_IsNumeral_wide, parse-decimal_wide}}
use Rattle.napt_log_text.specs.{declared.log_row.LogField.{LogField, TheVariants.{Empty, Number, Other}}, Rows.number_if_any}
use Rattle.napt_log_text.specs.LogRows.{IsTimeField, number_field}
use Rattle.napt_log_text.proofs.log_row.number_in.Goals as goal

abbrev as_field : {E : Type 0} → Result ℕ E → LogField
as_field (Ok number) = Number number
as_field (Err _) = Other

empty : (number : Option ℕ) (text : List ℕ) → IsTimeField number → text ≡ number_if_any number →
    (length text == 0) ≡ true → Empty ≡ number_field number
empty number text h k g = grind (arith, common_steps, nat_tests, decimal_is_IsNumeral_wide)

read : {E : Type 0} (number : Option ℕ) (text : List ℕ) (r : Result ℕ E) → IsTimeField number →
    text ≡ number_if_any number → (length text == 0) ≡ false → ParsesUnsigned 128 10 text r →
    as_field r ≡ number_field number
read None text r fits is some parsed =
    let apart : true ≡ false = sym (ap (λ (l : List ℕ). length l == 0) is) ∙ some in cc
read (Some number) text r fits is some parsed =
    ap as_field (parse-decimal_wide 128 number text r fits (omega arith) is parsed)

pub returns-then-is_empty : goal.returns-then-is_empty
returns-then-is_empty c number fits is =
    empty number _ fits is (sym c.is_empty.ensures ∙ c.if-is_empty.true)

pub returns-in-Ok : goal.returns-in-Ok
returns-in-Ok c number fits is =
    ap as_field (sym c.in-Ok.is) ∙ read number _ c.parse.result fits is
    (sym c.is_empty.ensures ∙ c.if-is_empty.false) c.parse.ensures.value.0

pub returns-in-Err : goal.returns-in-Err
returns-in-Err c number fits is =
    ap as_field (sym c.in-Err.is) ∙ read number _ c.parse.result fits is
    (sym c.is_empty.ensures ∙ c.if-is_empty.false) c.parse.ensures.value.0

-- end: the end that was written is read back, since no number is the word `never`.
use Rattle.std.proofs.Common.{ℕ, ◌≡◌, ◌<◌, ◌^◌, ◌∙◌, Some, None, codes, decimal, refl, sym, ap, subst, arith}
use Rattle.std.specs.{Result.result_ok, Str.Parse.IsNumeral}
use Rattle.std.proofs.lemmas.{Fmt.{parse-decimal_wide, decimal_is_IsNumeral_wide}, Option.none-some}
use Rattle.napt_state.proofs.fields.end.Goals as goal

no_number : (n : ℕ) → n < 2 ^ 128 → codes "never" ≡ decimal n → ⊥
no_number n fits is =
    let digits = subst (IsNumeral 10) (sym is) (decimal_is_IsNumeral_wide n (omega arith)).0 in
    omega (arith, digits.1.0)

pub returns-in-never : goal.returns-in-never
returns-in-never c None fits is = refl
returns-in-never c (Some n) fits is = absurd (no_number n fits (sym c.in-never.is ∙ c.word.ensures ∙ is))

pub returns-in_err-ok-in_default : goal.returns-in_err-ok-in_default
returns-in_err-ok-in_default c None fits is = absurd (c.in_default.not-never (c.word.ensures ∙ is))
returns-in_err-ok-in_default c (Some n) fits is =
    absurd (none-some _ (sym c.in_err-ok-in_default.was ∙ c.ok.ensures.value
    ∙ ap result_ok (parse-decimal_wide 128 n _ _ fits (omega arith) (c.word.ensures ∙ is) c.parse.ensures.value.0)))

pub returns-in_ok-ok-in_default : goal.returns-in_ok-ok-in_default
returns-in_ok-ok-in_default c None fits is = absurd (c.in_default.not-never (c.word.ensures ∙ is))
returns-in_ok-ok-in_default c (Some n) fits is = ap Some (sym c.in_ok-ok-in_default.was ∙ c.ok.ensures.value
    ∙ ap result_ok (parse-decimal_wide 128 n _ _ fits (omega arith) (c.word.ensures ∙ is) c.parse.ensures.value.0))

-- number: the number that was written is read back, and an empty word is not a number.
use Rattle.std.proofs.Common.{ℕ, [], None, Result, Ok, Err, ◌≡◌, ◌∙◌, ap, subst, refl, arith}
use Rattle.std.{specs.{Result.result_ok, Str.Parse.ParsesUnsigned}, proofs.lemmas.Fmt.parse-decimal}
use Rattle.napt_state.proofs.fields.number.Goals as goal

pub returns-clause-read : goal.returns-clause-read
returns-clause-read c number fits is =
    c.ok.ensures.value
    ∙ ap result_ok (parse-decimal 64 number _ _ fits (omega arith) (c.word.ensures ∙ is) c.parse.ensures.value.0)

no_number : {E : Type 0} (r : Result ℕ E) → ParsesUnsigned 64 10 [] r → result_ok r ≡ None
no_number (Ok n) parsed = absurd (omega (arith, parsed.0.0.0))
no_number (Err e) parsed = refl

pub returns-clause-none : goal.returns-clause-none
returns-clause-none c is = c.ok.ensures.value
    ∙ no_number _ (subst (λ w. ParsesUnsigned 64 10 w c.parse.result) (c.word.ensures ∙ is) c.parse.ensures.value.0)

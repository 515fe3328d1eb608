-- endpoint: the endpoint that was written is read back.
use Rattle.std.proofs.{lemmas.{Grind.common_steps, Bool.Decides.nat_tests}, Common.{ℕ, ◌≡◌, ◌<◌, ◌^◌, ◌∙◌, List, Some, Result, decimal, sym, ap, arith}}
use Rattle.std.{specs.{Result.result_ok, Str.Parse.ParsesUnsigned}, proofs.lemmas.{Fmt.parse-decimal, Option.none-some}}
use Rattle.napt_wire.specs.declared.Endpoint.{Endpoint}
use Rattle.napt_config.specs.declared.address.Address.{Address}
use Rattle.napt_state.proofs.fields.endpoint.Goals as goal

both : (address : Address) (number : ℕ) (endpoint : Endpoint) → Some address ≡ Some (record { 0 = endpoint.address }) →
    Some number ≡ Some endpoint.number → Some (record { address = address.0; number = number }) ≡ Some endpoint
both address number endpoint one other = grind (arith, common_steps, nat_tests)

number_is : {E : Type 0} (number : ℕ) (text word : List ℕ) (r : Result ℕ E) → number < 2 ^ 16 → word ≡ text →
    text ≡ decimal number → ParsesUnsigned 16 10 word r → result_ok r ≡ Some number
number_is number text word r fits same is parsed =
    ap result_ok (parse-decimal 16 number word r fits (omega arith) (same ∙ is) parsed)

pub returns-in_err-address : goal.returns-in_err-address
returns-in_err-address c endpoint fits is_address is_number =
    let read = c.ok.ensures.value ∙ ap result_ok
    (c.parse.ensures.value.only (record { 0 = endpoint.address }) fits.0 (c.word.ensures ∙ is_address)) in
    absurd (none-some _ (sym c.in_err-address.was ∙ read))

pub returns-in_err-number : goal.returns-in_err-number
returns-in_err-number c endpoint fits is_address is_number =
    let read = c.ok-2.ensures.value
    ∙ number_is endpoint.number _ _ _ fits.1 c.word-2.ensures is_number c.parse-2.ensures.value.0 in
    absurd (none-some _ (sym c.in_err-number.was ∙ read))

pub returns : goal.returns
returns c endpoint fits is_address is_number =
    let first = c.ok.ensures.value ∙ ap result_ok
    (c.parse.ensures.value.only (record { 0 = endpoint.address }) fits.0 (c.word.ensures ∙ is_address)) in
    let second = c.ok-2.ensures.value
    ∙ number_is endpoint.number _ _ _ fits.1 c.word-2.ensures is_number c.parse-2.ensures.value.0 in
    both c.in_ok-address.address c.in_ok-number.number endpoint (sym c.in_ok-address.was ∙ first)
    (sym c.in_ok-number.was ∙ second)

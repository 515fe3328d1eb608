-- endpoint_of: an endpoint that was written is read back, and an address without a number gives no endpoint.
use Rattle.std.proofs.{lemmas.{Grind.common_steps, Bool.Decides.nat_tests}, Common.{ℕ, ◌≡◌, ◌∙◌, List, [], Some, Result, Ok, Err, sym, ap, arith}}
use Rattle.std.{specs.{Result.result_ok, Str.Parse.ParsesUnsigned}, proofs.lemmas.{Fmt.parse-decimal, Option.none-some}}
use Rattle.napt_wire.specs.declared.Endpoint.{Endpoint}
use Rattle.napt_config.specs.declared.address.Address.{Address}
use Rattle.napt_log_text.proofs.log_row.endpoint_of.Goals as goal

both : (address : Address) (number : ℕ) (endpoint : Endpoint) → Some address ≡ Some (record { 0 = endpoint.address }) →
    Some number ≡ Some endpoint.number → Some (record { address = address.0; number = number }) ≡ Some endpoint
both address number endpoint one other = grind (arith, common_steps, nat_tests)

unread : {E : Type 0} (text : List ℕ) (r : Result ℕ E) {number : ℕ} → result_ok r ≡ Some number → text ≡ [] →
    ParsesUnsigned 16 10 text r → ⊥
unread {E = E} text (Ok number) read none parsed = grind (arith, common_steps, nat_tests)
unread text (Err e) read none parsed = cc

pub returns-in_err-address-clause-some : goal.returns-in_err-address-clause-some
returns-in_err-address-clause-some c endpoint fits is_address is_number =
    let read = c.ok.ensures.value
    ∙ ap result_ok (c.parse.ensures.value.only (record { 0 = endpoint.address }) fits.0 is_address) in
    absurd (none-some _ (sym c.in_err-address.was ∙ read))

pub returns-in_err-number-clause-some : goal.returns-in_err-number-clause-some
returns-in_err-number-clause-some c endpoint fits is_address is_number =
    let read = c.ok-2.ensures.value
    ∙ ap result_ok (parse-decimal 16 endpoint.number _ _ fits.1 (omega arith) is_number c.parse-2.ensures.value.0) in
    absurd (none-some _ (sym c.in_err-number.was ∙ read))

pub returns-clause-some : goal.returns-clause-some
returns-clause-some c endpoint fits is_address is_number =
    let first = c.ok.ensures.value
    ∙ ap result_ok (c.parse.ensures.value.only (record { 0 = endpoint.address }) fits.0 is_address) in
    let second = c.ok-2.ensures.value
    ∙ ap result_ok (parse-decimal 16 endpoint.number _ _ fits.1 (omega arith) is_number c.parse-2.ensures.value.0) in
    both c.in_ok-address.address c.in_ok-number.number endpoint (sym c.in_ok-address.was ∙ first)
    (sym c.in_ok-number.was ∙ second)

pub returns-clause-none : goal.returns-clause-none
returns-clause-none c is =
    absurd (unread _ _ (sym c.ok-2.ensures.value ∙ c.in_ok-number.was) is c.parse-2.ensures.value.0)

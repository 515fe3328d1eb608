-- target: the endpoint is the one of the definition, and the translators stay those of the state.
use Rattle.std.proofs.Common.{◌≡◌, true, Option, Some, None, slice_get, ℕ, sym, ◌∙◌, ap, arith}
use Rattle.napt_wire.specs.declared.Endpoint.{Endpoint}
use Rattle.napt_config.specs.Rules.{is_inside}
use Rattle.napt_laws.proofs.Pools.{stands_at}
use Rattle.napt_sequential.{specs.Numbers.reply_number_at, proofs.{LaterTranslators.all_unchanged, Numbers.target_told}}
use Rattle.napt_sequential.proofs.reply_run.target.Goals as goal

pub returns-in_err-number-clause-value : goal.returns-in_err-number-clause-value
returns-in_err-number-clause-value c = λ state are later.
    let place : ℕ = c.in_ok-place.place in
    let home : ℕ = c.pair-address.result in
    let at : slice_get c.args.config.now.pool place ≡ Some home =
    stands_at c.args.config.now.pool home place (sym c.pool_index.ensures.place ∙ c.in_ok-place.was) in
    let within : is_inside c.args.config.now c.args.inside.address ≡ true = grind (
      arith,
      c.is_inside.ensures,
      c.if-not-is_inside.false,
    ) in
    c.from_residual-in_err-number.ensures
    ∙ target_told c.args.config.now c.args.now state.list c.args.protocol c.args.inside within None
    (sym c.in_err-number.was ∙ c.number.ensures.value c.args.config.now state home are later at
    ∙ ap (λ (a : ℕ). reply_number_at c.args.config.now a c.args.now state.list c.args.protocol c.args.inside)
    c.pair-address.ensures.address)

pub returns-clause-value : goal.returns-clause-value
returns-clause-value c = λ state are later.
    let place : ℕ = c.in_ok-place.place in
    let home : ℕ = c.pair-address.result in
    let at : slice_get c.args.config.now.pool place ≡ Some home =
    stands_at c.args.config.now.pool home place (sym c.pool_index.ensures.place ∙ c.in_ok-place.was) in
    let within : is_inside c.args.config.now c.args.inside.address ≡ true = grind (
      arith,
      c.is_inside.ensures,
      c.if-not-is_inside.false,
    ) in
    let number : ℕ = c.in_ok-number.number in
    let made : ℕ → Option Endpoint = λ a. Some (record { address = a; number = number }) in
    ap made c.pair-address.ensures.address
    ∙ target_told c.args.config.now c.args.now state.list c.args.protocol c.args.inside within (Some number)
    (sym c.in_ok-number.was ∙ c.number.ensures.value c.args.config.now state home are later at
    ∙ ap (λ (a : ℕ). reply_number_at c.args.config.now a c.args.now state.list c.args.protocol c.args.inside)
    c.pair-address.ensures.address)

pub returns-then-not-is_inside-clause-left : goal.returns-then-not-is_inside-clause-left
returns-then-not-is_inside-clause-left c = all_unchanged c.args.config.now c.args.now c.args.translators.now

pub returns-in_err-number-clause-left : goal.returns-in_err-number-clause-left
returns-in_err-number-clause-left c = c.number.ensures.left c.args.config.now

pub returns-clause-left : goal.returns-clause-left
returns-clause-left c = c.number.ensures.left c.args.config.now

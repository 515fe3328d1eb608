-- serve: the new input is unmarked, and after it the invariant holds with one more input.
use Rattle.std.proofs.{Common.{◌≡◌, ◌∙◌, ap}, lemmas.Result.err_from_is_err_and}
use Rattle.napt_rules.specs.Prelude.{Arrival, way_from}
use Rattle.napt_dispatch.{specs.RunProgresses.progress_expecting, proofs.{Lanes.{grows_none, halts_after}, RunSteps.{serves_as, continues_both}, KnownInputs.expecting_unmarked}}
use Rattle.napt_dispatch.proofs.dispatcher.Dispatcher.serve.Goals as goal

pub admit-requires-clause-open : goal.admit-requires-clause-open
admit-requires-clause-open g c =
    λ κs lives. expecting_unmarked c.input.inside.time c.way_from.result c.in_ok-number.number
    c.args.self.now.progress c.expect.new.self c.in_ok-number.ensures.number c.in_ok-number.ensures.expecting

pub returns-in_err-number-clause-fault : goal.returns-in_err-number-clause-fault
returns-in_err-number-clause-fault g c =
    let p = err_from_is_err_and c.from_residual.result c.from_residual.ensures.1 in
    rw (p.1, p.2)
    (record { grows = grows_none c.args.pool.now; fault_is = c.in_err-number.ensures.fault g.G.Gate.is_open })

pub returns-in_err-place-clause-fault : goal.returns-in_err-place-clause-fault
returns-in_err-place-clause-fault g c =
    let p = err_from_is_err_and c.from_residual-in_err-place.result c.from_residual-in_err-place.ensures.1 in
    rw (p.1, p.2)
    (record { grows = grows_none c.args.pool.now; fault_is = c.in_err-place.ensures.fault g.G.Gate.is_open })

pub returns-clause-serves : goal.returns-clause-serves
returns-clause-serves g c =
    let time : c.input.inside.time ≡ c.args.input.time = ap (λ (a : Arrival). a.time) c.input.view_is in
    let way : c.way_from.result ≡ way_from c.args.input.side = c.way_from.ensures
    ∙ ap (λ (a : Arrival). way_from a.side) c.input.view_is in
    serves_as c.args.config.now c.args.now c.in_ok-number.number c.args.input c.args.pool.now
    c.args.self.now c.admit.new.self c.expect.new.self c.take_and_offer_if_some-2.new.pool
    c.take_and_offer_if_some-2.new.self
    (c.in_ok-number.ensures.expecting ∙ (ap (λ t. progress_expecting t c.way_from.result c.args.self.now.progress) time
    ∙ ap (λ w. progress_expecting c.args.input.time w c.args.self.now.progress) way))
    c.in_ok-number.ensures.number c.in_ok-place.ensures.admits c.in_ok-place.ensures.journal
    (continues_both c.in_ok-take_and_offer_if_some.ensures c.in_ok-take_and_offer_if_some-2.ensures)

pub returns-in_err-take_and_offer_if_some-2-clause-fault : goal.returns-in_err-take_and_offer_if_some-2-clause-fault
returns-in_err-take_and_offer_if_some-2-clause-fault g c =
    let p = err_from_is_err_and c.from_residual-in_err-take_and_offer_if_some-2.result
    c.from_residual-in_err-take_and_offer_if_some-2.ensures.1 in
    rw (p.1, p.2) (halts_after c.in_ok-take_and_offer_if_some.ensures.grows c.in_err-take_and_offer_if_some-2.ensures)

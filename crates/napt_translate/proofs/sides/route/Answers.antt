-- `route`: the returned place is that of the external address that serves the packet.
use Rattle.std.proofs.Common.{◌≡◌, ℕ, List, Option, Some, Result, IfOk, ok_or, slice_get, sym, ◌∙◌, ap, subst}
use Rattle.napt_wire.specs.declared.{Cause.{Cause, TheVariants.NotOurs}, Way.Way}
use Rattle.napt_config.specs.Rules.{pool_place}
use Rattle.napt_rules.specs.Sides as sides
use Rattle.napt_laws.proofs.Pools.{place_has}
use Rattle.napt_translate.proofs.sides.route.Goals as goal

pub returns-clause-in_pool : goal.returns-clause-in_pool
returns-clause-in_pool c =
    let pool : List ℕ = c.args.config.now.pool in
    let address : c.served_at-address.result ≡ sides.served_at c.args.config.now
    (sides.way_from c.args.side) c.args.packet.now =
    c.served_at-address.ensures ∙ ap (λ (way : Way). sides.served_at c.args.config.now way c.args.packet.now)
    c.way_from.ensures in
    let answer : c.ok_or.result ≡ ok_or (pool_place c.args.config.now c.served_at-address.result) NotOurs =
    c.ok_or.ensures.value ∙ ap (λ (found : Option ℕ). ok_or found NotOurs) c.pool_index.ensures.place in
    subst (λ (a : ℕ). IfOk c.ok_or.result (λ place. slice_get pool place ≡ Some a)) address
    (subst (λ (r : Result ℕ Cause). IfOk r (λ place. slice_get pool place ≡ Some c.served_at-address.result))
    (sym answer) (place_has pool c.served_at-address.result NotOurs))

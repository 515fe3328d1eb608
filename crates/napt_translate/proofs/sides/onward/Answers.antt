-- `onward`: the returned place determines whether the packet's outgoing leg can end onward, and where.
use Rattle.std.proofs.Common.{◌≡◌, ◌∙◌, ap, subst, sym}
use Rattle.napt_wire.specs.{declared.Endpoint.Endpoint, Fields.destination}
use Rattle.napt_config.specs.Rules.{pool_place}
use Rattle.napt_rules.specs.Prelude.{RulesForeseeEnd}
use Rattle.napt_laws.proofs.OnwardForeseen.{foresees}
use Rattle.napt_translate.proofs.sides.onward.Goals as goal

pub returns-clause-foresees : goal.returns-clause-foresees
returns-clause-foresees c =
    let place : c.pool_index.result ≡ pool_place c.args.config.now (destination c.args.packet.now).address =
    c.pool_index.ensures.place ∙ ap (λ (e : Endpoint). pool_place c.args.config.now e.address)
    c.destination.ensures in
    subst (RulesForeseeEnd c.args.config.now c.args.packet.now) (sym place)
    (foresees c.packets_keep_their_way.ensures.packets c.packets_keep_their_way.ensures.errors c.args.config.now
    c.args.packet.now c.bytes-bytes.ensures.reads)

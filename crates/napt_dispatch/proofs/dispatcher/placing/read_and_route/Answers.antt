-- read_and_route: the packet is admitted or dropped as the definition says.
use Rattle.std.proofs.Common.{refl, sym, ◌∙◌}
use Rattle.napt_laws.proofs.Routes.{route_ok, route_err}
use Rattle.napt_dispatch.proofs.dispatcher.placing.read_and_route.Goals as goal

pub returns-in-Ok-route-clause-admitted : goal.returns-in-Ok-route-clause-admitted
returns-in-Ok-route-clause-admitted c = (
  rw (
    c.in-Ok.ensures.ok,
    route_ok c.args.config.now c.args.side c.in-Ok.packet c.in-Ok-route.place
        (sym c.route.ensures.place ∙ c.in-Ok-route.is),
  ) refl,
  c.in-Ok-route.ensures.in_pool,
)

pub returns-in-Ok-clause-refused : goal.returns-in-Ok-clause-refused
returns-in-Ok-clause-refused c =
    rw (
      c.in-Ok.ensures.ok,
      route_err c.args.config.now c.requires.keeps c.args.side c.in-Ok.packet
          c.in-Err-route.cause (sym c.route.ensures.place ∙ c.in-Err-route.is),
    ) refl

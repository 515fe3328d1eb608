-- second_leg: the input is open, and its second leg is the one that its last answer asks for.
use Rattle.std.proofs.Common.{sym, ap, ◌∙◌}
use Rattle.napt_dispatch.{specs.RunProgresses.is_unknown, proofs.KnownInputs.{open_get, open_second}}
use Rattle.napt_dispatch.proofs.dispatcher.run_progress.RunProgress.second_leg.Goals as goal

pub second_leg-requires : goal.second_leg-requires
second_leg-requires g c = (
  c.type_bounds.static-P,
  (
    c.type_bounds.send-P,
    sym (ap is_unknown (open_get c.self.inside.past.items c.self.inside.under_way.items c.args.self.now c.self.view_is
        c.args.number c.in-Some.place c.in-Some.ensures.0 c.in-Some.ensures.1 c.index_mut.result.now
        c.index_mut.ensures.value)) ∙ c.requires,
  ),
)

pub returns : goal.returns
returns g c =
    open_second c.self.inside.past.items c.self.inside.under_way.items c.args.self.now c.self.view_is c.args.number
    c.in-Some.place c.in-Some.ensures.0 c.in-Some.ensures.1 c.index_mut.result.now c.index_mut.ensures.value
    c.second_leg.new.self c.second_leg.result c.second_leg.ensures

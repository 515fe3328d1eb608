-- pop: the result of the first open input is appended to the results that left.
use Rattle.std.proofs.Common.{◌++◌, [], ◌∷◌, sym, ap, ◌∙◌}
use Rattle.napt_dispatch.{specs.RunProgresses.RunProgressModel, proofs.KnownInputs.first_leaves}
use Rattle.napt_dispatch.proofs.dispatcher.run_progress.RunProgress.pop.Goals as goal

pub returns : goal.returns
returns g c =
    let first = c.in-Some.field-0 in
    first_leaves c.args.self.now first c.pop_front.new.self.items c.into_departed-departed.result
    c.and-self-inside.result.items
    (ap (λ (w : RunProgressModel g.row.P.Denot). w.under_way) (sym c.self.view_is) ∙ c.in-Some.ensures.items)
    c.requires c.into_departed-departed.ensures
    (c.and-self-inside.ensures ∙ ap (λ (w : RunProgressModel g.row.P.Denot). w.left ++ (
      first.time,
      c.into_departed-departed.result,
    ) ∷ []) c.self.view_is)

-- is_unknown: the answer is that of the open input with this number.
use Rattle.std.proofs.Common.{sym, ap, ◌∙◌}
use Rattle.napt_dispatch.{specs.RunProgresses.is_unknown, proofs.KnownInputs.open_get}
use Rattle.napt_dispatch.proofs.dispatcher.run_progress.RunProgress.is_unknown.Goals as goal

pub returns-in-Some : goal.returns-in-Some
returns-in-Some g c =
    c.is_unknown.ensures
    ∙ sym (ap is_unknown (open_get c.self.inside.past.items c.self.inside.under_way.items c.args.self.now
    c.self.view_is c.args.number c.in-Some.place c.in-Some.ensures.0 c.in-Some.ensures.1 c.index.result.now
    c.index.ensures))

-- passages: the records are those of an open input that awaits such an answer.
use Rattle.napt_dispatch.proofs.KnownInputs.{open_answers}
use Rattle.napt_dispatch.proofs.dispatcher.run_progress.RunProgress.passages.Goals as goal

pub returns : goal.returns
returns g c =
    open_answers c.self.inside.past.items c.self.inside.under_way.items c.args.self.now c.self.view_is c.args.number
    c.in-Some.place c.in-Some.ensures.0 c.in-Some.ensures.1 c.index.result.now c.index.ensures _ c.args.way
    c.args.passage c.passages.result c.passages.ensures

-- write: the progress of one open input is set, and all else stays.
use Rattle.std.proofs.Common.{refl}
use Rattle.napt_dispatch.proofs.KnownInputs.{open_written, open_unmarked}
use Rattle.napt_dispatch.proofs.dispatcher.run_progress.RunProgress.write.Goals as goal

pub returns-clause-ok : goal.returns-clause-ok
returns-clause-ok g c =
    open_written c.self.inside.past.items c.self.inside.under_way.items c.args.self.now c.self.view_is c.args.number
    c.in-Some.place c.in-Some.ensures.0 c.in-Some.ensures.1 c.index_mut-input.result.now c.index_mut-input.ensures.value
    _ c.args.progress refl refl

pub returns-clause-marks : goal.returns-clause-marks
returns-clause-marks g c =
    open_unmarked c.self.inside.past.items c.self.inside.under_way.items c.args.self.now c.self.view_is c.args.number
    c.in-Some.place c.in-Some.ensures.0 c.in-Some.ensures.1 c.index_mut-input.result.now c.index_mut-input.ensures.value
    _ refl

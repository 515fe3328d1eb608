-- note_place: the mark of one input is set, and all else stays.
use Rattle.std.proofs.Common.{true, refl}
use Rattle.napt_dispatch.proofs.KnownInputs.{open_marked}
use Rattle.napt_dispatch.proofs.dispatcher.run_progress.RunProgress.note_place.Goals as goal

pub returns-in-Some : goal.returns-in-Some
returns-in-Some g c =
    open_marked c.self.inside.past.items c.self.inside.under_way.items c.args.self.now c.self.view_is c.args.number
    c.in-Some.place c.in-Some.ensures.0 c.in-Some.ensures.1 c.index_mut.result.now c.index_mut.ensures.value _ true refl
    refl refl

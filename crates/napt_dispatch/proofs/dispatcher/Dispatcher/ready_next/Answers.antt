-- ready_next: the first held entry moves to the next message, or waits.
use Rattle.std.proofs.Common.{sym, ◌∙◌}
use Rattle.napt_dispatch.{specs.declared.dispatcher.Dispatcher.Dispatcher, proofs.WorkerOffers.readies_first}
use Rattle.napt_dispatch.proofs.dispatcher.Dispatcher.ready_next.Goals as goal

pub returns-clause-readies : goal.returns-clause-readies
returns-clause-readies g c =
    let later : Dispatcher g.row.P.Denot = record c.second_leg-second.new.self { queues = c.ready_first.new.self } in
    readies_first c.args.w c.args.self.now later c.second_leg-second.result c.requires
    (rw c.front-front.ensures at (sym c.waits.ensures ∙ c.if-waits.false))
    (rw c.front-front.ensures at c.second_leg-second.ensures.resolves)
    (rw c.second_leg-second.ensures.same at c.in_ok-ready_first.ensures.readied)

-- note_all: the answers of a batch are recorded.
use Rattle.napt_dispatch.proofs.dispatcher.Dispatcher.note_all.Goals as goal

pub returns-clause-noted : goal.returns-clause-noted
returns-clause-noted g c =
    let n = c.in_ok-note_each.ensures.noted in
    record { journal_stays = n.journal_stays; keeps = n.keeps }

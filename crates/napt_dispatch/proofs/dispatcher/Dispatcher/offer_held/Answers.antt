-- offer_held: the dispatcher continues, only worker `w` is offered legs, and it has all that it can be offered.
use Rattle.std.proofs.{Common.{◌<◌, length, refl, sym, ap, ◌∙◌}, lemmas.Result.err_from_is_err_and}
use Rattle.napt_dispatch.{specs.declared.dispatcher.Dispatcher.Dispatcher, proofs.Lanes.{grows_not, grows_none, grows_offered}}
use Rattle.napt_dispatch.proofs.WorkerOffers.{over_pool, none_sent, none_continue, none_alone, sent_keeps, only_sent, sent_all}
use Rattle.napt_dispatch.proofs.dispatcher.Dispatcher.offer_held.Goals as goal

pub returns-then-count-eq0-clause-state : goal.returns-then-count-eq0-clause-state
returns-then-count-eq0-clause-state g c =
    none_continue c.args.w c.room-most.result c.args.pool.now c.args.self.now c.ready_all.new.self
    c.in_ok-ready_all.ensures.readies c.room-most.ensures c.in_ok-ready_all.ensures.all
    (c.in_ok-ready_all.ensures.many ∙ c.requires.sized)

pub returns-then-count-eq0-clause-alone : goal.returns-then-count-eq0-clause-alone
returns-then-count-eq0-clause-alone g c =
    none_alone c.args.w c.room-most.result c.args.pool.now c.args.self.now c.ready_all.new.self
    c.in_ok-ready_all.ensures.readies c.room-most.ensures c.in_ok-ready_all.ensures.all

pub returns-then-count-eq0-clause-offered : goal.returns-then-count-eq0-clause-offered
returns-then-count-eq0-clause-offered g c =
    none_sent c.args.w c.room-most.result c.args.pool.now c.args.self.now c.ready_all.new.self
    c.in_ok-ready_all.ensures.readies c.room-most.ensures c.in_ok-ready_all.ensures.all
    (rw c.ready_count.ensures at (sym c.if-count-eq0.true ∙ c.min-count.ensures))

pub returns-in_err-legs-clause-state : goal.returns-in_err-legs-clause-state
returns-in_err-legs-clause-state g c =
    let p = err_from_is_err_and c.from_residual-in_err-legs.result c.from_residual-in_err-legs.ensures.1 in
    rw (p.1, p.2)
    (record { grows = grows_none c.args.pool.now; fault_is = c.in_err-legs.ensures.fault g.G.Gate.is_open })

pub returns-in_err-send-clause-state : goal.returns-in_err-send-clause-state
returns-in_err-send-clause-state g c =
    let p = err_from_is_err_and c.from_residual-in_err-send.result c.from_residual-in_err-send.ensures.1 in
    let sent = c.in_err-send.ensures in
    rw (p.1, p.2) (record { grows = grows_not sent.starts sent.refused sent.takes; fault_is = sent.fault })

pub returns-clause-state : goal.returns-clause-state
returns-clause-state g c =
    let later : Dispatcher g.row.P.Denot =
    record c.ready_all.new.self { vectors = c.take-answers.new.self; queues = c.offer_ready.new.self } in
    let inside : c.args.w < length c.ready_all.new.self.queues =
    rw (c.in_ok-ready_all.ensures.many, c.requires.sized) c.requires.place in
    let long = sym c.in_ok-legs.legs.ok.0 ∙ c.in_ok-legs.ensures.len in
    record {
      grows = grows_offered c.args.w c.args.pool.now c.send.new.pool c.requires.place c.in_ok-send.ensures.starts
          c.in_ok-legs.legs.items c.in_ok-send.ensures.takes c.in_ok-send.ensures.accepted;
      sized = c.offer_ready.ensures.many ∙ (c.in_ok-ready_all.ensures.many
          ∙ (c.requires.sized ∙ sym (ap length c.in_ok-send.ensures.starts)));
      journal_stays = c.in_ok-ready_all.ensures.readies.journal_stays;
      keeps = over_pool (sent_keeps c.args.w c.room-most.result c.args.pool.now c.args.self.now c.ready_all.new.self
          c.in_ok-ready_all.ensures.readies c.room-most.ensures c.in_ok-ready_all.ensures.all c.in_ok-legs.legs.items
          c.send.new.pool later c.requires.place inside c.in_ok-legs.ensures.offers refl c.in_ok-send.ensures.accepted
          c.in_ok-send.ensures.takes c.min-count.result c.in_ok-legs.ensures.first long);
    }

pub returns-clause-alone : goal.returns-clause-alone
returns-clause-alone g c =
    let later : Dispatcher g.row.P.Denot =
    record c.ready_all.new.self { vectors = c.take-answers.new.self; queues = c.offer_ready.new.self } in
    let inside : c.args.w < length c.ready_all.new.self.queues =
    rw (c.in_ok-ready_all.ensures.many, c.requires.sized) c.requires.place in
    only_sent c.args.w c.room-most.result c.args.pool.now c.args.self.now c.ready_all.new.self
    c.in_ok-ready_all.ensures.readies c.room-most.ensures c.in_ok-ready_all.ensures.all c.in_ok-legs.legs.items
    c.send.new.pool later c.requires.place inside c.in_ok-legs.ensures.offers refl c.in_ok-send.ensures.accepted
    c.in_ok-send.ensures.takes c.in_ok-send.ensures.capacity

pub returns-clause-offered : goal.returns-clause-offered
returns-clause-offered g c =
    let later : Dispatcher g.row.P.Denot =
    record c.ready_all.new.self { vectors = c.take-answers.new.self; queues = c.offer_ready.new.self } in
    let inside : c.args.w < length c.ready_all.new.self.queues =
    rw (c.in_ok-ready_all.ensures.many, c.requires.sized) c.requires.place in
    let count = rw c.ready_count.ensures at c.min-count.ensures in
    let long = sym c.in_ok-legs.legs.ok.0 ∙ c.in_ok-legs.ensures.len in
    sent_all c.args.w c.room-most.result c.args.pool.now c.args.self.now c.ready_all.new.self
    c.in_ok-ready_all.ensures.readies c.room-most.ensures c.in_ok-ready_all.ensures.all c.in_ok-legs.legs.items
    c.send.new.pool later c.requires.place inside c.in_ok-legs.ensures.offers refl c.in_ok-send.ensures.accepted
    c.in_ok-send.ensures.takes (long ∙ count) c.in_ok-send.ensures.capacity

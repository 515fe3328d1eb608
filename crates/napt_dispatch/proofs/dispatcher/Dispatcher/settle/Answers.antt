-- settle: the steps and the flush after them make one step, and there is room once nothing is held or owed.
use Rattle.std.proofs.{Common.refl, lemmas.Result.err_from_is_err_and}
use Rattle.napt_dispatch.proofs.{RunSteps.{room_idle, lets_settle}, Lanes.grows_none}
use Rattle.napt_dispatch.proofs.dispatcher.Dispatcher.settle.Goals as goal

pub returns-in-Ok-clause-state : goal.returns-in-Ok-clause-state
returns-in-Ok-clause-state g c =
    lets_settle g.D.OutcomeSink.fails g.met.D.OutcomeSink.takes_more c.in_ok-advance_until.ensures.state
    c.in-Ok.ensures.0

pub returns-in-Ok-clause-room : goal.returns-in-Ok-clause-room
returns-in-Ok-clause-room g c = room_idle c.advance_until.new.self c.in_ok-advance_until.ensures.reached
    (c.in_ok-check_left.ensures.none.0 refl)

pub returns-in_err-check_left-clause-state : goal.returns-in_err-check_left-clause-state
returns-in_err-check_left-clause-state g c =
    let p = err_from_is_err_and c.from_residual-in_err-check_left.result c.from_residual-in_err-check_left.ensures.1 in
    rw (p.1, p.2)
    (record {
      last_pool = c.advance_until.new.pool;
      last = c.advance_until.new.self;
      lets = c.in_ok-advance_until.ensures.state;
      halted = record { grows = grows_none c.advance_until.new.pool; fault_is = (tt, λ is. refl) };
    })

-- make_ready: the dispatcher continues, whether it settles, has room at once or makes room.
use Rattle.std.proofs.Common.{[]}
use Rattle.napt_dispatch.proofs.RunSteps.{goes_none}
use Rattle.napt_dispatch.proofs.dispatcher.Dispatcher.make_ready.Goals as goal

pub returns-then-has_room-clause-state : goal.returns-then-has_room-clause-state
returns-then-has_room-clause-state g c =
    rw c.take_outcome_flag.ensures
    (record {
      went = [];
      goes = goes_none c.requires.sized;
      took = g.met.D.OutcomeSink.takes_none c.args.departures.now;
    })

pub returns-clause-state : goal.returns-clause-state
returns-clause-state g c = rw c.take_outcome_flag.ensures at c.advance_until.ensures.state

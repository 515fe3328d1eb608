-- hand_over: the dispatcher continues when outcomes are written, also where the sink fails.
use Rattle.std.proofs.Common.{refl}
use Rattle.napt_dispatch.{specs.declared.dispatcher.Dispatcher.Dispatcher, proofs.RunSteps.goes_over}
use Rattle.napt_dispatch.proofs.dispatcher.Dispatcher.hand_over.Goals as goal

pub returns-in-Ok : goal.returns-in-Ok
returns-in-Ok g c =
    let later : Dispatcher g.row.P.Denot = record c.args.self.now { progress = c.hand_over.new.self } in
    record {
      went = c.in-Ok.ensures.handed.went;
      goes = goes_over c.args.pool.now c.args.self.now later c.in-Ok.ensures.handed.went c.requires.sized refl
          c.in-Ok.ensures.handed.handed;
      took = c.in-Ok.ensures.handed.took;
    }

pub returns-in-Err : goal.returns-in-Err
returns-in-Err g c =
    let later : Dispatcher g.row.P.Denot = record c.args.self.now { progress = c.hand_over.new.self } in
    record {
      went = c.in-Err.ensures.handed.went;
      goes = goes_over c.args.pool.now c.args.self.now later c.in-Err.ensures.handed.went c.requires.sized refl
          c.in-Err.ensures.handed.handed;
      failed = c.in-Err.ensures.handed.failed;
    }

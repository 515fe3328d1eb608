-- wait_and_take: while it waits, no answer was taken, and the dispatcher continues.
use Rattle.std.proofs.Common.{false}
use Rattle.napt_dispatch.specs.DispatcherInvariants.{DispatcherContinues, HasTaken}
use Rattle.napt_dispatch.proofs.dispatcher.Dispatcher.wait_and_take.Given as goal

abbrev pub invariant-loop : goal.invariant-loop
invariant-loop g l = record {
  state : DispatcherContinues g.P.LegTrace.tells l.initial.pool l.initial.self l.pool l.self;
  none : HasTaken l.initial.self l.self false;
}

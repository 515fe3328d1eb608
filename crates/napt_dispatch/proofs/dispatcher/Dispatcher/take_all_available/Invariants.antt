-- take_all_available: the dispatcher continues, and `any` says whether answers were taken so far.
use Rattle.napt_dispatch.specs.DispatcherInvariants.{DispatcherContinues, HasTaken}
use Rattle.napt_dispatch.proofs.dispatcher.Dispatcher.take_all_available.Given as goal

abbrev pub invariant-loop-w : goal.invariant-loop-w
invariant-loop-w g l = record {
  state : DispatcherContinues g.P.LegTrace.tells l.initial.pool l.initial.self l.pool l.self;
  told : HasTaken l.initial.self l.self l.any;
}

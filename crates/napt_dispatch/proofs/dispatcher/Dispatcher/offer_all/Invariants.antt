-- offer_all: the workers below `w` were offered all that they can be offered.
use Rattle.std.proofs.Common.{ℕ, ◌<◌}
use Rattle.napt_dispatch.specs.DispatcherInvariants.{DispatcherContinues, HasOffered}
use Rattle.napt_dispatch.proofs.dispatcher.Dispatcher.offer_all.Given as goal

abbrev pub invariant-loop-w : goal.invariant-loop-w
invariant-loop-w g l = record {
  state : DispatcherContinues g.P.LegTrace.tells l.initial.pool l.initial.self l.pool l.self;
  offered : (v : ℕ) → v < l.w → HasOffered l.pool l.self v;
}

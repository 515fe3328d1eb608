-- hand_over: the results that left the window so far were written.
use Rattle.std.proofs.Common.{length}
use Rattle.napt_dispatch.specs.RunsThrough.{HandOverOk}
use Rattle.napt_dispatch.proofs.dispatcher.run_progress.RunProgress.hand_over.Given as goal

abbrev pub invariant-loop-self : goal.invariant-loop-self
invariant-loop-self g l = HandOverOk g.D.OutcomeSink.takes l.initial.departures l.initial.self l.departures l.self

abbrev pub decreases-loop-self : goal.decreases-loop-self
decreases-loop-self g l = length l.self.under_way

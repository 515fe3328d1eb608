-- advance_until: the dispatcher continues, and the results that left were written.
use Rattle.napt_dispatch.specs.RunsThrough.{OutcomesLeave}
use Rattle.napt_dispatch.proofs.dispatcher.Dispatcher.advance_until.Given as goal

abbrev pub invariant-loop : goal.invariant-loop
invariant-loop g l = OutcomesLeave g.P.LegTrace.tells g.D.OutcomeSink.takes l.initial.pool l.initial.self
    l.initial.departures
    l.pool l.self l.departures

-- read_all: these inputs came, these results were written, and `clock` is the last clock.
use Rattle.std.proofs.Common.{◌≡◌, ℕ, List}
use Rattle.napt_dispatch.specs.{declared.outcome_sink.InputResult.InputResult, RunsThrough.ReadInputsPost}
use Rattle.napt_rules.specs.Prelude.{Arrival, last_clock}
use Rattle.napt_dispatch.proofs.dispatcher.Dispatcher.read_all.Given as goal

abbrev pub invariant-loop : goal.invariant-loop
invariant-loop g l = record {
  inputs : List Arrival;
  went : List (ℕ × InputResult g.row.P.Denot);
  handed : g.A.InputSource.hands l.initial.arrivals inputs l.arrivals;
  clock : l.clock ≡ last_clock l.initial.self.clock inputs;
  reads : ReadInputsPost g.P.LegTrace.tells l.config l.initial.pool l.initial.self inputs went l.pool l.self;
  took : g.D.OutcomeSink.takes l.initial.departures went l.departures;
}

-- step_all: the run and its outcomes are those of the inputs so far.
use Rattle.std.proofs.Common.{◌≡◌, take}
use Rattle.napt_rules.specs.Prelude.{opening, run}
use Rattle.napt_sequential.specs.SequentialRuns.{IsRunFromOpening}
use Rattle.napt_sequential.proofs.run.step_all.Given as goal

abbrev pub invariant-loop-input : goal.invariant-loop-input
invariant-loop-input l = record {
  stands : IsRunFromOpening l.config (take l.input-index l.inputs) l.run;
  outcomes : l.outcomes.items ≡ (run l.config (take l.input-index l.inputs) (opening l.config)).outcomes;
}

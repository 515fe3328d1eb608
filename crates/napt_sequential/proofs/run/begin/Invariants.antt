-- begin: the translators so far are as they are before any leg.
use Rattle.std.proofs.Common.{◌≡◌, ◌≤◌, length}
use Rattle.napt_rules.specs.Prelude.{initial_state}
use Rattle.napt_sequential.proofs.InitialTranslators.{AreFresh}
use Rattle.napt_sequential.proofs.run.begin.Given as goal

abbrev pub invariant-loop-index : goal.invariant-loop-index
invariant-loop-index l = record {
  many : length l.translators.items ≡ l.index;
  within : l.index ≤ length l.config.pool;
  fresh : AreFresh l.config (initial_state l.config) l.translators.items;
}

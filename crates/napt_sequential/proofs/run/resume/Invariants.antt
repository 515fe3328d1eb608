-- resume: the translators so far have the bindings of the state, and have translated no leg.
use Rattle.std.proofs.Common.{◌≡◌, ◌≤◌, length}
use Rattle.napt_rules.specs.Prelude.{with_redirects}
use Rattle.napt_sequential.proofs.InitialTranslators.{AreFresh}
use Rattle.napt_sequential.proofs.run.resume.Given as goal

abbrev pub invariant-loop-index : goal.invariant-loop-index
invariant-loop-index l = record {
  many : length l.translators.items ≡ l.index;
  within : l.index ≤ length l.config.pool;
  fresh : AreFresh l.config (with_redirects l.config l.state) l.translators.items;
}

-- workers: the workers so far have the translators of the first `index` addresses.
use Rattle.std.proofs.Common.{◌≡◌, ◌≤◌, length}
use Rattle.napt_rules.specs.Prelude.{with_redirects}
use Rattle.napt_dispatch.specs.Dispatch.{started_from}
use Rattle.napt_dispatch.proofs.workers.workers.Given as goal

abbrev pub invariant-loop-index : goal.invariant-loop-index
invariant-loop-index g l = record {
  within : l.index ≤ length l.config.pool;
  made : l.made.items ≡ started_from l.config (with_redirects l.config l.state) l.index;
}

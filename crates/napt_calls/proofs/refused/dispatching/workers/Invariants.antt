-- workers: the translators so far are those of the first addresses of the pool.
use Rattle.std.proofs.Common.{◌≡◌, ◌≤◌, length}
use Rattle.napt_dispatch.specs.Dispatch.{started_translators}
use Rattle.napt_calls.proofs.refused.dispatching.workers.Given as goal

abbrev pub invariant-loop-index : goal.invariant-loop-index
invariant-loop-index l = record {
  within : l.index ≤ length l.config.pool;
  made : l.made.items ≡ started_translators l.config l.index;
}

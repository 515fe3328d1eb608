-- join_all: `IsEnd` holds for each worker joined so far.
use Rattle.std.{proofs.Common.{◌≡◌, ◌+◌, ◌≤◌, ◌++◌, vec_items, vec_len}, specs.{Prelude.vec_capacity, Vec.Iter.{into_iter_items, into_iter_len}}}
use Rattle.napt_pool.specs.Workers.{AreEnds}
use Rattle.napt_pool.proofs.joining.join_all.Given as goal

abbrev pub invariant-loop-worker : goal.invariant-loop-worker
invariant-loop-worker g l = record {
  count : vec_len l.into + into_iter_len l.worker-iterator ≡ into_iter_len l.initial.worker-iterator;
  room : vec_len l.into + into_iter_len l.worker-iterator ≤ vec_capacity l.into;
  split : l.yielded ++ into_iter_items l.worker-iterator ≡ into_iter_items l.initial.worker-iterator;
  ends : AreEnds g.M.Machine g.G.Gate.is_open l.yielded (vec_items l.into);
}

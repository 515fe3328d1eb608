-- all_ended: the workers seen so far ended well, and `number` is their count.
use Rattle.std.{proofs.Common.{◌≡◌, ◌+◌, ◌≤◌, ◌++◌, map, vec_items, vec_len}, specs.{Prelude.{vec_capacity, Ok}, Vec.Iter.{into_iter_items, into_iter_len}}}
use Rattle.napt_pool.proofs.joining.all_ended.Given as goal

abbrev pub invariant-loop-end : goal.invariant-loop-end
invariant-loop-end g l = record {
  count : vec_len l.into + into_iter_len l.end-iterator ≡ into_iter_len l.initial.end-iterator;
  room : vec_len l.into + into_iter_len l.end-iterator ≤ vec_capacity l.into;
  number : l.number ≡ vec_len l.into;
  split : map Ok (vec_items l.into) ++ into_iter_items l.end-iterator ≡ into_iter_items l.initial.end-iterator;
}

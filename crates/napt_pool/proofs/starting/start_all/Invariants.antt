-- start_all: there is one new worker for each of the first machines.
use Rattle.std.{proofs.Common.{◌≡◌, ℕ, ◌+◌, ◌≤◌, ◌<◌, ◌++◌, [], map, vec_items, vec_len, slice_index_or}, specs.Prelude.{vec_capacity, replicate}}
use Rattle.std.specs.Vec.Iter.{into_iter_items, into_iter_len}
use Rattle.napt_pool.specs.Workers.{machine_of, accepted_of, taken_of, heard_of}
use Rattle.napt_pool.proofs.starting.start_all.Given as goal

abbrev pub invariant-loop-machine : goal.invariant-loop-machine
invariant-loop-machine g l =
    let rest = into_iter_items l.machine-iterator in let all = into_iter_items l.initial.machine-iterator in let done =
    vec_items l.workers in
    record {
      count : vec_len l.workers + into_iter_len l.machine-iterator ≡ into_iter_len l.initial.machine-iterator;
      room : vec_len l.workers + into_iter_len l.machine-iterator ≤ vec_capacity l.workers;
      number : l.number ≡ vec_len l.workers;
      machines : map machine_of done ++ rest ≡ all;
      accepted : map accepted_of done ≡ replicate (vec_len l.workers) [];
      taken : map taken_of done ≡ replicate (vec_len l.workers) [];
      heard : map heard_of done ≡ replicate (vec_len l.workers) [];
      capacity : (k : ℕ) (d : _) → k < vec_len l.workers → (slice_index_or done k d).capacity ≡ l.capacity;
    }

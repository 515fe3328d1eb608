-- start_all: one more worker is started for its machine, and at the end there is one for each.
use Rattle.std.proofs.Common.{rules, arith, ◌≡◌, ◌++◌, ◌∷◌, [], map, vec_items, vec_len, ◌+◌, below_more, ap, sym, append-nil, ◌∙◌, length}
use Rattle.std.{proofs.lemmas.List.{get_or_append_left, get_or_push}, specs.{Prelude.{slice_index_or, replicate}, Vec.Iter.into_iter_items}}
use Rattle.napt_pool.{specs.Workers.{machine_of, accepted_of, taken_of, heard_of}, proofs.JoinedWorkers.{all-push, map-split-step, drained}}
use Rattle.napt_pool.proofs.starting.start_all.Goals as goal

pub loop-machine-preserved : goal.loop-machine-preserved
loop-machine-preserved g c =
    let was = c.loop-machine.invariant in
    let started = c.in-Ok-start.ensures in
    let pushed : vec_items c.push_reserved.new.self ≡ vec_items c.loop-machine.workers ++ c.in-Ok-start.worker ∷ [] =
    search rules in
    let long : length (vec_items c.loop-machine.workers) ≡ vec_len c.loop-machine.workers = search rules in
    let grown : vec_len c.push_reserved.new.self ≡ vec_len c.loop-machine.workers + 1 = search rules in
    record {
      count = search rules;
      room = search rules;
      number = search rules;
      machines = map-split-step machine_of _ _ _ _ _ _ _ pushed started.machine (search rules) was.machines;
      accepted = all-push accepted_of _ _ _ _ _ _ pushed grown started.empty.0 was.accepted;
      taken = all-push taken_of _ _ _ _ _ _ pushed grown started.empty.1 was.taken;
      heard = all-push heard_of _ _ _ _ _ _ pushed grown started.empty.2 was.heard;
      capacity = λ k d low. below_more (λ i. (slice_index_or (vec_items c.push_reserved.new.self) i d).capacity
          ≡ c.args.capacity) (vec_len c.loop-machine.workers)
          (λ i less. ap (λ ws. (slice_index_or ws i d).capacity) pushed
          ∙ ap (λ w. w.capacity) (get_or_append_left _ _ d i (rw long less)) ∙ was.capacity i d less)
          (ap (λ ws. (slice_index_or ws (vec_len c.loop-machine.workers) d).capacity) pushed
          ∙ ap (λ w. w.capacity) (get_or_push _ _ d _ long) ∙ started.capacity) k (omega arith);
    }

pub returns-clause-started : goal.returns-clause-started
returns-clause-started g c =
    let was = c.loop-machine.invariant in
    let none : into_iter_items c.loop-machine.machine-iterator ≡ [] =
    drained c.loop-machine.machine-iterator c.in-None.ensures.steps.0 in
    let gives : into_iter_items c.into_iter-machine-iterator.result ≡ vec_items c.args.machines = search rules in
    let same : vec_len c.loop-machine.workers ≡ vec_len c.args.machines = search rules in
    record {
      machines_are = sym (append-nil (map machine_of (vec_items c.loop-machine.workers)))
          ∙ ap (λ r. map machine_of (vec_items c.loop-machine.workers) ++ r) (sym none) ∙ was.machines ∙ gives;
      accepted_are = was.accepted ∙ ap (λ n. replicate n []) same;
      taken_are = was.taken ∙ ap (λ n. replicate n []) same;
      heard_are = was.heard ∙ ap (λ n. replicate n []) same;
      capacity_is = was.capacity;
    }

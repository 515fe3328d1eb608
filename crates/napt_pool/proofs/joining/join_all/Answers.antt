-- join_all: `IsEnd` holds for one more worker.
use Rattle.std.{proofs.Common.{rules, ◌≡◌, ◌++◌, ◌∷◌, [], vec_items}, specs.Vec.Iter.into_iter_items}
use Rattle.napt_pool.proofs.JoinedWorkers.{AreEnds-push, split-step}
use Rattle.napt_pool.proofs.joining.join_all.Goals as goal

pub loop-worker-preserved : goal.loop-worker-preserved
loop-worker-preserved g c =
    let was = c.loop-worker.invariant in
    let pushed : vec_items c.push_reserved.new.self ≡ vec_items c.loop-worker.into ++ c.join.result ∷ [] =
    c.push_reserved.ensures.items in
    let next : into_iter_items c.loop-worker.worker-iterator ≡ c.in-Some.worker ∷ into_iter_items c.next.new.self =
    c.in-Some.ensures.steps.0 in
    record {
      count = search rules;
      room = search rules;
      split = split-step _ _ _ _ _ was.split next;
      ends = rw pushed (AreEnds-push g.M.Machine g.G.Gate.is_open _ _ _ _ was.ends c.join.ensures);
    }

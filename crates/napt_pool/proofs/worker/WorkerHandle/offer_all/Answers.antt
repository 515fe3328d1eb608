-- offer_all: the items of the batch are accepted, and counted as untaken.
use Rattle.std.proofs.Common.{rules, arith, ◌≡◌, length}
use Rattle.napt_pool.proofs.HistoryGrowth.{pushed_last, items_of-many, many-only, count-many}
use Rattle.napt_pool.proofs.worker.WorkerHandle.offer_all.Goals as goal

pub invariant_of-self-2-clause-open : goal.invariant_of-self-2-clause-open
invariant_of-self-2-clause-open g c =
    many-only _ _ _ c.args.self.now.open (pushed_last _ c.push_reserved.ensures.sent.0 c.has_slot.ensures.looked.1)

pub invariant_of-self-2-clause-counted : goal.invariant_of-self-2-clause-counted
invariant_of-self-2-clause-counted g c =
    let more = count-many _ _ _ (pushed_last _ c.push_reserved.ensures.sent.0 c.has_slot.ensures.looked.1) in
    let was = c.args.self.now.counted in
    let long : length c.args.batch.items.items ≡ c.len-count.result = search rules in
    omega arith

pub returns-clause-accepted : goal.returns-clause-accepted
returns-clause-accepted g c =
    items_of-many _ _ _ (pushed_last _ c.push_reserved.ensures.sent.0 c.has_slot.ensures.looked.1)

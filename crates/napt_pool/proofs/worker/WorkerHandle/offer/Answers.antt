-- offer: one more item is accepted, and one more is counted as untaken.
use Rattle.std.proofs.Common.{arith}
use Rattle.napt_pool.proofs.HistoryGrowth.{pushed_last, items_of-work, work-only, count-work}
use Rattle.napt_pool.proofs.worker.WorkerHandle.offer.Goals as goal

pub invariant_of-self-2-clause-open : goal.invariant_of-self-2-clause-open
invariant_of-self-2-clause-open g c =
    work-only _ _ _ c.args.self.now.open (pushed_last _ c.push_reserved.ensures.sent.0 c.has_slot.ensures.looked.1)

pub invariant_of-self-2-clause-counted : goal.invariant_of-self-2-clause-counted
invariant_of-self-2-clause-counted g c =
    let more = count-work _ _ _ (pushed_last _ c.push_reserved.ensures.sent.0 c.has_slot.ensures.looked.1) in
    let was = c.args.self.now.counted in omega arith

pub returns-clause-accepted : goal.returns-clause-accepted
returns-clause-accepted g c =
    items_of-work _ _ _ (pushed_last _ c.push_reserved.ensures.sent.0 c.has_slot.ensures.looked.1)

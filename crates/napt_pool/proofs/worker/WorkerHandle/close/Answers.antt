-- close: Close is the last message, and the accepted items stay the same.
use Rattle.std.proofs.Common.{arith, ap, length}
use Rattle.napt_pool.proofs.HistoryGrowth.{closed-last}
use Rattle.napt_pool.proofs.worker.WorkerHandle.close.Goals as goal

pub invariant_of-result-clause-closed : goal.invariant_of-result-clause-closed
invariant_of-result-clause-closed g c = closed-last _ _ c.args.self.open c.send_close.ensures.told

pub invariant_of-result-clause-fits : goal.invariant_of-result-clause-fits
invariant_of-result-clause-fits g c = let same = ap length c.send_close.ensures.accepted in omega arith

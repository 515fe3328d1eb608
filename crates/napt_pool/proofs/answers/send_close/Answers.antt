-- send_close: Close is not an item, so the accepted items stay the same.
use Rattle.napt_pool.proofs.HistoryGrowth.{items_of-close}
use Rattle.napt_pool.proofs.answers.send_close.Goals as goal

pub returns-clause-accepted : goal.returns-clause-accepted
returns-clause-accepted g c = items_of-close _ _ c.push_reserved.ensures.sent.0

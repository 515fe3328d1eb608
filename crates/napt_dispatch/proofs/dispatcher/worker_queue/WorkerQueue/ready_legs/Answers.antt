-- ready_legs: the legs, their number and their order stay.
use Rattle.std.proofs.Common.{refl}
use Rattle.napt_dispatch.proofs.dispatcher.worker_queue.WorkerQueue.ready_legs.Goals as goal

pub returns : goal.returns
returns c = rw (← c.self.view_is) (record {
  same = refl;
  legs_stay = c.move_legs.ensures.legs;
  count_stays = c.move_legs.ensures.count;
  shorter = c.move_legs.ensures.shorter;
})

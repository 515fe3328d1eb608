-- note_owed: the legs so far were appended to those that are owed.
use Rattle.std.proofs.Common.{◌≡◌, ◌++◌, map, take}
use Rattle.napt_dispatch.specs.WorkerQueues.{owed_of}
use Rattle.napt_dispatch.proofs.dispatcher.worker_queue.note_owed.Given as goal

abbrev pub invariant-loop-leg : goal.invariant-loop-leg
invariant-loop-leg l = l.owed.items ≡ l.initial.owed.items ++ map owed_of (take l.leg-index l.legs)

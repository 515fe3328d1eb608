-- offer_ready: the fault is that of the worker's queue.
use Rattle.std.proofs.lemmas.Result.{err_from_is_err_and}
use Rattle.napt_dispatch.proofs.dispatcher.worker_queues.WorkerQueues.offer_ready.Goals as goal

pub returns-in_err-legs-clause-fault : goal.returns-in_err-legs-clause-fault
returns-in_err-legs-clause-fault c = λ open_gate.
    let p = err_from_is_err_and c.from_residual.result c.from_residual.ensures.1 in
    rw (p.1, p.2) (c.in_err-legs.ensures.fault open_gate)

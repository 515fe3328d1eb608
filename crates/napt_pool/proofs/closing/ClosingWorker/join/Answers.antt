-- join: the replies left in the ring are answers that fit the buffer, and `IsEnd` holds.
use Rattle.napt_pool.proofs.EndHistories.{begins_replies, known_on_ok, room_on_ok, machine_if_ok, answers_if_ok, gate_if_err, told_end, told_if_end}
use Rattle.napt_pool.proofs.{HistoryGrowth.{messages_fifo, replies_fifo}, WorkerEnds.{has_received_on_ok, has_ended_early_if_err}}
use Rattle.napt_pool.proofs.closing.ClosingWorker.join.Goals as goal

pub settle-requires-clause-answered : goal.settle-requires-clause-answered
settle-requires-clause-answered g c κs within =
    known_on_ok g.M.Machine _ _ _ _ _ _ c.join-thread_end.result.end c.join-thread_end.ensures.met_close
    (replies_fifo _ _ _ _ _ c.slots_beside.ensures.looked.1 c.slots_beside.ensures.fifo
    c.slots_beside.ensures.producer.1)

pub settle-requires-clause-room : goal.settle-requires-clause-room
settle-requires-clause-room g c κs within =
    room_on_ok g.M.Machine _ _ _ _ _ _ _ _ _ _ _ _ c.join-thread_end.result.end c.join-thread_end.ensures.met_close
    (messages_fifo _ _ _ _ _ c.slots_beside-2.ensures.looked.1 c.slots_beside-2.ensures.fifo
    c.slots_beside-2.ensures.producer.1) (c.args.self.closed) c.args.self.hand
    (replies_fifo _ _ _ _ _ c.slots_beside.ensures.looked.1 c.slots_beside.ensures.fifo
    c.slots_beside.ensures.producer.1) c.args.self.fits

pub returns : goal.returns
returns g c =
    let has_run = c.join-thread_end.ensures in
    let end = c.join-thread_end.result.end in
    let is = c.settle.ensures.end in
    let looked = replies_fifo _ _ _ _ _ c.slots_beside.ensures.looked.1 c.slots_beside.ensures.fifo
    c.slots_beside.ensures.producer.1 in
    let fifo = messages_fifo _ _ _ _ _ c.slots_beside-2.ensures.looked.1 c.slots_beside-2.ensures.fifo
    c.slots_beside-2.ensures.producer.1 in
    let closed = c.args.self.closed in
    let hand = c.args.self.hand in
    record {
      machine_is = machine_if_ok g.M.Machine _ _ _ _ _ _ _ _ (λ e. e.machine) c.settle.result end is has_run.met_close
          fifo closed c.settle.ensures.machine;
      taken_are =
          begins_replies g.M.Machine _ _ _ _ _ _ _ _ _ _ _ end has_run.met_close has_run.stopped fifo closed hand
          looked;
      answers_are = answers_if_ok g.M.Machine _ _ _ _ _ _ _ _ (λ e. e.answers.items) _ _ _ _ c.settle.result end is
          has_run.met_close fifo closed hand looked c.settle.ensures.answers;
      gate = λ is_open. gate_if_err _ _ c.settle.result end is (has_run.gate is_open);
      told = λ s heard. told_if_end _ c.settle.result end s is
          (told_end g.M.Machine _ _ _ _ _ _ _ _ end has_run.met_close has_run.stopped hand looked s heard);
      has_received = has_received_on_ok g.M.Machine g.G.Gate.is_open _ c.join-thread_end.result c.settle.result _ _ _
          has_run is fifo closed;
      has_ended_early = has_ended_early_if_err g.M.Machine g.G.Gate.is_open _ c.join-thread_end.result
          c.settle.result has_run is;
    }

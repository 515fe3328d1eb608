-- pass_all: every input is read and every outcome written, or there is a fault.
use Rattle.std.proofs.{Common.inr, lemmas.Result.err_from_is_err_and}
use Rattle.napt_dispatch.proofs.RunSteps.{reads_halt, reads_over}
use Rattle.napt_dispatch.proofs.dispatcher.Dispatcher.pass_all.Goals as goal

pub returns-in_err-settle : goal.returns-in_err-settle
returns-in_err-settle g c =
    let p = err_from_is_err_and c.from_residual-in_err-settle.result c.from_residual-in_err-settle.ensures.1 in
    let r = c.in_ok-end.ensures in
    rw (p.1, p.2)
    (reads_halt g.D.OutcomeSink.fails g.met.D.OutcomeSink.takes_more g.D.OutcomeSink.is_settled
    c.settle.new.pool c.settle.new.self c.settle.new.departures g.G.Gate.is_open
    c.in_err-settle.field-0.0 r.reads r.took (inr (c.in_ok-end.end.fault, r.came)) c.in_err-settle.ensures.state)

pub returns : goal.returns
returns g c = record {
  to_end =
      let r = c.in_ok-end.ensures in
      reads_over g.D.OutcomeSink.fails g.met.D.OutcomeSink.takes_more g.D.OutcomeSink.is_settled _ _ _ c.in_ok-end.end
      r.reads r.took c.in_ok-settle.ensures.state r.came r.clock;
  done = c.in_ok-settle.ensures.done;
  none_under_way = c.in_ok-settle.ensures.left;
  few = c.in_ok-settle.ensures.few;
  settled = c.in_ok-settle.ensures.settled;
}

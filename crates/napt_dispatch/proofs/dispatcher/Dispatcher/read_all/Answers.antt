-- read_all: one more input is read, or the inputs end, or there is a fault.
use Rattle.std.proofs.{Common.{◌≡◌, ◌∙◌, List, [], ◌∷◌, ◌++◌, inl, refl, sym, ap, subst}, lemmas.Result.err_from_is_err_and}
use Rattle.napt_rules.specs.Prelude.{Arrival, last_clock}
use Rattle.napt_dispatch.proofs.RunSteps.{clock_on, reads_none, reads_on, reads_more, reads_halt, reads_over}
use Rattle.napt_dispatch.proofs.dispatcher.Dispatcher.read_all.Goals as goal

pub loop-init : goal.loop-init
loop-init g c = record {
  inputs = [];
  went = [];
  handed = g.met.A.InputSource.hands_none c.args.arrivals.now;
  clock = refl;
  reads = reads_none c.args.config.now c.args.pool.now c.args.self.now c.requires.sized c.requires.left
      c.requires.under_way;
  took = g.met.D.OutcomeSink.takes_none c.args.departures.now;
}

pub returns-in_err-make_ready : goal.returns-in_err-make_ready
returns-in_err-make_ready g c =
    let p = err_from_is_err_and c.from_residual.result c.from_residual.ensures.1 in
    let was = c.loop.invariant in
    rw (p.1, p.2)
    (reads_halt g.D.OutcomeSink.fails g.met.D.OutcomeSink.takes_more g.D.OutcomeSink.is_settled
    c.make_ready.new.pool c.make_ready.new.self c.make_ready.new.departures g.G.Gate.is_open
    c.in_err-make_ready.field-0.0 was.reads was.took (inl was.handed) c.in_err-make_ready.ensures.state)

pub loop-preserved : goal.loop-preserved
loop-preserved g c =
    let was = c.loop.invariant in
    let inputs : List Arrival = was.inputs in
    let input : Arrival = c.in-Ok-Some.input in
    let ready = c.in_ok-make_ready.ensures.state in
    let now : c.max-clock.result ≡ last_clock c.args.self.now.clock (inputs ++ input ∷ []) =
    clock_on c.args.self.now.clock inputs input c.loop.clock c.input.inside.clock c.max-clock.result was.clock
    (ap (λ (a : Arrival). a.clock) c.input.view_is) c.max-clock.ensures in
    record {
      inputs = inputs ++ input ∷ [];
      went = was.went ++ ready.went;
      handed = g.met.A.InputSource.hands_more c.args.arrivals.now c.loop.arrivals c.next_input.new.arrivals inputs
          (input ∷ []) was.handed (rw c.in-Ok-Some.field-0-is at c.in-Ok-Some.ensures.hands);
      clock = now;
      reads = reads_more (reads_on was.reads ready.goes) now
          (rw c.next_input.ensures.same at c.in_ok-serve-in-Ok-Some.ensures.serves);
      took = g.met.D.OutcomeSink.takes_more c.args.departures.now c.loop.departures c.make_ready.new.departures was.went
          ready.went was.took ready.took;
    }

pub returns-in-Ok-None : goal.returns-in-Ok-None
returns-in-Ok-None g c =
    let was = c.loop.invariant in
    rw c.next_input.ensures.same
    (reads_over g.D.OutcomeSink.fails g.met.D.OutcomeSink.takes_more g.D.OutcomeSink.is_settled _ _ _ c.new.result
    was.reads was.took c.in_ok-make_ready.ensures.state
    (record {
      last = c.loop.arrivals;
      handed = was.handed;
      ended = subst (λ fault. g.A.InputSource.ends c.loop.arrivals fault c.next_input.new.arrivals)
          (sym c.new.ensures.1)
          (rw c.in-Ok-None.field-0-is at c.in-Ok-None.ensures.hands);
    })
    (c.new.ensures.0 ∙ was.clock))

pub returns-in-Err : goal.returns-in-Err
returns-in-Err g c =
    let was = c.loop.invariant in
    rw c.next_input.ensures.same
    (reads_over g.D.OutcomeSink.fails g.met.D.OutcomeSink.takes_more g.D.OutcomeSink.is_settled _ _ _
    c.new-in-Err.result was.reads was.took c.in_ok-make_ready.ensures.state
    (record {
      last = c.loop.arrivals;
      handed = was.handed;
      ended = subst (λ fault. g.A.InputSource.ends c.loop.arrivals fault c.next_input.new.arrivals)
          (sym c.new-in-Err.ensures.1) c.in-Err.ensures.hands;
    })
    (c.new-in-Err.ensures.0 ∙ was.clock))

pub returns-in_err-serve-in-Ok-Some : goal.returns-in_err-serve-in-Ok-Some
returns-in_err-serve-in-Ok-Some g c =
    let p = err_from_is_err_and c.from_residual-in_err-serve-in-Ok-Some.result
    c.from_residual-in_err-serve-in-Ok-Some.ensures.1 in
    let was = c.loop.invariant in
    let input : Arrival = c.in-Ok-Some.input in
    let ready = c.in_ok-make_ready.ensures.state in
    rw (p.1, p.2)
    (record {
      inputs = was.inputs;
      unread = input ∷ [];
      went = was.went ++ ready.went;
      come = inl (g.met.A.InputSource.hands_more c.args.arrivals.now c.loop.arrivals c.next_input.new.arrivals
          was.inputs
          (input ∷ []) was.handed (rw c.in-Ok-Some.field-0-is at c.in-Ok-Some.ensures.hands));
      last_pool = c.make_ready.new.pool;
      last = c.make_ready.new.self;
      reads = reads_on was.reads ready.goes;
      took = g.met.D.OutcomeSink.takes_more c.args.departures.now c.loop.departures c.make_ready.new.departures was.went
          ready.went was.took ready.took;
      halted = c.in_err-serve-in-Ok-Some.ensures.fault;
    })

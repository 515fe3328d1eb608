-- hand_over: each result that leaves the window is written, or the sink fails with it.
use Rattle.std.proofs.Common.{ℕ, [], ◌∷◌, ◌++◌, refl}
use Rattle.napt_dispatch.{specs.declared.outcome_sink.InputResult.InputResult, proofs.KnownInputs.{over_more, leaves_over}}
use Rattle.napt_dispatch.proofs.dispatcher.run_progress.RunProgress.hand_over.Goals as goal

pub loop-self-preserved : goal.loop-self-preserved
loop-self-preserved g c =
    let taken = c.pop-time in
    let pair : ℕ × InputResult g.row.P.Denot = taken.result in
    let went = c.loop-self.invariant.went in
    record {
      went = went ++ pair ∷ [];
      handed = rw c.store_spare.ensures
          (over_more went (pair ∷ []) c.args.self.now c.loop-self.self taken.new.self
          c.loop-self.invariant.handed (leaves_over pair c.loop-self.self taken.new.self taken.ensures));
      took = g.met.D.OutcomeSink.takes_more c.args.departures.now c.loop-self.departures c.write.new.self went
          (pair ∷ []) c.loop-self.invariant.took c.in-Ok.ensures;
    }

pub returns-in-Err-clause-handed : goal.returns-in-Err-clause-handed
returns-in-Err-clause-handed g c =
    let taken = c.pop-time in
    let pair : ℕ × InputResult g.row.P.Denot = taken.result in
    let went = c.loop-self.invariant.went in
    record {
      went = went ++ pair ∷ [];
      handed = over_more went (pair ∷ []) c.args.self.now c.loop-self.self taken.new.self
          c.loop-self.invariant.handed (leaves_over pair c.loop-self.self taken.new.self taken.ensures);
      failed = record {
        first = went;
        others = pair ∷ [];
        middle = c.loop-self.departures;
        went_is = refl;
        took = c.loop-self.invariant.took;
        failed = c.in-Err.ensures;
      };
    }

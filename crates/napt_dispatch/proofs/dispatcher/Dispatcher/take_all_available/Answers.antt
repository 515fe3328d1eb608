-- take_all_available: the steps so far and the next worker's make one step.
use Rattle.std.proofs.{Common.{sym, ◌∙◌, ap, ◌||◌}, lemmas.Result.err_from_is_err_and}
use Rattle.napt_dispatch.proofs.{WorkerOffers.taken_more, RunSteps.continues_both, dispatcher.Dispatcher.take_all_available.Goals.{then-branch, else-branch}}
use Rattle.napt_dispatch.proofs.Lanes.{halts_after}
use Rattle.napt_dispatch.proofs.dispatcher.Dispatcher.take_all_available.Goals as goal

pub loop-w-preserved : goal.loop-w-preserved
loop-w-preserved g c =
    let more = taken_more c.args.self.now c.loop-w.self c.take_available.new.self c.loop-w.any _ c.if-branch.any in
    record {
      state = continues_both c.loop-w.invariant.state c.in_ok-take_available.ensures.state;
      told = elim c.if-branch.branch [
        | then-branch w ↦ more (w.any-is ∙ ap (λ m. m || c.loop-w.any) (sym w.if-branch.true)) c.loop-w.invariant.told
            c.in_ok-take_available.ensures.told
        | else-branch w ↦ more (w.any-is ∙ ap (λ m. m || c.loop-w.any) (sym w.if-branch.false)) c.loop-w.invariant.told
            c.in_ok-take_available.ensures.told
      ];
    }

pub returns-in_err-take_available-clause-state : goal.returns-in_err-take_available-clause-state
returns-in_err-take_available-clause-state g c =
    let p = err_from_is_err_and c.from_residual.result c.from_residual.ensures.1 in
    rw (p.1, p.2) (halts_after c.loop-w.invariant.state.grows c.in_err-take_available.ensures.state)

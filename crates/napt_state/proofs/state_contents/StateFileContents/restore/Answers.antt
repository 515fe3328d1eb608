-- restore: the state is returned if each binding fits, and otherwise the first misfit is.
use Rattle.std.proofs.Common.{◌∙◌, ap, sym, subst}
use Rattle.napt_state.specs.Saved.{IsTaken, starting}
use Rattle.napt_state.proofs.RestoredBindings.{taken_up, not_taken}
use Rattle.napt_state.proofs.state_contents.StateFileContents.restore.Goals as goal
use Rattle.napt_state.proofs.state_contents.StateFileContents.restore.Goals.{in-None, in-Some}

pub returns : goal.returns
returns c =
    let rules = c.args.config.now in
    let ends = c.args.ends_misfits in
    let is = c.in_ok-taken.ensures ∙ ap (starting ends rules) c.in_ok-whole.ensures in
    elim c.match-branch-4.branch [
      | in-None w ↦ subst (IsTaken ends rules c.args.self) (sym w.result-is)
          (taken_up ends rules c.args.self c.in_ok-taken.taken is c.in_ok-first_misfit.field-0
          c.in_ok-first_misfit.ensures w.in-None.is)
      | in-Some w ↦ subst (IsTaken ends rules c.args.self) (sym w.result-is)
          (not_taken ends rules c.args.self c.in_ok-taken.taken is c.in_ok-first_misfit.field-0
          c.in_ok-first_misfit.ensures w.in-Some.misfit w.in-Some.is)
    ]

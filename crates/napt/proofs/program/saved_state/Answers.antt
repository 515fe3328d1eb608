-- saved_state: the file of the state gets the state at the end of the run.
use Rattle.std.proofs.Common.{◌≡◌, None, IfSome, subst}
use Rattle.napt_rules.specs.Prelude.{IsStateInOrder}
use Rattle.napt.proofs.program.saved_state.Goals as goal

pub returns-in_ok-from_state-in-Some-clause-left : goal.returns-in_ok-from_state-in-Some-clause-left
returns-in_ok-from_state-in-Some-clause-left c state leaves = record {
  ordered = c.in-Some.state;
  order = subst (λ left. IfSome left (IsStateInOrder c.args.config.now state)) c.in-Some.is
      (c.in_ok-state.ensures.state c.args.config.now state leaves);
  log = None;
  contents = c.in_ok-from_state-in-Some.ensures;
}

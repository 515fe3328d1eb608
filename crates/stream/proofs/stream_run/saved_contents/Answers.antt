-- saved_contents: the file of the state gets the state at the end of the run, with the accounts of its log.
use Rattle.std.proofs.Common.{◌≡◌, Some, IfSome, subst}
use Rattle.napt_rules.specs.Prelude.{IsStateInOrder}
use Rattle.stream.proofs.stream_run.saved_contents.Goals as goal

pub returns-clause-left : goal.returns-clause-left
returns-clause-left c left order = record {
  ordered = c.in-Some.state;
  order = subst (λ state. IfSome state (IsStateInOrder c.args.config.now left)) c.in-Some.is order;
  log = Some (c.in_ok-saved.saved, c.in-Some-log.end);
  contents = c.in_ok-from_state-2.ensures;
}

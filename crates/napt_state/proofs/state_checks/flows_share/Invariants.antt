-- flows_share: the standing flows from an index on have distinct remotes.
use Rattle.std.proofs.Common.{◌≡◌, ◌≤◌, false, length, drop}
use Rattle.napt_rules.specs.Misfits.{flows_share}
use Rattle.napt_state.specs.StateReaders.{AreRemotes}
use Rattle.napt_state.proofs.StandingBindings.{standing}
use Rattle.napt_state.proofs.state_checks.flows_share.Given as goal

abbrev pub invariant-loop-left : goal.invariant-loop-left
invariant-loop-left l = record {
  within : l.left ≤ length l.flows;
  are : AreRemotes (standing l.config.timers l.now l.protocol (drop l.left l.flows)) l.remotes;
  share : flows_share (standing l.config.timers l.now l.protocol (drop l.left l.flows)) ≡ false;
}

abbrev pub decreases-loop-left : goal.decreases-loop-left
decreases-loop-left l = l.left

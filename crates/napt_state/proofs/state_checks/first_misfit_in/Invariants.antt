-- first_misfit_in: the bindings from an index on that continue have been checked.
use Rattle.std.proofs.Common.{◌≡◌, ◌≤◌, length, drop}
use Rattle.napt_rules.specs.{Opening.opening, Misfits.misfit_in, Life.hold_ago}
use Rattle.napt_state.specs.StateReaders.{AreEndpointsOf}
use Rattle.napt_state.proofs.StandingBindings.{going_on}
use Rattle.napt_state.proofs.state_checks.first_misfit_in.Given as goal

abbrev pub invariant-loop-left : goal.invariant-loop-left
invariant-loop-left l = record {
  within : l.left ≤ length l.list;
  redirects : AreEndpointsOf (opening l.config) l.redirects;
  behind : AreEndpointsOf (going_on l.config.timers l.held (drop l.left l.list)) l.behind;
  found : l.found ≡ misfit_in l.config l.clock (going_on l.config.timers l.held (drop l.left l.list));
}

abbrev pub decreases-loop-left : goal.decreases-loop-left
decreases-loop-left l = l.left

-- redirect_endpoints: the endpoints are those of the redirects from an index on.
use Rattle.std.proofs.Common.{◌≤◌, length, map, drop}
use Rattle.napt_config.specs.Rules.{pair_of}
use Rattle.napt_rules.specs.Opening.{redirect_binding}
use Rattle.napt_state.specs.StateReaders.{AreEndpointsOf}
use Rattle.napt_state.proofs.state_checks.redirect_endpoints.Given as goal

abbrev pub invariant-loop-left : goal.invariant-loop-left
invariant-loop-left l = record {
  within : l.left ≤ length l.redirects;
  are : AreEndpointsOf (map (redirect_binding (pair_of l.config)) (drop l.left l.redirects)) l.endpoints;
}

abbrev pub decreases-loop-left : goal.decreases-loop-left
decreases-loop-left l = l.left

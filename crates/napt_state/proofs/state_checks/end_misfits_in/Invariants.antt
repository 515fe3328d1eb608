-- end_misfits_in: the bindings from an index on have been checked, and those that do not fit have ended.
use Rattle.std.proofs.Common.{◌≡◌, ◌≤◌, length, drop, take}
use Rattle.napt_rules.specs.Opening.{opening}
use Rattle.napt_state.specs.{EndedMisfits.{misfits_in, ended_misfits, fitting_in}, StateReaders.AreEndpointsOf}
use Rattle.napt_state.proofs.state_checks.end_misfits_in.Given as goal

abbrev pub invariant-loop-left : goal.invariant-loop-left
invariant-loop-left l = record {
  within : l.left ≤ length l.initial.list.items;
  redirects : AreEndpointsOf (opening l.config) l.redirects;
  behind : AreEndpointsOf (fitting_in l.config l.clock (drop l.left l.initial.list.items)) l.behind;
  long : length l.list.items ≡ length l.initial.list.items;
  front : take l.left l.list.items ≡ take l.left l.initial.list.items;
  back : drop l.left l.list.items ≡ ended_misfits l.config l.clock (drop l.left l.initial.list.items);
  many : l.many ≡ misfits_in l.config l.clock (drop l.left l.initial.list.items);
}

abbrev pub decreases-loop-left : goal.decreases-loop-left
decreases-loop-left l = l.left

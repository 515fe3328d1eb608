-- redirect_endpoints: one more redirect adds its endpoints.
use Rattle.std.proofs.Common.{◌-◌, List, get_or, drop, map, subst, sym, ap, arith}
use Rattle.napt_config.specs.Rules.{pair_of}
use Rattle.napt_rules.specs.{Bindings.Binding, Opening.redirect_binding}
use Rattle.napt_state.specs.StateReaders.{AreEndpointsOf}
use Rattle.napt_state.proofs.TakenBindings.{are_more, drop_before}
use Rattle.napt_state.proofs.state_checks.redirect_endpoints.Goals as goal

pub loop-left-preserved : goal.loop-left-preserved
loop-left-preserved c =
    let r = redirect_binding (pair_of c.args.config.now) in
    let all = c.redirects-redirects.result.now in
    let left = c.loop-left.left in
    record {
      within = omega (arith, c.loop-left.invariant.within);
      are = subst (λ (l : List Binding). AreEndpointsOf l c.insert.new.self)
          (sym (ap (map r) (drop_before all left _ c.loop-left-test.true c.loop-left.invariant.within)))
          (are_more (map r (drop left all)) (r (get_or all (left - 1) _)) c.redirected.result c.loop-left.endpoints
          c.insert.new.self c.redirected.ensures c.loop-left.invariant.are c.in_ok-insert.ensures);
    }

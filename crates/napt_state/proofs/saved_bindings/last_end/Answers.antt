-- last_end: one more flow may end later.
use Rattle.std.proofs.Common.{ℕ, ◌≡◌, ◌-◌, ◌^◌, ◌∙◌, List, ◌∷◌, min, drop, length, sym, ap, arith}
use Rattle.std.proofs.Math.ListN.{drop_of_length-le}
use Rattle.napt_rules.specs.declared.Flow.{Flow}
use Rattle.napt_rules.specs.Prelude.{idle}
use Rattle.napt_binding.specs.Ends.{end_after, last_end}
use Rattle.napt_state.proofs.StandingBindings.{later_flow}
use Rattle.napt_state.proofs.saved_bindings.last_end.Goals as goal

pub loop-left-init : goal.loop-left-init
loop-left-init c =
    let flows = c.args.flows.now in
    record {
      within = omega arith;
      end = sym (ap (λ (l : List Flow). min (last_end c.args.config.now.timers l) (2 ^ 64 - 1))
          (drop_of_length-le flows (omega arith)));
    }

pub loop-left-preserved : goal.loop-left-preserved
loop-left-preserved c = record {
  within = omega (arith, c.loop-left.invariant.within);
  end = later_flow c.args.config.now.timers c.args.flows.now c.loop-left.left _ c.loop-left-test.true
      c.loop-left.invariant.within c.max-end.result c.loop-left.end c.flow_end.result (2 ^ 64 - 1)
      c.max-end.ensures c.loop-left.invariant.end c.flow_end.ensures;
}

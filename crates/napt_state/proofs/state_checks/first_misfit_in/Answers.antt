-- first_misfit_in: the reason why one more binding that continues does not fit, given those after it.
use Rattle.std.proofs.Common.{◌≡◌, ◌-◌, ◌∙◌, ℕ, List, [], ◌∷◌, Option, length, drop, subst, sym, ap, cond, not, ◌&&◌, arith}
use Rattle.std.proofs.Math.ListN.{drop_of_length-le}
use Rattle.napt_rules.specs.{Bindings.{Binding}, Misfits.{misfit_of, misfit_or, misfit_in}, declared.{Misfit.Misfit}}
use Rattle.napt_rules.specs.Life.{is_live, with_live_flows, hold_ago}
use Rattle.napt_state.specs.StateReaders.{AreEndpointsOf}
use Rattle.napt_state.proofs.{TakenBindings.are_more, StandingBindings.{going_on, going_before, dynamic_going}}
use Rattle.napt_state.proofs.state_checks.first_misfit_in.Goals as goal

pub loop-left-init : goal.loop-left-init
loop-left-init c =
    let timers = c.args.config.now.timers in
    let list = c.args.list.now in
    let none : going_on timers c.hold_ago-held.result (drop (length list) list) ≡ [] =
    ap (going_on timers c.hold_ago-held.result) (drop_of_length-le list (omega arith)) in
    record {
      within = omega arith;
      redirects = c.in_ok-redirects.ensures;
      behind = subst (λ (l : List Binding). AreEndpointsOf l c.new-behind.result) (sym none) c.new-behind.ensures;
      found = ap (misfit_in c.args.config.now c.args.clock) (sym none);
    }

pub loop-left-preserved-in-Continue-branch-3 : goal.loop-left-preserved-in-Continue-branch-3
loop-left-preserved-in-Continue-branch-3 c =
    let rules = c.args.config.now in
    let timers = rules.timers in
    let list = c.args.list.now in
    let held = c.hold_ago-held.result in
    let clock = c.args.clock in
    let rest = going_on timers held (drop c.loop-left.left list) in
    let one = c.index-list-left.result in
    let live = with_live_flows timers held one in
    let place : going_on timers held (drop (c.loop-left.left - 1) list) ≡ live ∷ rest =
    going_before timers held list c.loop-left.left _ c.loop-left-test.true c.loop-left.invariant.within
    ∙ ap (λ (b : Binding). cond (not b.row.fixed && is_live timers held b) (with_live_flows timers held b ∷ rest) rest)
    (sym c.index-list-left.is)
    ∙ ap (λ v. cond v (live ∷ rest) rest) (sym c.goes_on.ensures ∙ c.if-goes_on.true) in
    let judged = c.in_ok-misfit.ensures rest c.loop-left.invariant.redirects c.loop-left.invariant.behind
    ∙ ap (λ (n : ℕ). misfit_of rules clock (with_live_flows timers n one) rest) (sym c.hold_ago-held.ensures) in
    record {
      within = omega (arith, c.loop-left.invariant.within);
      redirects = c.loop-left.invariant.redirects;
      behind = subst (λ (l : List Binding). AreEndpointsOf l c.insert.new.self) (sym place)
          (are_more rest live c.binding.inside.row c.loop-left.behind c.insert.new.self
          (ap (λ (b : Binding). b.row) c.binding.view_is) c.loop-left.invariant.behind c.in_ok-insert.ensures);
      found = c.misfit_or-found.ensures
          ∙ ap (λ (m : Option Misfit). misfit_or one.row m c.loop-left.found) judged
          ∙ ap (misfit_or one.row (misfit_of rules clock live rest)) c.loop-left.invariant.found
          ∙ sym (ap (misfit_in rules clock) place);
    }

pub loop-left-preserved : goal.loop-left-preserved
loop-left-preserved c =
    let rules = c.args.config.now in
    let timers = rules.timers in
    let list = c.args.list.now in
    let held = c.hold_ago-held.result in
    let rest = going_on timers held (drop c.loop-left.left list) in
    let one = c.index-list-left.result in
    let place : going_on timers held (drop (c.loop-left.left - 1) list) ≡ rest =
    going_before timers held list c.loop-left.left _ c.loop-left-test.true c.loop-left.invariant.within
    ∙ ap (λ (b : Binding). cond (not b.row.fixed && is_live timers held b) (with_live_flows timers held b ∷ rest) rest)
    (sym c.index-list-left.is)
    ∙ ap (λ v. cond v (with_live_flows timers held one ∷ rest) rest) (sym c.goes_on.ensures ∙ c.if-goes_on.false) in
    record {
      within = omega (arith, c.loop-left.invariant.within);
      redirects = c.loop-left.invariant.redirects;
      behind = subst (λ (l : List Binding). AreEndpointsOf l c.loop-left.behind) (sym place)
          c.loop-left.invariant.behind;
      found = c.loop-left.invariant.found ∙ sym (ap (misfit_in rules c.args.clock) place);
    }

pub returns : goal.returns
returns c =
    let rules = c.args.config.now in
    let none : c.loop-left.left ≡ 0 = omega (arith, c.loop-left-test.false) in
    c.loop-left.invariant.found
    ∙ ap (λ (n : ℕ). misfit_in rules c.args.clock (going_on rules.timers n (drop c.loop-left.left c.args.list.now)))
    c.hold_ago-held.ensures
    ∙ ap (λ (n : ℕ). misfit_in rules c.args.clock
    (going_on rules.timers (hold_ago rules.timers c.args.clock) (drop n c.args.list.now))) none
    ∙ sym (ap (misfit_in rules c.args.clock) (dynamic_going rules
    (record { clock = c.args.clock; list = c.args.list.now })))

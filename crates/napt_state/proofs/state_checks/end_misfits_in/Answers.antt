-- end_misfits_in: one more binding, before those that have been checked, is checked.
use Rattle.std.proofs.Common.{◌≡◌, ◌∙◌, ◌+◌, ℕ, List, [], Option, None, is_some, true, false, drop, length, refl, subst, sym, ap, arith}
use Rattle.std.proofs.Math.ListN.{drop_of_length-le}
use Rattle.napt_rules.specs.{Bindings.Binding, Life.hold_ago, declared.Misfit.Misfit}
use Rattle.napt_state.specs.{EndedMisfits.{misfits_in, ended_misfits, fitting_in, ended_long_ago_if, goes_on, one_if}, StateReaders.AreEndpointsOf}
use Rattle.napt_state.proofs.{EndedBindings.{back_after, counted, fits_if_away, fits_if_on, fits_if_some, front_after, live, long_after, many_after, none_found, taken_out, value_of, why}, TakenBindings.are_more}
use Rattle.napt_state.proofs.state_checks.end_misfits_in.Goals as goal

pub loop-left-init : goal.loop-left-init
loop-left-init c =
    let rules = c.args.config.now in
    let clock = c.args.clock in
    let all : List Binding = c.args.list.now.items in
    let long : c.len-left.result ≡ length all = (let ok = c.args.list.now.ok.0 in omega (arith, c.len-left.ensures)) in
    let none : drop c.len-left.result all ≡ [] = drop_of_length-le all (omega (arith, long)) in
    record {
      within = omega (arith, long);
      redirects = c.in_ok-redirects.ensures;
      behind = subst (λ (l : List Binding). AreEndpointsOf (fitting_in rules clock l) c.new-behind.result) (sym none)
          c.new-behind.ensures;
      long = refl;
      front = refl;
      back = none ∙ sym (ap (ended_misfits rules clock) none);
      many = sym (ap (misfits_in rules clock) none);
    }

pub index_mut-binding-requires : goal.index_mut-binding-requires
index_mut-binding-requires c =
    let ok = c.loop-left.list.ok.0 in
    let inv = c.loop-left.invariant in
    omega (arith, inv.within, inv.long, c.loop-left-test.true)

pub loop-left-preserved-then-is_some : goal.loop-left-preserved-then-is_some
loop-left-preserved-then-is_some c =
    let rules = c.args.config.now in
    let clock = c.args.clock in
    let all : List Binding = c.args.list.now.items in
    let list : List Binding = c.loop-left.list.items in
    let left = c.loop-left.left in
    let b : Binding = c.index_mut-binding.result.now in
    let inv = c.loop-left.invariant in
    let some = c.loop-left-test.true in
    let at = c.index_mut-binding.ensures.value in
    let found : Option Misfit = c.in_ok-why_ended.field-0 in
    let is : found ≡ why rules clock b (drop left all) =
    c.in_ok-why_ended.ensures (fitting_in rules clock (drop left all)) inv.redirects inv.behind in
    let out : is_some found ≡ true = sym c.is_some.ensures ∙ c.if-is_some.true in
    let more : c.in-Some.more ≡ c.loop-left.many + 1 =
    value_of c.checked_add.result _ _ c.in-Some.more c.checked_add.ensures c.in-Some.is in
    record {
      within = omega (arith, inv.within);
      redirects = inv.redirects;
      behind = subst (λ (l : List Binding). AreEndpointsOf l c.loop-left.behind)
          (sym (fits_if_some rules clock all list left b some inv.within inv.long inv.front inv.back at found out
          (sym is)))
          inv.behind;
      long = long_after rules clock all list left b some inv.within inv.long inv.front inv.back at
          c.end_long_ago.new.binding;
      front = front_after rules clock all list left b some inv.within inv.long inv.front inv.back at
          c.end_long_ago.new.binding;
      back = back_after rules clock all list left b some inv.within inv.long inv.front inv.back at
          c.end_long_ago.new.binding
          (c.end_long_ago.ensures ∙ taken_out found b out ∙ ap (λ m. ended_long_ago_if m b) is);
      many = many_after rules clock all list left b some inv.within inv.long inv.front inv.back at c.in-Some.more
          (let one : one_if (why rules clock b (drop left all)) ≡ 1 = ap one_if (sym is) ∙ counted found out in
          omega (arith, more, one, inv.many));
    }

pub loop-left-preserved-in_ok-insert : goal.loop-left-preserved-in_ok-insert
loop-left-preserved-in_ok-insert c =
    let rules = c.args.config.now in
    let clock = c.args.clock in
    let all : List Binding = c.args.list.now.items in
    let list : List Binding = c.loop-left.list.items in
    let left = c.loop-left.left in
    let b : Binding = c.index_mut-binding.result.now in
    let inv = c.loop-left.invariant in
    let some = c.loop-left-test.true in
    let at = c.index_mut-binding.ensures.value in
    let found : Option Misfit = c.in_ok-why_ended.field-0 in
    let is : found ≡ why rules clock b (drop left all) =
    c.in_ok-why_ended.ensures (fitting_in rules clock (drop left all)) inv.redirects inv.behind in
    let none : why rules clock b (drop left all) ≡ None =
    sym is ∙ none_found found (sym c.is_some.ensures ∙ c.if-is_some.false) in
    let on : goes_on rules.timers (hold_ago rules.timers clock) b ≡ true =
    sym (c.goes_on.ensures ∙ ap (λ n. goes_on rules.timers n b) c.hold_ago.ensures) ∙ c.if-goes_on.true in
    record {
      within = omega (arith, inv.within);
      redirects = inv.redirects;
      behind = subst (λ (l : List Binding). AreEndpointsOf l c.insert.new.self)
          (sym (fits_if_on rules clock all list left b some inv.within inv.long inv.front inv.back at on none))
          (are_more (fitting_in rules clock (drop left all)) (live rules clock b (drop left all)) c.binding.inside.row
          c.loop-left.behind c.insert.new.self (ap (λ (d : Binding). d.row) c.binding.view_is) inv.behind
          c.in_ok-insert.ensures);
      long = long_after rules clock all list left b some inv.within inv.long inv.front inv.back at b;
      front = front_after rules clock all list left b some inv.within inv.long inv.front inv.back at b;
      back = back_after rules clock all list left b some inv.within inv.long inv.front inv.back at b
          (sym (ap (λ m. ended_long_ago_if m b) none));
      many = many_after rules clock all list left b some inv.within inv.long inv.front inv.back at c.loop-left.many
          (let zero : one_if (why rules clock b (drop left all)) ≡ 0 = ap one_if none in omega (arith, zero, inv.many));
    }

pub loop-left-preserved : goal.loop-left-preserved
loop-left-preserved c =
    let rules = c.args.config.now in
    let clock = c.args.clock in
    let all : List Binding = c.args.list.now.items in
    let list : List Binding = c.loop-left.list.items in
    let left = c.loop-left.left in
    let b : Binding = c.index_mut-binding.result.now in
    let inv = c.loop-left.invariant in
    let some = c.loop-left-test.true in
    let at = c.index_mut-binding.ensures.value in
    let found : Option Misfit = c.in_ok-why_ended.field-0 in
    let is : found ≡ why rules clock b (drop left all) =
    c.in_ok-why_ended.ensures (fitting_in rules clock (drop left all)) inv.redirects inv.behind in
    let none : why rules clock b (drop left all) ≡ None =
    sym is ∙ none_found found (sym c.is_some.ensures ∙ c.if-is_some.false) in
    let away : goes_on rules.timers (hold_ago rules.timers clock) b ≡ false =
    sym (c.goes_on.ensures ∙ ap (λ n. goes_on rules.timers n b) c.hold_ago.ensures) ∙ c.if-goes_on.false in
    record {
      within = omega (arith, inv.within);
      redirects = inv.redirects;
      behind = subst (λ (l : List Binding). AreEndpointsOf l c.loop-left.behind)
          (sym (fits_if_away rules clock all list left b some inv.within inv.long inv.front inv.back at away))
          inv.behind;
      long = long_after rules clock all list left b some inv.within inv.long inv.front inv.back at b;
      front = front_after rules clock all list left b some inv.within inv.long inv.front inv.back at b;
      back = back_after rules clock all list left b some inv.within inv.long inv.front inv.back at b
          (sym (ap (λ m. ended_long_ago_if m b) none));
      many = many_after rules clock all list left b some inv.within inv.long inv.front inv.back at c.loop-left.many
          (let zero : one_if (why rules clock b (drop left all)) ≡ 0 = ap one_if none in omega (arith, zero, inv.many));
    }

pub returns-clause-list : goal.returns-clause-list
returns-clause-list c =
    let rules = c.args.config.now in
    let zero : c.loop-left.left ≡ 0 = omega (arith, c.loop-left-test.false) in
    ap (λ n. drop n c.loop-left.list.items) (sym zero) ∙ c.loop-left.invariant.back
    ∙ ap (λ n. ended_misfits rules c.args.clock (drop n c.args.list.now.items)) zero

pub returns-clause-many : goal.returns-clause-many
returns-clause-many c =
    let zero : c.loop-left.left ≡ 0 = omega (arith, c.loop-left-test.false) in
    c.loop-left.invariant.many ∙ ap (λ n. misfits_in c.args.config.now c.args.clock (drop n c.args.list.now.items)) zero

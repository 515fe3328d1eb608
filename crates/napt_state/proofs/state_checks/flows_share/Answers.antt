-- flows_share: a flow shares a remote if its own is among those of the later flows that stand.
use Rattle.std.proofs.Common.{◌≡◌, ◌∙◌, ℕ, drop, sym, ap, subst, arith, List}
use Rattle.napt_rules.specs.Misfits.{flows_share}
use Rattle.napt_rules.specs.declared.Flow.{Flow}
use Rattle.napt_state.specs.StateReaders.{AreRemotes}
use Rattle.napt_state.proofs.{TakenBindings.{told_true, told_false}, StandingBindings.{standing, few_share, standing_live, first_falls, stands_share, stands_alone, stands_more}}
use Rattle.napt_state.proofs.state_checks.flows_share.Goals as goal

pub returns-then-flows-lt2 : goal.returns-then-flows-lt2
returns-then-flows-lt2 c = sym (few_share c.args.config.now.timers c.args.now c.args.protocol c.args.flows.now
    c.if-flows-lt2.true)

pub returns-then-not-branch : goal.returns-then-not-branch
returns-then-not-branch c = sym (stands_share c.args.config.now.timers c.args.now c.args.protocol c.args.flows.now
    c.loop-left.left _ c.loop-left.remotes c.loop-left-test.true c.loop-left.invariant.within
    c.loop-left.invariant.are (sym c.is_standing.ensures ∙ c.if-is_standing.true)
    (told_true c.in_ok-insert.field-0 _ c.in_ok-insert.ensures.added c.if-not-branch.true))

pub loop-left-preserved-else-not-branch : goal.loop-left-preserved-else-not-branch
loop-left-preserved-else-not-branch c = record {
  within = omega (arith, c.loop-left.invariant.within);
  are = stands_more c.args.config.now.timers c.args.now c.args.protocol c.args.flows.now c.loop-left.left _
      c.loop-left.remotes c.loop-left-test.true c.loop-left.invariant.within c.loop-left.invariant.are
      (sym c.is_standing.ensures ∙ c.if-is_standing.true) c.insert.new.self c.in_ok-insert.ensures.updates.0;
  share = stands_alone c.args.config.now.timers c.args.now c.args.protocol c.args.flows.now c.loop-left.left _
      c.loop-left.remotes c.loop-left-test.true c.loop-left.invariant.within c.loop-left.invariant.are
      (sym c.is_standing.ensures ∙ c.if-is_standing.true) c.loop-left.invariant.share
      (told_false c.in_ok-insert.field-0 _ c.in_ok-insert.ensures.added c.if-not-branch.false);
}

pub loop-left-preserved : goal.loop-left-preserved
loop-left-preserved c =
    let same = first_falls c.args.config.now.timers c.args.now c.args.protocol c.args.flows.now c.loop-left.left _
    c.loop-left.remotes c.loop-left-test.true c.loop-left.invariant.within c.loop-left.invariant.are
    (sym c.is_standing.ensures ∙ c.if-is_standing.false) in
    record {
      within = omega (arith, c.loop-left.invariant.within);
      are = subst (λ (l : List Flow). AreRemotes l c.loop-left.remotes) (sym same) c.loop-left.invariant.are;
      share = ap flows_share same ∙ c.loop-left.invariant.share;
    }

pub returns : goal.returns
returns c =
    let none : c.loop-left.left ≡ 0 = omega (arith, c.loop-left-test.false) in
    sym (ap flows_share (sym (standing_live c.args.config.now.timers c.args.now c.args.protocol c.args.flows.now))
    ∙ ap (λ (n : ℕ). flows_share (standing c.args.config.now.timers c.args.now c.args.protocol
    (drop n c.args.flows.now))) (sym none)
    ∙ c.loop-left.invariant.share)

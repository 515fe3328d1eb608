-- `purge`: each binding whose hold time is over was removed.
use Rattle.std.proofs.Common.{◌≡◌, ℕ, ◌≤◌, true, All, subst, sym, ◌∙◌}
use Rattle.napt_config.specs.declared.settings.Timers.{Timers}
use Rattle.napt_rules.specs.Prelude.{is_live, hold_ago}
use Rattle.napt_table.{specs.{declared.bindings.keys.ExternalNumberKey.ExternalNumberKey, BindingIndexes.KeepsSeen}, proofs.{Queues.all_live, AssignedNumbers.keeps_then}}
use Rattle.napt_table.proofs.bindings.Bindings.purge.Goals as goal

pub returns : goal.returns
returns c =
    let i = c.loop.invariant in
    let k = c.purge_first.ensures in
    let old = c.args.self.now in
    let mid = c.loop.self in
    let new = c.purge_first.new.self in
    record {
      timers_is = k.timers ∙ i.timers;
      at_is = k.at ∙ i.at;
      keeps = keeps_then old.timers (hold_ago old.timers old.at) old.held mid.held new.held i.keeps
          (subst (λ (t : Timers). KeepsSeen t (hold_ago t old.at) mid.held new.held) i.timers
          (subst (λ (a : ℕ). KeepsSeen mid.timers (hold_ago mid.timers a) mid.held new.held) i.at k.keeps));
      room = λ h. k.room (i.room h);
      live = λ key b h. subst (λ (t : Timers). is_live t (hold_ago t old.at) b ≡ true) (k.timers ∙ i.timers)
          (subst (λ (a : ℕ). is_live new.timers (hold_ago new.timers a) b ≡ true) (k.at ∙ i.at)
          (all_live new.timers new.at new.held new.due.entries k.due
          (subst (λ (t : Timers). All (λ (e : ℕ × ExternalNumberKey). hold_ago t new.at ≤ e.0) new.due.entries)
          (sym k.timers)
          (subst (λ (a : ℕ). All (λ (e : ℕ × ExternalNumberKey). hold_ago mid.timers a ≤ e.0) new.due.entries)
          (sym k.at)
          (k.none c.loop-test.false))) key b h));
    }

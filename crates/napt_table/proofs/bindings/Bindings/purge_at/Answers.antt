-- `purge_at`: each binding whose hold time is over at `now` was removed, and the queue is still valid.
use Rattle.std.proofs.Common.{◌≤◌, sym, subst}
use Rattle.napt_table.{specs.Bindings.BindingsModel, proofs.Queues.due_later}
use Rattle.napt_table.proofs.bindings.Bindings.purge_at.Goals as goal

pub invariant_of-self : goal.invariant_of-self
invariant_of-self c =
    let s = c.self.inside in
    due_later s.timers s.at c.args.now s.held s.due.entries
    (subst (λ (x : BindingsModel). x.at ≤ c.args.now) (sym c.self.view_is) c.requires.later) c.self.invariant

pub returns : goal.returns
returns c =
    let k = c.purge.ensures in
    rw (← c.self.view_is) (record {
      timers_is = k.timers_is;
      at_is = k.at_is;
      keeps = k.keeps;
      room = λ h. k.room (record { held = h.held; queue = h.queue });
      live = k.live;
    })

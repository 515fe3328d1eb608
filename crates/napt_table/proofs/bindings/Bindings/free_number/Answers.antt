-- `free_number`: the number is the least that no binding has, live or held.
use Rattle.std.{proofs.Common.{◌≡◌, ◌∙◌, sym, ap}, specs.Option.is_some}
use Rattle.napt_rules.specs.Prelude.{hold_ago}
use Rattle.napt_table.{specs.{Bindings.BindingsModel, HeldLists.seen_binding, BindingIndexes.{BindingIndexModel, held_at}, Keys.external_key}, proofs.LeastFree.first_agrees}
use Rattle.napt_table.proofs.SeenBindings.{live_is_seen}
use Rattle.napt_table.proofs.bindings.Bindings.free_number.Goals as goal

pub returns-clause-spare : goal.returns-clause-spare
returns-clause-spare c =
    let k = c.purge_at.ensures in
    let protocol = c.args.protocol in
    let held_is : c.self.inside.held ≡ c.purge_at.new.self.held = ap (λ (s : BindingsModel). s.held) c.self.view_is in
    first_agrees (λ n. is_some (held_at c.self.inside.held protocol n))
    (λ n. is_some (seen_binding c.args.self.now.timers (hold_ago c.args.self.now.timers c.args.now)
    (held_at c.args.self.now.held protocol n))) 1 65536
    (λ n small. ap (λ (h : BindingIndexModel). is_some (held_at h protocol n)) held_is
    ∙ sym (live_is_seen c.args.self.now.timers (hold_ago c.args.self.now.timers c.args.now)
    (held_at c.purge_at.new.self.held protocol n)
    (k.live (external_key protocol n)))
    ∙ ap is_some (k.keeps.seen_same (external_key protocol n))) c.least_free.result c.least_free.ensures

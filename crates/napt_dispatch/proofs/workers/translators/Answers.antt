-- translators: one more translator is appended.
use Rattle.std.{proofs.Common.{◌≡◌, [], ◌∷◌, ◌++◌, map, sym, ◌∙◌, ap, append_assoc}, specs.Vec.Iter.into_iter_items}
use Rattle.napt_dispatch.proofs.workers.translators.Goals as goal

pub loop-worker-preserved : goal.loop-worker-preserved
loop-worker-preserved g c =
    rw (c.in_ok-push.ensures.items, c.into_translator.ensures)
    (append_assoc c.loop-worker.made.items (c.in-Some.worker.machine ∷ [])
    (map (λ e. e.machine) (into_iter_items c.next.new.self))
    ∙ (ap (λ l. c.loop-worker.made.items ++ map (λ e. e.machine) l) (sym c.in-Some.ensures.steps.0)
    ∙ c.loop-worker.invariant))

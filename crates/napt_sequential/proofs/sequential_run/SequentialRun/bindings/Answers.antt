-- bindings: the rows are those of the run.
use Rattle.std.{proofs.Common.{◌∙◌, ap}, specs.Prelude.flat_map}
use Rattle.napt_sequential.{specs.CountedTranslators.rows_at, proofs.{Results.if_ok, SequentialRuns.bindings_shown}}
use Rattle.napt_sequential.proofs.sequential_run.SequentialRun.bindings.Goals as goal

pub returns : goal.returns
returns c = λ rules state inputs stands. if_ok _ _ c.bindings.result (λ made shown.
    bindings_shown rules state inputs c.args.self.now stands made.items
    (shown ∙ ap (flat_map (rows_at c.args.self.now.clock)) c.deref.ensures.value)) c.bindings.ensures

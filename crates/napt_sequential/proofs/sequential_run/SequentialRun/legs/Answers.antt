-- legs: the numbers are those of the run's legs.
use Rattle.std.proofs.Common.{◌∙◌, ap, map}
use Rattle.napt_sequential.{specs.declared.counted_translator.CountedTranslator.CountedTranslator, proofs.{Results.if_ok, SequentialRuns.legs_shown}}
use Rattle.napt_sequential.proofs.sequential_run.SequentialRun.legs.Goals as goal

pub returns : goal.returns
returns c = λ rules state inputs stands. if_ok _ _ c.legs.result (λ made shown.
    legs_shown rules state inputs c.args.self.now stands made.items
    (shown ∙ ap (map (λ (s : CountedTranslator). s.legs)) c.deref.ensures.value)) c.legs.ensures

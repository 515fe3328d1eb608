-- final_state: the state is the one after the run, in order.
use Rattle.std.proofs.Common.{List, subst}
use Rattle.napt_sequential.specs.{declared.counted_translator.CountedTranslator.CountedTranslator, CountedTranslators.AreBindingsOfAll}
use Rattle.napt_sequential.proofs.LeftTranslators.{all_left}
use Rattle.napt_sequential.proofs.sequential_run.SequentialRun.final_state.Goals as goal

pub returns : goal.returns
returns c = λ rules state inputs stands.
    all_left rules state inputs c.args.self.now.translators.items stands.translators c.args.self.now.clock
    stands.clock c.in_ok-list.list.items
    (subst (λ (ts : List CountedTranslator). AreBindingsOfAll c.args.self.now.clock ts c.in_ok-list.list.items)
    c.deref.ensures.value c.in_ok-list.ensures)

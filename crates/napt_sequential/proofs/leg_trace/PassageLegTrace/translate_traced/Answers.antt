-- translate_traced: the look-up after the leg finds the binding that its packet used.
use Rattle.napt_sequential.proofs.LookUps.{told_there}
use Rattle.napt_sequential.proofs.leg_trace.PassageLegTrace.translate_traced.Goals as goal

pub returns-clause-trace : goal.returns-clause-trace
returns-clause-trace c =
    told_there c.args.leg c.args.translator.now c.keep_rules.ensures.timers c.in_ok-answer.answer
    c.in_ok-answer.ensures.answer c.from_packet-seen.result c.from_packet-seen.ensures c.translate_noting.new.made
    c.in_ok-answer.ensures.made c.translate_noting.new.self
    c.in_ok-answer.ensures.left c.passage-passage.result c.passage-passage.ensures

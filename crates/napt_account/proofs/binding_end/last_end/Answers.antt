-- last_end: one more flow may end later.
use Rattle.std.proofs.Common.{sym, ◌∙◌, ap, max, take}
use Rattle.napt_binding.{specs.Ends.last_end, proofs.FirstEnds.last_end_more}
use Rattle.napt_account.proofs.binding_end.last_end.Goals as goal

pub loop-flow-preserved : goal.loop-flow-preserved
loop-flow-preserved c =
    c.max-last.ensures ∙ (ap (max c.flow_end.result) c.loop-flow.invariant
    ∙ (ap (λ v. max v (last_end c.args.timers (take c.loop-flow.flow-index c.args.flows.now))) c.flow_end.ensures
    ∙ sym (last_end_more c.args.timers c.args.flows.now c.loop-flow.flow-index _ c.loop-flow-test.true)))

-- push_live: the lines of the binding and of the flows so far have been appended.
use Rattle.std.{proofs.Common.{◌++◌, take, flat_map}, specs.Io.KnownBytes.Appends}
use Rattle.napt_state.specs.StateText.{binding, flow, line_text}
use Rattle.napt_state.proofs.text.push_live.Given as goal

abbrev pub invariant-loop-flow : goal.invariant-loop-flow
invariant-loop-flow g l = Appends (g.W.Write.contents l.fn.writer) (g.W.Write.contents l.writer)
    (line_text (binding l.binding.row l.binding.last l.fn.account)
    ++ flat_map (λ f. line_text (flow f)) (take l.flow-index l.binding.flows))

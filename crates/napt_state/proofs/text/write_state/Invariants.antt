-- write_state: the lines of the clock, of the log and of the bindings so far have been written.
use Rattle.std.{proofs.Common.{◌++◌, take, flat_map}, specs.Io.KnownBytes.Appends}
use Rattle.napt_state.specs.StateText.{clock, binding_lines, line_text, log_lines}
use Rattle.napt_state.proofs.text.write_state.Given as goal

abbrev pub invariant-loop-binding : goal.invariant-loop-binding
invariant-loop-binding g l = Appends (g.W.Write.contents l.fn.writer) (g.W.Write.contents l.writer)
    (line_text (clock l.saved.clock) ++ (flat_map line_text (log_lines l.saved.log)
    ++ flat_map (λ b. flat_map line_text (binding_lines b)) (take l.binding-index l.saved.bindings)))

-- write_state: with the last line the whole text has been written, and it has been flushed.
use Rattle.std.proofs.Common.{length, ap, arith}
use Rattle.napt_state.specs.StateFiles.{StateFileModel}
use Rattle.napt_state.specs.declared.saved_bindings.SavedBinding.{SavedBinding}
use Rattle.napt_state.proofs.WrittenTexts.{finished, written_saved}
use Rattle.napt_state.proofs.text.write_state.Goals as goal

pub returns : goal.returns
returns g c =
    let same = ap (λ (s : StateFileModel). length s.bindings) c.saved.view_is in
    finished c.flush.result (written_saved c.args.saved.now c.in_ok-counts.counts _ _ _ _ _
    (omega (arith, same, c.loop-binding-test.false, ap (length {A = SavedBinding}) c.deref-binding-items.ensures.value))
    c.in_ok-counts.ensures c.loop-binding.invariant c.in_ok-write_line-2.ensures c.flush.ensures.bytes)

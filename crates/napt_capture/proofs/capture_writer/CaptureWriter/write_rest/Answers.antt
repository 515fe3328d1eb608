-- write_rest: each write appends to what was written before.
use Rattle.std.{proofs.{Common.{◌≡◌, ◌+◌, ◌-◌, length, take, drop, subst}, lemmas.List.take_rest}, specs.Io.{WritesAtMost, KnownBytes.WriteAppends}}
use Rattle.napt_capture.{specs.Device.failed_writes, proofs.PutSteps.takes_more}
use Rattle.napt_capture.proofs.capture_writer.CaptureWriter.write_rest.Goals as goal

pub loop-done-preserved : goal.loop-done-preserved
loop-done-preserved g c =
    let bytes = c.args.bytes.now in
    let done = c.loop-done.done in
    let rest : take (length bytes - done) (drop done bytes) ≡ drop done bytes = take_rest bytes done in
    let call = c.write.ensures in
    let before = g.W.Sink.failed c.loop-done.writer in
    let after = g.W.Sink.failed c.write.new.self in
    let counted = subst (λ part. after ≡ before + failed_writes c.write.result part) rest call.count in
    takes_more c.write.result _ _ _ bytes done c.unwrap_or-count.result _ _ _ c.unwrap_or-count.ensures
    c.if-count-eq0.false
    (subst (WritesAtMost c.write.result) rest call.bound) (subst (WriteAppends _ _ c.write.result) rest call.bytes)
    counted c.loop-done.invariant.0 c.loop-done.invariant.1 c.loop-done.invariant.2

-- write_rest: the first `done` bytes were written, and no write failed.
use Rattle.std.{proofs.Common.{◌≡◌, ◌-◌, ◌≤◌, length, take}, specs.Io.KnownBytes.Appends}
use Rattle.napt_capture.proofs.capture_writer.CaptureWriter.write_rest.Given as goal

abbrev pub invariant-loop-done : goal.invariant-loop-done
invariant-loop-done g l =
    (l.done ≤ length l.bytes)
    × Appends (g.W.Sink.contents l.initial.writer) (g.W.Sink.contents l.writer) (take l.done l.bytes)
    × (g.W.Sink.failed l.writer ≡ g.W.Sink.failed l.initial.writer)

abbrev pub decreases-loop-done : goal.decreases-loop-done
decreases-loop-done g l = length l.bytes - l.done

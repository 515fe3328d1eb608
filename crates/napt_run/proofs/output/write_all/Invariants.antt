-- write_all: the bytes so far have been written, and no write failed.
use Rattle.std.{proofs.Common.{◌≡◌, ◌-◌, ◌≤◌, length, take}, specs.Io.KnownBytes.Appends}
use Rattle.napt_run.proofs.output.write_all.Given as goal

abbrev pub invariant-loop-done : goal.invariant-loop-done
invariant-loop-done g l =
    (l.done ≤ length l.bytes)
    × Appends (g.W.Sink.contents l.initial.device) (g.W.Sink.contents l.device) (take l.done l.bytes)
    × (g.W.Sink.failed l.device ≡ g.W.Sink.failed l.initial.device)

abbrev pub decreases-loop-done : goal.decreases-loop-done
decreases-loop-done g l = length l.bytes - l.done

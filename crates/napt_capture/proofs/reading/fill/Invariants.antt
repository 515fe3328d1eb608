-- fill: the first `filled` bytes of the buffer are those consumed, and no read failed.
use Rattle.std.{proofs.Common.{◌≡◌, ◌-◌, ◌≤◌, length, take}, specs.Io.KnownBytes.Consumes}
use Rattle.napt_capture.proofs.reading.fill.Given as goal

abbrev pub invariant-loop-filled : goal.invariant-loop-filled
invariant-loop-filled g l =
    (l.filled ≤ length l.buffer)
    × Consumes (g.R.Source.remaining l.initial.reader) (g.R.Source.remaining l.reader) (take l.filled l.buffer)
    × (g.R.Source.failed l.reader ≡ g.R.Source.failed l.initial.reader)

abbrev pub decreases-loop-filled : goal.decreases-loop-filled
decreases-loop-filled g l = length l.initial.buffer - l.filled

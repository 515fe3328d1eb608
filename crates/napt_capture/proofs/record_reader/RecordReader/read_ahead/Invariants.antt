-- read_ahead: nothing of the text is returned, and nothing is read if it is known what comes next.
use Rattle.std.proofs.Common.{◌≡◌, ◌-◌, length}
use Rattle.napt_capture.specs.RecordReaders.{RecordsAskSource, HandsOutNothing}
use Rattle.napt_capture.proofs.record_reader.RecordReader.read_ahead.Given as goal

abbrev pub invariant-loop-self : goal.invariant-loop-self
invariant-loop-self g l =
    HandsOutNothing l.fn.self (g.R.Source.remaining l.fn.source) l.self (g.R.Source.remaining l.source)
    × (g.R.Source.failed l.source ≡ g.R.Source.failed l.fn.source)
    × ((¬ RecordsAskSource l.fn.self) → (l.source ≡ l.fn.source) × (l.self ≡ l.fn.self))

abbrev pub decreases-loop-self : goal.decreases-loop-self
decreases-loop-self g l = 1048576 - length l.self.ahead

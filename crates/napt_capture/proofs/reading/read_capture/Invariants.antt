-- read_capture: the bytes read so far are those of the file header and of these records, and no read failed.
use Rattle.std.proofs.Common.{◌≡◌, ◌+◌, ◌-◌, ◌*◌, ◌≤◌, All, length}
use Rattle.napt_capture.{specs.Prelude.{MOST_ASKED, bytes_asked_for_records, LeavesBytes, IsWritable}, proofs.WholeReading.Progress}
use Rattle.napt_capture.proofs.reading.read_capture.Given as goal

abbrev pub invariant-loop-records : goal.invariant-loop-records
invariant-loop-records g l = record {
  progress : LeavesBytes (g.R.Source.remaining l.fn.reader) (g.R.Source.remaining l.reader)
      (Progress l.format l.records.items l.asked);
  counted : l.asked ≡ 24 + bytes_asked_for_records l.records.items;
  room : l.asked ≤ MOST_ASKED;
  live : g.R.Source.failed l.reader ≡ g.R.Source.failed l.fn.reader;
  writable : All IsWritable l.records.items;
  many : 24 + 16 * length l.records.items ≤ l.asked;
}

abbrev pub decreases-loop-records : goal.decreases-loop-records
decreases-loop-records g l = MOST_ASKED - l.asked

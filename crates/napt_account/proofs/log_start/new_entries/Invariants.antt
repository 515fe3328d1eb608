-- new_entries: the set has the endpoints of the entries so far; the rows so far have got their new entries.
use Rattle.std.proofs.Common.{◌≡◌, ◌+◌, filter, length, map, not, take}
use Rattle.napt_account.specs.{Log.{numbered_from, unused_entry}, LogStarts.has_entry, OpenEntries.IsNumberedRow}
use Rattle.napt_rules.specs.Prelude.{Each}
use Rattle.napt_account.proofs.NewEntries.{HasRows}
use Rattle.napt_account.proofs.log_start.new_entries.Given as goal

abbrev pub invariant-loop-numbered : goal.invariant-loop-numbered
invariant-loop-numbered l = HasRows (take l.numbered-index l.entries) l.endpoints

abbrev pub invariant-loop-timed : goal.invariant-loop-timed
invariant-loop-timed l = record {
  numbered : Each IsNumberedRow (map (λ timed. timed.row) (take l.timed-index l.live));
  number : l.number ≡ l.made + length l.begun.items;
  begun : l.begun.items ≡ numbered_from (l.made + 1) (map (λ timed. unused_entry timed.row l.clock timed.end)
      (filter (λ timed. not (has_entry l.entries timed)) (take l.timed-index l.live)));
}

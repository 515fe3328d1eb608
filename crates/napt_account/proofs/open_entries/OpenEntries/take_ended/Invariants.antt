-- take_ended: the entries that were removed have ended, and the rest is still there.
use Rattle.std.proofs.Common.{◌≡◌}
use Rattle.napt_account.{specs.OpenEntries.{due_within, IsIndexed}, proofs.EndOrder.IsParted}
use Rattle.napt_account.proofs.open_entries.OpenEntries.take_ended.Given as goal

abbrev pub invariant-loop-key : goal.invariant-loop-key
invariant-loop-key l = record {
  made : l.self.made ≡ l.fn.self.made;
  parted : IsIndexed l.fn.self → IsParted l.now l.fn.self l.self l.ended.items;
}

abbrev pub decreases-loop-key : goal.decreases-loop-key
decreases-loop-key l = due_within l.now l.self

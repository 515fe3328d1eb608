-- resumed_entries: the entries so far are those of the first bindings that have accounts.
use Rattle.std.proofs.Common.{◌≡◌, map, take}
use Rattle.napt_account.specs.LogStarts.{accounted, resumed_entry}
use Rattle.napt_account.proofs.log_start.resumed_entries.Given as goal

abbrev pub invariant-loop-place : goal.invariant-loop-place
invariant-loop-place l = l.all.items
    ≡ map (resumed_entry l.config l.state.clock) (accounted (take l.place l.state.list) l.saved.accounts)

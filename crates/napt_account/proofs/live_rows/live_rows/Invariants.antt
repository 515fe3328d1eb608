-- live_rows: the rows so far are the redirects and the live ones of the first bindings.
use Rattle.std.proofs.Common.{◌≡◌}
use Rattle.napt_account.proofs.LiveRows.{live_to}
use Rattle.napt_account.proofs.live_rows.live_rows.Given as goal

abbrev pub invariant-loop-binding : goal.invariant-loop-binding
invariant-loop-binding l = l.live.items ≡ live_to l.config l.state l.binding-index

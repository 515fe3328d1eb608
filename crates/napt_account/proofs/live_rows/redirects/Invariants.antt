-- redirects: the rows so far are those of the first redirects.
use Rattle.std.proofs.Common.{◌≡◌, map, take}
use Rattle.napt_rules.specs.Prelude.{pair_of, redirect_binding}
use Rattle.napt_table.specs.TimedRows.{timed_row}
use Rattle.napt_account.proofs.live_rows.redirects.Given as goal

abbrev pub invariant-loop-redirect : goal.invariant-loop-redirect
invariant-loop-redirect l = l.made.items
    ≡ map (λ r. timed_row l.config.timers (redirect_binding (pair_of l.config) r))
    (take l.redirect-index l.config.redirects)

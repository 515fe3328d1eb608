-- `redirects`: the invariant of the loop over the redirects.
use Rattle.std.proofs.Common.{◌≡◌}
use Rattle.napt_table.{specs.Tables.initial_table, proofs.TableBuilders.begun}
use Rattle.napt_table.proofs.table_builder.TableBuilder.redirects.Given as goal

-- The builder has the bindings of the redirects so far.
abbrev pub invariant-loop-redirect : goal.invariant-loop-redirect
invariant-loop-redirect l = l.beginning
    ≡ record (initial_table l.config l.address) { list = begun l.config l.address l.redirect-index; at = l.at }

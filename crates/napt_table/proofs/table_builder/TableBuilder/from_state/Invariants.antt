-- `from_state`: the invariant of the loop over the state's bindings.
use Rattle.std.proofs.Common.{◌≡◌}
use Rattle.napt_table.{specs.Tables.resumed_table, proofs.ResumedTables.begun_to}
use Rattle.napt_table.proofs.table_builder.TableBuilder.from_state.Given as goal

-- The builder has the redirects and the bindings of the state so far.
abbrev pub invariant-loop-binding : goal.invariant-loop-binding
invariant-loop-binding l = l.beginning
    ≡ record (resumed_table l.config l.address l.state) { list = begun_to l.config l.address l.state l.binding-index }

-- `from_state`: the table of a saved state satisfies the invariant of tables.
use Rattle.std.proofs.Common.{sym, subst}
use Rattle.napt_table.{specs.Tables.IsTable, proofs.ResumedTables.resumed_is_table}
use Rattle.napt_table.proofs.table.Table.from_state.Goals as goal

pub from_builder-requires : goal.from_builder-requires
from_builder-requires c = subst IsTable (sym c.in_ok-from_state.ensures.shown)
    (resumed_is_table c.args.config.now c.args.address c.args.state.now c.in_ok-from_state.ensures.rules c.requires)

-- A table that is stored in maps, as contracts see it, and its invariant.
use Rattle.std.specs.Prelude.{List, map}
use Rattle.napt_rules.specs.Prelude.{Binding}
use Rattle.napt_table.specs.{declared.table.Table.TheInside.Inside, Bindings.ListAgrees, Events.list_after_events, Tables.{TableModel, IsTable}}

-- Returns the list of the contracts: the bindings at the start, after all events since then.
abbrev pub list_of : Inside → List Binding
list_of table =
    list_after_events table.bindings.timers table.bindings.held.assignment table.inbound table.bindings.held.address
    table.events.items (map (λ e. e.1) table.initial.items)

abbrev pub table_model : Inside → TableModel
table_model table = record {
  address = table.bindings.held.address;
  timers = table.bindings.timers;
  assignment = table.bindings.held.assignment;
  inbound = table.inbound;
  list = list_of table;
  at = table.bindings.at;
}

pub record KeepsItsList (table : Inside) : Type 0 where
  pub state : IsTable (table_model table)
  pub keeps : ListAgrees table.bindings.timers table.bindings.at table.bindings.held.address table.bindings.held
      (list_of table)

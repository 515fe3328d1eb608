-- A table before its first packet, and the bindings that it gets from a saved state.
use Rattle.std.specs.Prelude.{◌≡◌, ℕ, not, List, map, filter, find}
use Rattle.napt_wire.specs.declared.Protocol.{Protocol}
use Rattle.napt_config.specs.declared.settings.Timers.{Timers}
use Rattle.napt_rules.specs.Prelude.{Binding, has_number, bindings_at, live_and_held}
use Rattle.napt_table.specs.{declared.table_builder.TableBuilder.TheInside.Inside, BindingIndexes.{BindingIndexModel, held_at}, Tables.TableModel}

-- At each number of each protocol, the stored binding is the one that the list has.
abbrev pub AreHeld : ℕ → BindingIndexModel → List Binding → Type 0
AreHeld address all list = (q : Protocol) (n : ℕ) → held_at all q n ≡ find (λ b. has_number address q n b.row) list

abbrev pub list_of : Inside → List Binding
list_of it = map (λ e. e.1) it.list.items

abbrev pub builder_model : Inside → TableModel
builder_model it = record {
  address = it.bindings.held.address;
  timers = it.bindings.timers;
  assignment = it.bindings.held.assignment;
  inbound = it.inbound;
  list = list_of it;
  at = it.bindings.at;
}

-- Returns the bindings of a list that are at the address, are not redirects, and are live or held at the time, in ns.
abbrev pub state_bindings_at : Timers → ℕ → ℕ → List Binding → List Binding
state_bindings_at timers at address list = bindings_at address
    (filter (λ b. not b.row.fixed) (live_and_held timers at list))

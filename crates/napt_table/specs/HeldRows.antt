-- The rows of the stored bindings, in no order.
use Rattle.std.specs.{Prelude.{ℕ, ◌<◌, ◌^◌, All, List, map, filter}, List.IsDistinct, Map.{keys_of, values_of}}
use Rattle.napt_config.specs.declared.settings.Timers.{Timers}
use Rattle.napt_rules.specs.{declared.Row.Row, Prelude.{is_live, row}}
use Rattle.napt_table.specs.{BindingIndexes.BindingIndexModel, Keys.key_eq}

-- Returns the rows of the bindings that are live at the time, in ns.
abbrev pub held_rows : Timers → ℕ → BindingIndexModel → List Row
held_rows timers now all = map row (filter (is_live timers now) (values_of all.entries))

-- The external number has 16 bits.
abbrev pub HasPortNumber : Row → Type 0
HasPortNumber row = row.external.number < 2 ^ 16

-- The stored bindings can be read as a list: their keys are distinct, and the external numbers have 16 bits.
pub record AreListable (timers : Timers) (now : ℕ) (all : BindingIndexModel) : Type 0 where
  pub unique : IsDistinct key_eq (keys_of all.entries)
  pub small : All HasPortNumber (held_rows timers now all)

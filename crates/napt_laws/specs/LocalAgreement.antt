-- The bindings of one address, compared with the bindings of all addresses.
use Rattle.std.specs.Prelude.{◌≡◌, ℕ, ◌≤◌, List}
use Rattle.napt_rules.specs.Prelude.{Binding, bindings_at, purge, live_and_held, LocalState, Rules}

-- A list of one address has, from a time on, the same live and the same held bindings as the whole list has there.
pub record LocalListAgrees (rules : Rules) (address now : ℕ) (own list : List Binding) : Type 0 where
  pub same : purge rules.timers now own ≡ purge rules.timers now (bindings_at address list)
  pub taken : live_and_held rules.timers now own ≡ live_and_held rules.timers now (bindings_at address list)

-- A translator's list agrees with the whole list from a clock on, and its time is not past the clock.
pub record IsTranslatorCurrent (rules : Rules) (address clock : ℕ) (own : LocalState) (list : List Binding) : Type 0
  where
    pub agrees : LocalListAgrees rules address clock own.list list
    pub past : own.at ≤ clock

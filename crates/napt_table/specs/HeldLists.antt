-- The stored bindings of a table, compared with the list of its contracts.
--
-- A stored binding that has ended is not visible. The list has exactly the visible parts of the stored bindings.
use Rattle.std.specs.{Prelude.{◌≡◌, ℕ, ◌≤◌, cond, List, map, find, Option, Some, None}, Option.option_map}
use Rattle.napt_wire.specs.declared.{Protocol.Protocol}
use Rattle.napt_config.specs.declared.settings.Timers.{Timers}
use Rattle.napt_rules.specs.Prelude.{Binding, has_number, is_live, with_live_flows, purge, row, AreBindingsApart}

-- Returns the visible part of a stored binding at a time, in ns: a live one without its dead flows, else none.
abbrev pub seen_binding : Timers → ℕ → Option Binding → Option Binding
seen_binding timers now None = None
seen_binding timers now (Some b) = cond (is_live timers now b) (Some (with_live_flows timers now b)) None

-- At each number of the protocol, the list has the visible part of the stored binding.
abbrev pub ShowsHeld : Timers → ℕ → ℕ → Protocol → (ℕ → Option Binding) → List Binding → Type 0
ShowsHeld timers at address protocol held list = (n : ℕ) → find (λ b. has_number address protocol n b.row) list
    ≡ seen_binding timers at (held n)

-- From a time on, a live binding of the list and the live stored one have the same row, at each number of the protocol.
abbrev pub LivesInBoth : Timers → ℕ → ℕ → Protocol → (ℕ → Option Binding) → List Binding → Type 0
LivesInBoth timers from address protocol held list = (n t : ℕ) → from ≤ t →
    option_map row (seen_binding timers t (find (λ b. has_number address protocol n b.row) list))
    ≡ option_map row (seen_binding timers t (held n))

-- LAWS

-- The stored bindings still agree with the list when time passes and the list is purged.
abbrev pub HeldIsPurgedLater : Type 0
HeldIsPurgedLater = (timers : Timers) (at now address : ℕ) (protocol : Protocol) (held : ℕ → Option Binding)
    (list : List Binding) → AreBindingsApart (map row list) → at ≤ now →
    ShowsHeld timers at address protocol held list → ShowsHeld timers now address protocol held (purge timers now list)

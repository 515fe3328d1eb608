-- The log of a whole run, from each state that a configuration accepts, names exactly the host that had an external
-- endpoint at a time.
use Rattle.std.specs.{Prelude.{◌≡◌, ℕ, ◌<◌, ◌≤◌, ◌&&◌, Bool, List, [], ◌∷◌, ◌++◌, map, filter}, List.{list_any, Sorted.IsPermutation}}
use Rattle.napt_rules.specs.Prelude.{Protocol, Endpoint, Rules, RulesInvariant, Timers, State, TakesState, effect_from, purge, with_redirects}
use Rattle.napt_rules.specs.{Prelude.{Binding, same_protocol, same_endpoint, is_live, Arrival, row, last_clock}, declared.Row.Row}
use Rattle.napt_table.specs.TimedRows.{timed_row}
use Rattle.napt_account.specs.{declared.log.Entry.Entry, Log.{LogModel, log_on, stands_at, unnumbered}, ResumedLogRuns.{IsLogOf, timed_by}}

-- The time is before that of the next input, if there is one.
abbrev pub IsBeforeNext : ℕ → List Arrival → Type 0
IsBeforeNext now [] = Unit {0}
IsBeforeNext now (input ∷ inputs) = now < input.clock

-- Returns whether a row has this protocol and these endpoints.
abbrev pub has_ends : Protocol → Endpoint → Endpoint → Row → Bool
has_ends protocol inside external row = same_protocol protocol row.protocol
    && (same_endpoint inside row.inside && same_endpoint external row.external)

-- Returns whether a binding with this protocol and these endpoints is live in the list at a time.
abbrev pub is_held : Timers → ℕ → Protocol → Endpoint → Endpoint → List Binding → Bool
is_held timers now protocol inside external list =
    list_any (λ b. has_ends protocol inside external (row b) && is_live timers now b) list

-- Returns whether an entry has this protocol and these endpoints, was made by a time and has not ended by then.
abbrev pub has_number_of : ℕ → Protocol → Endpoint → Endpoint → List Entry → Bool
has_number_of now protocol inside external entries =
    list_any (λ e. has_ends protocol inside external e.binding && stands_at now e) entries

-- Returns the rows of the entries that were made by a time, in ns, and have not ended by then.
abbrev pub standing_rows : ℕ → List Entry → List Row
standing_rows now entries = map (λ e. e.binding) (filter (stands_at now) entries)

-- The entries of a log are in the order of the live bindings of a state, as at the start of a new run.
abbrev pub AreInOrderOf : Rules → State → LogModel → Type 0
AreInOrderOf rules state log =
    map timed_by log.entries ≡ map (timed_row rules.timers) (purge rules.timers state.clock state.list)

-- Let a run start from a state with its log. After any number of inputs, and at each time up to that of the next input,
-- a binding is live if and only if the log of all inputs names it.
abbrev pub LogNamesTheHolders : Type 0
LogNamesTheHolders = (rules : Rules) → RulesInvariant rules → (state : State) → TakesState rules state →
    (log : LogModel) → IsLogOf rules (with_redirects rules state) log → (front rest : List Arrival) (now : ℕ) →
    last_clock state.clock front ≤ now → IsBeforeNext now rest → (protocol : Protocol) (inside external : Endpoint) →
    is_held rules.timers now protocol inside external (effect_from rules (with_redirects rules state) front).list
    ≡ has_number_of now protocol inside external
    (unnumbered (log_on rules (with_redirects rules state) log (front ++ rest)))

-- The rows of the live bindings are those of the entries that have not ended, each once. They are in the same order if
-- the log has the order of the state.
abbrev pub LogListsTheLiving : Type 0
LogListsTheLiving = (rules : Rules) → RulesInvariant rules → (state : State) → TakesState rules state →
    (log : LogModel) → IsLogOf rules (with_redirects rules state) log → (front rest : List Arrival) (now : ℕ) →
    last_clock state.clock front ≤ now → IsBeforeNext now rest →
    (let begun : State = with_redirects rules state in
    let living : List Row = map row (filter (is_live rules.timers now) (effect_from rules begun front).list) in
    let named : List Row = standing_rows now (unnumbered (log_on rules begun log (front ++ rest))) in
    IsPermutation living named × (AreInOrderOf rules begun log → living ≡ named))

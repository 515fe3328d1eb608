-- LAW: a number is assigned to another inside endpoint only after the hold of its last binding (RFC 6888, REQ-8).
use Rattle.std.specs.Prelude.{◌≡◌, ◌≢◌, false, not, List, [], ◌∷◌, ◌++◌, filter, map}
use Rattle.napt_rules.specs.Prelude.{Each, hold_ago, is_live, Arrival, Binding, Rules, RulesInvariant, State, TakesState, Timers, with_redirects}
use Rattle.napt_binding.specs.Ends.{is_before}
use Rattle.napt_account.specs.{declared.log.Entry.Entry, Log.{LogModel, first_entry, log_on, unnumbered}, ResumedLogRuns.IsLogOf}

-- If two bindings of one protocol and external endpoint have different inside endpoints, the later one was made at
-- least the hold after the end of the earlier one.
abbrev pub AreEntriesApart : Timers → Entry → Entry → Type 0
AreEntriesApart timers earlier later = earlier.binding.protocol ≡ later.binding.protocol →
    earlier.binding.external ≡ later.binding.external → earlier.binding.inside ≢ later.binding.inside →
    is_before (hold_ago timers later.made) earlier.end ≡ false

-- Any two entries, in the order in which they were made, are apart in this way.
abbrev pub EntriesStayApart : Timers → List Entry → Type 0
EntriesStayApart timers [] = Unit {0}
EntriesStayApart timers (first ∷ rest) = Each (AreEntriesApart timers first) rest × EntriesStayApart timers rest

-- Returns the bindings of a state that have ended by its clock, which it has because their numbers are held.
abbrev pub held_bindings : Rules → State → List Binding
held_bindings rules state = filter (λ b. not (is_live rules.timers state.clock b)) state.list

-- Let a run start from a state with its log. The law holds of the held bindings of the state and of all entries of the
-- log of the run. It says nothing of a binding that had ended before and that the state does not have.
abbrev pub HeldNumbersHaveOneHolder : Type 0
HeldNumbersHaveOneHolder = (rules : Rules) → RulesInvariant rules → (state : State) → TakesState rules state →
    (log : LogModel) → IsLogOf rules (with_redirects rules state) log → (inputs : List Arrival) →
    (let begun : State = with_redirects rules state in
    EntriesStayApart rules.timers (map (first_entry rules.timers state.clock) (held_bindings rules begun)
    ++ unnumbered (log_on rules begun log inputs)))

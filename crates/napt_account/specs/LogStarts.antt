-- The log at a state, where each binding may have the account of its entry.
--
-- The entries of the state's bindings continue, each with the end of its binding under the configuration. The entry of
-- a redirect that the configuration does not have ends at the clock. A live binding without an entry gets one that is
-- made at the clock, with the next number.
use Rattle.std.specs.{Prelude.{◌≡◌, ◌≢◌, ℕ, ◌+◌, ◌^◌, ◌==◌, nat_le, nat_lt, Bool, true, not, ◌&&◌, ◌||◌, cond, length, List, [], ◌∷◌, ◌++◌, map, filter, Option, Some, None, unwrap_or}, List.{list_any, slice_get}, Option.option_map}
use Rattle.napt_config.specs.Rules.{Rules, RulesInvariant}
use Rattle.napt_rules.specs.{Prelude.{Arrival, Binding, Each, IsStateInOrder, State, TakesState, initial_state, next_state, opening, purge, row, with_redirects}, declared.Row.Row}
use Rattle.napt_binding.specs.Ends.{end_of}
use Rattle.napt_table.specs.{declared.TimedRow.TimedRow, TimedRows.timed_row}
use Rattle.napt_account.specs.declared.{account.Account.Account, log.{LogEntry.LogEntry}}
use Rattle.napt_account.specs.{Attribution.has_ends, BindingTallies.open_of, Log.{LogModel, begun_after, numbered_from, shares, unused_entry}, LogParts.{LogDelta, NumbersAscend, is_open}, OpenEntries.{entry_key, external_eq}, ResumedLogRuns.{IsLogOf, left_of}}

-- The part of a log that a state contains.
pub record SavedLogStateModel : Type 0 where
  -- The number of entries that the log has so far.
  pub made : ℕ
  -- The account of each binding of the state, in order, or none if the binding has no open entry.
  pub accounts : List (Option Account)

-- The part for the state of a run without a log: no entries and no accounts.
abbrev pub no_saved_log : SavedLogStateModel
no_saved_log = record { made = 0; accounts = [] }

-- The state before any run: no bindings, at time 0.
abbrev pub empty_state : State
empty_state = record { clock = 0; list = [] }

-- THE ENTRIES OF A STATE

abbrev pub with_account : Binding → Option Account → List (Binding × Account) → List (Binding × Account)
with_account binding None others = others
with_account binding (Some account) others = (binding, account) ∷ others

-- Returns the bindings that have an account, each with it. Accounts past the last binding are ignored.
abbrev pub accounted : List Binding → List (Option Account) → List (Binding × Account)
accounted [] accounts = []
accounted (binding ∷ list) [] = []
accounted (binding ∷ list) (account ∷ accounts) = with_account binding account (accounted list accounts)

-- Returns the account of the binding at an index, if it has one.
abbrev pub account_in : List (Option Account) → ℕ → Option Account
account_in accounts place = unwrap_or (slice_get accounts place) None

-- Returns the entry of a binding with this account and this end, in ns.
abbrev pub entry_by_account : Row → Option ℕ → Account → LogEntry
entry_by_account binding end account = record {
  number = account.number;
  entry = record {
    binding = binding;
    made = account.made;
    end = end;
    sent = account.sent;
    received = account.received;
    last = account.last;
    last_sent = account.last_sent;
  };
}

abbrev pub account_of_entry : LogEntry → Account
account_of_entry numbered = record {
  number = numbered.number;
  made = numbered.entry.made;
  sent = numbered.entry.sent;
  received = numbered.entry.received;
  last = numbered.entry.last;
  last_sent = numbered.entry.last_sent;
}

-- Returns whether a configuration has a redirect with the protocol and both endpoints of a row.
abbrev pub has_redirect : Rules → Row → Bool
has_redirect rules wanted =
    list_any (λ b. has_ends wanted.protocol wanted.inside wanted.external (row b)) (opening rules)

-- Returns the end of a binding's entry under a configuration, in ns. A redirect that the configuration does not have
-- ends at the clock.
abbrev pub resumed_end : Rules → ℕ → Binding → Option ℕ
resumed_end rules clock binding =
    cond binding.row.fixed (cond (has_redirect rules binding.row) None (Some clock)) (end_of rules.timers binding)

abbrev pub resumed_entry : Rules → ℕ → Binding × Account → LogEntry
resumed_entry rules clock kept = entry_by_account kept.0.row (resumed_end rules clock kept.0) kept.1

-- Returns the entries of the state's bindings under a configuration, in the order of the bindings.
abbrev pub resumed_entries : Rules → State → SavedLogStateModel → List LogEntry
resumed_entries rules state saved = map (resumed_entry rules state.clock) (accounted state.list saved.accounts)

-- THE LOG WITH WHICH A RUN STARTS

-- Inserts an entry before the first one with a greater number.
abbrev pub placed_by_number : LogEntry → List LogEntry → List LogEntry
placed_by_number numbered [] = numbered ∷ []
placed_by_number numbered (other ∷ others) =
    cond (nat_lt numbered.number other.number) (numbered ∷ other ∷ others) (other ∷ placed_by_number numbered others)

abbrev pub in_order_of_number : List LogEntry → List LogEntry
in_order_of_number [] = []
in_order_of_number (numbered ∷ more) = placed_by_number numbered (in_order_of_number more)

-- No two entries have the same number.
abbrev pub NumbersDiffer : List LogEntry → Type 0
NumbersDiffer [] = Unit {0}
NumbersDiffer (numbered ∷ more) = Each (λ other. numbered.number ≢ other.number) more × NumbersDiffer more

-- Returns the entries that continue, in the order of making.
abbrev pub continued_entries : Rules → State → SavedLogStateModel → List LogEntry
continued_entries rules state saved =
    in_order_of_number (filter (is_open state.clock) (resumed_entries rules state saved))

-- Returns whether one of the entries has the external endpoint of a row under its protocol.
abbrev pub has_entry : List LogEntry → TimedRow → Bool
has_entry entries timed = list_any (λ numbered. shares timed.row numbered.entry.binding) entries

abbrev pub unlisted_rows : Rules → State → List LogEntry → List TimedRow
unlisted_rows rules state entries = filter (λ timed. not (has_entry entries timed))
    (map (timed_row rules.timers) (purge rules.timers state.clock (with_redirects rules state).list))

-- Returns new entries, which begin at the clock, for the live bindings without an entry.
abbrev pub new_entries : Rules → State → SavedLogStateModel → List LogEntry
new_entries rules state saved = numbered_from (saved.made + 1)
    (map (λ timed. unused_entry timed.row state.clock timed.end)
    (unlisted_rows rules state (continued_entries rules state saved)))

-- THE LOG OF A STATE under a configuration, with which the run from `with_redirects rules state` starts.
abbrev pub log_started : Rules → State → SavedLogStateModel → LogModel
log_started rules state saved = record {
  made = saved.made + length (new_entries rules state saved);
  entries = continued_entries rules state saved ++ new_entries rules state saved;
  shortages = [];
}

-- Returns the log as it was saved, with one entry for each account, in the order of making.
abbrev pub log_before : Rules → State → SavedLogStateModel → LogModel
log_before rules state saved = record {
  made = saved.made;
  entries = in_order_of_number (resumed_entries rules state saved);
  shortages = [];
}

-- Returns the entry with a time, in ns, as its end.
abbrev pub entry_ended_at : ℕ → LogEntry → LogEntry
entry_ended_at now numbered = record numbered { entry = record numbered.entry { end = Some now } }

-- Returns the part of the log before the first input: the entries that have ended by the clock, and the new ones. The
-- former end at the clock, since their bindings were live in the run before until then.
abbrev pub started_part : Rules → State → SavedLogStateModel → LogDelta
started_part rules state saved = record {
  ended = map (entry_ended_at state.clock) (in_order_of_number
      (filter (λ numbered. not (is_open state.clock numbered)) (resumed_entries rules state saved)));
  made = new_entries rules state saved;
  refused = [];
}

-- WHAT A STATE MAY KEEP of a log: at most 2 ^ 61 entries and packets; the number of each account is among those of the
-- log, and was given by the clock; no two accounts have the same number, and no two of their bindings the same external
-- endpoint.

abbrev pub most_saved : ℕ
most_saved = 2 ^ 61

abbrev pub is_account : ℕ → ℕ → Account → Bool
is_account made clock account =
    (nat_lt 0 account.number && nat_le account.number made)
    && (nat_le account.made clock && (nat_le account.sent most_saved && nat_le account.received most_saved))

abbrev pub are_apart : Binding × Account → Binding × Account → Bool
are_apart kept other =
    not ((kept.1.number == other.1.number) || external_eq (entry_key kept.0.row) (entry_key other.0.row))

-- Returns whether each account is one of the log, and shares neither number nor endpoint with any before it.
abbrev pub are_accounts : ℕ → ℕ → List (Binding × Account) → List (Binding × Account) → Bool
are_accounts made clock before [] = true
are_accounts made clock before (kept ∷ more) = is_account made clock kept.1
    && (not (list_any (λ other. not (are_apart kept other)) before)
    && are_accounts made clock (before ++ kept ∷ []) more)

abbrev pub is_saved_log_state : State → SavedLogStateModel → Bool
is_saved_log_state state saved =
    nat_le saved.made most_saved && are_accounts saved.made state.clock [] (accounted state.list saved.accounts)

-- THE SAVED PART of a log at a time, in addition to the bindings of a state

abbrev pub account_at : ℕ → LogModel → Row → Option Account
account_at now log row = option_map account_of_entry (open_of now row log)

abbrev pub saved_log_state : ℕ → LogModel → State → SavedLogStateModel
saved_log_state now log state =
    record { made = log.made; accounts = map (λ b. account_at now log b.row) state.list }

-- LAWS

-- A log begins with an entry for each live binding, with its row and its end.
abbrev pub StartedLogsAreOfTheirStates : Type 0
StartedLogsAreOfTheirStates = (rules : Rules) → RulesInvariant rules → (state : State) → TakesState rules state →
    (saved : SavedLogStateModel) → is_saved_log_state state saved ≡ true →
    IsLogOf rules (with_redirects rules state) (log_started rules state saved)
    × NumbersAscend 1 (log_started rules state saved).entries

-- The log of a new run has its redirects.
abbrev pub StartedLogsBeginAnew : Type 0
StartedLogsBeginAnew = (rules : Rules) →
    log_started rules empty_state no_saved_log ≡ begun_after 0 rules (initial_state rules)

-- The open log at the end of a run is that with which the next run of the same configuration starts; nothing is added.
abbrev pub SavedLogsAreTakenUp : Type 0
SavedLogsAreTakenUp = (rules : Rules) → RulesInvariant rules → (state : State) → TakesState rules state →
    (log : LogModel) → IsLogOf rules (with_redirects rules state) log → NumbersAscend 1 log.entries →
    (inputs : List Arrival) (saved : State) →
    IsStateInOrder rules (next_state rules (with_redirects rules state) inputs) saved →
    (let left : LogModel = left_of rules (with_redirects rules state) log inputs in
    (log_started rules saved (saved_log_state saved.clock left saved) ≡ left)
    × (started_part rules saved (saved_log_state saved.clock left saved)
    ≡ record { ended = []; made = []; refused = [] }))

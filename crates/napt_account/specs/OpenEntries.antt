-- The entries that have not ended, as they are stored during a run: found by their endpoints, and queued by the times
-- at which they are checked.
use Rattle.std.specs.Prelude.{◌≡◌, ◌⊎◌, ℕ, ◌^◌, ◌<◌, ◌≤◌, ◌==◌, nat_le, Bool, true, false, ◌&&◌, cond, List, [], ◌∷◌, length, map, filter, Option, Some, None, unwrap_or}
use Rattle.std.specs.{List.IsDistinct, Option.{option_and_then, option_map}, Ordering.{ordering_then, nat_cmp, bool_cmp}, declared.cmp.Ordering.Ordering}
use Rattle.std.specs.BTreeSet as sorted
use Rattle.std.specs.HashMap as hash
use denote.Enum.Bare.{sameb}
use Rattle.napt_wire.specs.contracts.Protocol.{the_type}
use Rattle.napt_wire.specs.contracts.ProtocolOrd.TheImpl as protocols
use Rattle.napt_rules.specs.declared.Row.{Row}
use Rattle.napt_account.specs.declared.{log.LogEntry.LogEntry, open_entries.{DueEntry.DueEntry, EndKey.EndKey, EntryKey.EntryKey, OpenEntry.OpenEntry}}
use Rattle.napt_account.specs.{declared.open_entries.OpenEntries.OpenEntries, Log.LogModel, LogParts.{IsNumbered, NumbersAscend, is_open}}

-- KEYS

abbrev pub entry_key : Row → EntryKey
entry_key row = record { address = row.external.address; number = row.external.number; protocol = row.protocol }

-- The address of the row's external endpoint has 32 bits, and its number 16.
abbrev pub IsNumberedRow : Row → Type 0
IsNumberedRow row = (row.external.address < 2 ^ 32) × (row.external.number < 2 ^ 16)

abbrev pub end_key_of : Option ℕ → ℕ → EndKey
end_key_of None number = record { is_endless = true; end = 0; number = number }
end_key_of (Some end) number = record { is_endless = false; end = end; number = number }

abbrev pub end_key : LogEntry → EndKey
end_key numbered = end_key_of numbered.entry.end numbered.number

-- Returns whether two keys of a map are equal.
abbrev pub external_eq : EntryKey → EntryKey → Bool
external_eq a b = (a.address == b.address) && ((a.number == b.number) && sameb the_type a.protocol b.protocol)

abbrev pub end_cmp : EndKey → EndKey → Ordering
end_cmp a b = ordering_then (bool_cmp a.is_endless b.is_endless)
    (ordering_then (nat_cmp a.end b.end) (nat_cmp a.number b.number))

abbrev pub external_cmp : EntryKey → EntryKey → Ordering
external_cmp a b = ordering_then (nat_cmp a.address b.address)
    (ordering_then (nat_cmp a.number b.number) ((protocols.ghosts).cmp a.protocol b.protocol))

abbrev pub due_cmp : DueEntry → DueEntry → Ordering
due_cmp a b = ordering_then (nat_cmp a.at b.at) (external_cmp a.key b.key)

-- THE STORED ENTRIES

abbrev pub open_at : OpenEntries → EntryKey → Option OpenEntry
open_at all x = hash.get external_eq all.by_external x

-- Returns the entry of an endpoint, if there is one.
abbrev pub entry_at : OpenEntries → EntryKey → Option LogEntry
entry_at all x = option_map (λ (o : OpenEntry). o.numbered) (open_at all x)

abbrev pub due_at : OpenEntries → EntryKey → Option ℕ
due_at all x = option_and_then (λ (o : OpenEntry). o.due) (open_at all x)

abbrev pub is_queued : OpenEntries → DueEntry → Bool
is_queued all due = sorted.contains due_cmp all.queue due

abbrev pub entry_is_at : Option ℕ → ℕ → Bool
entry_is_at None time = false
entry_is_at (Some at) time = at == time

-- Returns all entries, in no particular order.
abbrev pub all_entries : OpenEntries → List LogEntry
all_entries all = map (λ (o : OpenEntry). o.numbered) (hash.values all.by_external)

-- Returns the number of entries that are to be checked by a time, in ns.
abbrev pub due_within : ℕ → OpenEntries → ℕ
due_within now all = length (filter (λ (due : DueEntry). nat_le due.at now) all.queue.keys)

-- The entry is stored at its own endpoint, and is checked no later than at its end.
abbrev pub IsPlaced : EntryKey → OpenEntry → Type 0
IsPlaced x o = (x ≡ entry_key o.numbered.entry.binding)
    × ((time : ℕ) → time < unwrap_or o.due (2 ^ 64) → is_open time o.numbered ≡ true)

-- Each entry is stored at its own endpoint, and the queue has exactly the times of the entries that have one.
pub record IsIndexed (all : OpenEntries) : Type 0 where
  pub placed : (x : EntryKey) (o : OpenEntry) → open_at all x ≡ Some o → IsPlaced x o
  pub queued : (due : DueEntry) → is_queued all due ≡ entry_is_at (due_at all due.key) due.at

-- Each entry is stored at its own endpoint, and the queue has exactly the times of the entries that have one, except
-- that it has the endpoint `key` at the time `at`, in ns, if any.
pub record IsIndexedExcept (key : EntryKey) (at : Option ℕ) (all : OpenEntries) : Type 0 where
  pub placed : (x : EntryKey) (o : OpenEntry) → open_at all x ≡ Some o → IsPlaced x o
  pub queued : (due : DueEntry) → is_queued all due
      ≡ entry_is_at (cond (external_eq key due.key) at (due_at all due.key)) due.at

-- The element is in the list.
abbrev pub Has : {X : Type 0} → List X → X → Type 0
Has [] x = ⊥
Has (y ∷ ys) x = (y ≡ x) ⊎ Has ys x

-- No two rows have one protocol and external endpoint.
abbrev pub AreKeyed : List Row → Type 0
AreKeyed rows = IsDistinct (λ a b. external_eq (entry_key a) (entry_key b)) rows

-- The entries are those of a log that have not ended by a time, and none counts more than `most` packets either way.
pub record OpenEntriesShow (now most : ℕ) (log : LogModel) (all : OpenEntries) : Type 0 where
  pub indexed : IsIndexed all
  pub made : all.made ≡ log.made
  pub numbered : IsNumbered log
  pub rises : NumbersAscend 1 log.entries
  pub has : (n : LogEntry) → Has log.entries n → is_open now n ≡ true →
      entry_at all (entry_key n.entry.binding) ≡ Some n
  pub there : (x : EntryKey) (n : LogEntry) → entry_at all x ≡ Some n → Has log.entries n
  pub unended : (x : EntryKey) (n : LogEntry) → entry_at all x ≡ Some n → is_open now n ≡ true
  pub few : (x : EntryKey) (n : LogEntry) → entry_at all x ≡ Some n →
      (n.entry.sent ≤ most) × (n.entry.received ≤ most)

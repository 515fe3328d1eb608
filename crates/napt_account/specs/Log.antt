-- The log of a run has an entry for each binding that was ever made, including redirects, in the order in which they
-- were made, and the packets that got none. It is one fold over the acts of the run's legs.
--
-- The log allows an operator to find who had an external endpoint at a time (RFC 6888, section 4). A host that exceeds
-- its quota, and a pool without a free port, are events of their own (RFC 8158).
use Rattle.std.specs.{Prelude.{ℕ, ◌+◌, nat_le, Bool, true, false, ◌&&◌, cond, length, List, [], ◌∷◌, ◌++◌, map, Option}, List.fold}
use Rattle.napt_rules.specs.Prelude.{Way, Outgoing, Incoming, Cause, OverQuota, NoPort, Rules, Timers}
use Rattle.napt_rules.specs.{Prelude.{Binding, same_protocol, same_endpoint, Arrival, row, LegAct, State, initial_state, effect_from, purge}, declared.Row.Row}
use Rattle.napt_table.specs.declared.TimedRow.{TimedRow}
use Rattle.napt_binding.specs.Ends.{end_of, is_before}
use Rattle.napt_sequential.specs.declared.passage.{Passage.{Passage, TheVariants.{Made, Out, In, Dropped}}, Trace.Trace, DroppedPacket.DroppedPacket}
use Rattle.napt_sequential.specs.Traces.{passage_of}
use Rattle.napt_account.specs.declared.log.{Entry.Entry, LogEntry.LogEntry, Shortage.Shortage}

-- AN ENTRY

-- Returns the entry of a binding that is made at a time and has this end, both in ns, before a packet goes through it.
abbrev pub unused_entry : Row → ℕ → Option ℕ → Entry
unused_entry binding made end = record {
  binding = binding;
  made = made;
  end = end;
  sent = 0;
  received = 0;
  last = made;
  last_sent = made;
}

abbrev pub first_entry : Timers → ℕ → Binding → Entry
first_entry timers made binding = unused_entry (row binding) made (end_of timers binding)

-- Returns the entry after a packet went through its binding at a time, in ns, after which the binding has this end.
abbrev pub counted : Way → ℕ → Option ℕ → Entry → Entry
counted Outgoing now end entry = record entry { end = end; sent = entry.sent + 1; last = now; last_sent = now }
counted Incoming now end entry = record entry { end = end; received = entry.received + 1; last = now }

-- Returns the entry of a binding that a packet made, and went out through, at a time, in ns.
abbrev pub made_by : ℕ → TimedRow → Entry
made_by now timed = counted Outgoing now timed.end (unused_entry timed.row now timed.end)

-- Returns whether a row has the protocol and the external endpoint of another.
abbrev pub shares : Row → Row → Bool
shares wanted other = same_protocol wanted.protocol other.protocol && same_endpoint wanted.external other.external

-- Returns whether an entry has not ended by a time and has the external endpoint of a row.
abbrev pub entry_is_of : ℕ → Row → Entry → Bool
entry_is_of now wanted entry = is_before now entry.end && shares wanted entry.binding

-- Returns the entry, changed if it is the open entry of a row at a time, in ns.
abbrev pub entry_through : ℕ → Row → (Entry → Entry) → Entry → Entry
entry_through now wanted change entry = cond (entry_is_of now wanted entry) (change entry) entry

-- A LOG

pub record LogModel : Type 0 where
  -- The number of all entries that were made so far.
  pub made : ℕ
  -- The entries with their numbers, in the order of making: all entries of the run and, if it starts from a state, the
  -- entries that had not ended there.
  pub entries : List LogEntry
  -- The packets that got no binding, in their order.
  pub shortages : List Shortage

-- Returns the entries of a log without their numbers.
abbrev pub unnumbered : LogModel → List Entry
unnumbered log = map (λ numbered. numbered.entry) log.entries

-- Returns the log with one more entry, which gets the next number.
abbrev pub with_entry : Entry → LogModel → LogModel
with_entry entry log = record log {
  made = log.made + 1;
  entries = log.entries ++ record { number = log.made + 1; entry = entry } ∷ [];
}

-- Returns the entry after a packet went through a binding at a time, in ns.
abbrev pub use_entry : Way → ℕ → TimedRow → LogEntry → LogEntry
use_entry way now timed numbered =
    record numbered { entry = entry_through now timed.row (counted way now timed.end) numbered.entry }

abbrev pub with_use : Way → ℕ → TimedRow → LogModel → LogModel
with_use way now timed log = record log { entries = map (use_entry way now timed) log.entries }

abbrev pub is_shortage : Cause → Bool
is_shortage OverQuota = true
is_shortage NoPort = true
is_shortage _ = false

-- Returns the shortage of a dropped packet, if no binding could be made for it.
abbrev pub shortages_of : ℕ → DroppedPacket → List Shortage
shortages_of now loss = cond (is_shortage loss.cause)
    (record { at = now; cause = loss.cause; protocol = loss.protocol; host = loss.host } ∷ []) []

-- Returns the shortages of a leg, and then those of both legs of an input.
abbrev pub shortages_by : ℕ → Passage → List Shortage
shortages_by now (Dropped loss) = shortages_of now loss
shortages_by now _ = []

abbrev pub shortages_in : Trace → List Shortage
shortages_in effects = shortages_by effects.now effects.first ++ shortages_by effects.now effects.second

-- THE FOLD: the log after a leg at a time, after the legs of an input, and after those of a run

abbrev pub after_leg : ℕ → Passage → LogModel → LogModel
after_leg now (Made timed) log = with_entry (made_by now timed) log
after_leg now (Out timed) log = with_use Outgoing now timed log
after_leg now (In timed) log = with_use Incoming now timed log
after_leg now (Dropped loss) log = record log { shortages = log.shortages ++ shortages_of now loss }
after_leg now _ log = log

abbrev pub after_input : LogModel → Trace → LogModel
after_input log effects = after_leg effects.now effects.second (after_leg effects.now effects.first log)

abbrev pub after_record : Timers → LogModel → LegAct → LogModel
after_record timers log a = after_leg a.leg.now (passage_of timers a) log

-- Returns the log of a run from a state that has this log.
unfoldable pub log_on : Rules → State → LogModel → List Arrival → LogModel
log_on rules state log inputs = fold (after_record rules.timers) log (effect_from rules state inputs).acts

-- THE BEGINNING

-- Returns the entries with consecutive numbers from the given one.
abbrev pub numbered_from : ℕ → List Entry → List LogEntry
numbered_from number [] = []
numbered_from number (entry ∷ entries) = record { number = number; entry = entry } ∷ numbered_from (number + 1) entries

-- Returns a log that has `before` earlier entries, and one for each live binding of a state, made at its clock.
abbrev pub begun_after : ℕ → Rules → State → LogModel
begun_after before rules state =
    let entries : List Entry = map (first_entry rules.timers state.clock) (purge rules.timers state.clock state.list) in
    record { made = before + length entries; entries = numbered_from (before + 1) entries; shortages = [] }

-- Returns the log of a new run, which begins with the redirects.
abbrev pub log_of : Rules → List Arrival → LogModel
log_of rules inputs = log_on rules (initial_state rules) (begun_after 0 rules (initial_state rules)) inputs

-- Returns whether the binding of an entry was made by a time and has not ended by then.
abbrev pub stands_at : ℕ → Entry → Bool
stands_at now entry = nat_le entry.made now && is_before now entry.end

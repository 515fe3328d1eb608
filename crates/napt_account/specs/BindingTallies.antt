-- The bindings that an input used, found in the log before it.
use Rattle.std.specs.{Prelude.{ℕ, ◌+◌, cond, find, Option, Some, None}, Option.option_or}
use Rattle.napt_wire.specs.declared.Way.{Way, TheVariants.{Outgoing, Incoming}}
use Rattle.napt_rules.specs.declared.Row.{Row}
use Rattle.napt_sequential.specs.declared.passage.{Passage.{Passage, TheVariants.{Made, Out, In}}, Trace.Trace}
use Rattle.napt_account.specs.{declared.{log.{Entry.Entry, LogEntry.LogEntry}, binding_tally.{LogNote.LogNote, BindingTally.BindingTally}}, Log.{LogModel, after_leg, entry_is_of}}
use Rattle.napt_account.specs.declared.binding_tally.LogNote.TheVariants as notes

-- The tally of an input that used no binding.
abbrev pub no_use : BindingTally
no_use = record { note = notes.Nothing; outbound = None; inbound = None }

abbrev pub tally_used : Way → LogNote → ℕ → BindingTally
tally_used Outgoing note number = record { note = note; outbound = Some number; inbound = None }
tally_used Incoming note number = record { note = note; outbound = None; inbound = Some number }

-- Returns the open entry of a row at a time, in ns, if there is one.
abbrev pub open_of : ℕ → Row → LogModel → Option LogEntry
open_of now wanted log = find (λ numbered. entry_is_of now wanted numbered.entry) log.entries

abbrev pub noted : Entry → LogNote
noted entry = cond entry.binding.fixed notes.Redirect notes.Found

-- Returns the tally of a leg that found this entry, if there is one.
abbrev pub use_found : Way → Option LogEntry → BindingTally
use_found way None = no_use
use_found way (Some numbered) = tally_used way (noted numbered.entry) numbered.number

abbrev pub leg_use : ℕ → Passage → LogModel → BindingTally
leg_use now (Made timed) log = tally_used Outgoing notes.Made (log.made + 1)
leg_use now (Out timed) log = use_found Outgoing (open_of now timed.row log)
leg_use now (In timed) log = use_found Incoming (open_of now timed.row log)
leg_use now _ log = no_use

-- Returns the note of an input, which is that of its first leg that used a binding.
abbrev pub first_note : LogNote → LogNote → LogNote
first_note notes.Nothing second = second
first_note first second = first

abbrev pub both_uses : BindingTally → BindingTally → BindingTally
both_uses first second = record {
  note = first_note first.note second.note;
  outbound = option_or first.outbound second.outbound;
  inbound = option_or first.inbound second.inbound;
}

abbrev pub use_of : LogModel → Trace → BindingTally
use_of log effects = both_uses (leg_use effects.now effects.first log)
    (leg_use effects.now effects.second (after_leg effects.now effects.first log))

-- The entry that a leg made, in the log after the input.
use Rattle.std.specs.Prelude.{ℕ, List, [], option_to_list}
use Rattle.napt_sequential.specs.declared.passage.Passage.{Passage, TheVariants.Made}
use Rattle.napt_account.specs.{declared.log.LogEntry.LogEntry, BindingTallies.open_of, Log.LogModel}

abbrev pub made_entry : ℕ → Passage → LogModel → List LogEntry
made_entry now (Made timed) log = option_to_list (open_of now timed.row log)
made_entry now _ log = []

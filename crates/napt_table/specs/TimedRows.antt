-- A live binding as a table returns it: its row, and the time at which it ends if no packet refreshes it.
use Rattle.napt_config.specs.declared.settings.Timers.{Timers}
use Rattle.napt_rules.specs.Prelude.{Binding, row}
use Rattle.napt_binding.specs.Ends.{end_of}
use Rattle.napt_table.specs.declared.TimedRow.{TimedRow}

abbrev pub timed_row : Timers → Binding → TimedRow
timed_row timers binding = record { row = row binding; end = end_of timers binding }

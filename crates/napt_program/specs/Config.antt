-- The result of reading a configuration's file.
use Rattle.std.specs.Prelude.{◌≡◌, ◌≢◌, ℕ, List, Bool, true, Result, Ok, Err}
use Rattle.napt_config.specs.{Configured.configuration_of, Rules.Rules, declared.fault.ConfigFault.TheVariants.Memory}
use Rattle.napt_program.specs.declared.role.FileRole.TheVariants as role
use Rattle.napt_program.specs.declared.stop.Stop.{Stop}
use Rattle.napt_program.specs.declared.stop.Stop.TheVariants as stop

-- The stop is a fault of the configuration, or of its file if one is named.
abbrev pub IsConfigStop : Bool → Stop → Type 0
IsConfigStop named (stop.Config fault) = Unit {0}
IsConfigStop named (stop.File role.Config) = named ≡ true
IsConfigStop named other = ⊥

-- The file of the configuration was not read: memory was refused, or reading failed.
abbrev pub ConfigIsUnread : Stop → Type 0
ConfigIsUnread (stop.Config Memory) = Unit {0}
ConfigIsUnread (stop.File role.Config) = Unit {0}
ConfigIsUnread other = ⊥

-- The result for a text is its configuration or its own fault, unless it was not read or memory was refused.
abbrev pub IsReadingOf : List ℕ → Result Rules Stop → Type 0
IsReadingOf text (Ok config) = configuration_of text ≡ Ok config
IsReadingOf text (Err (stop.Config fault)) = fault ≢ Memory → configuration_of text ≡ Err fault
IsReadingOf text (Err other) = Unit {0}

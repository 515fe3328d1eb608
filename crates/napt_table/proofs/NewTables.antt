-- A new table satisfies the invariant of tables.
use Rattle.std.proofs.Common.{ℕ}
use Rattle.napt_config.specs.Rules.{Rules, RulesInvariant, pair_of}
use Rattle.napt_rules.specs.Prelude.{opening, hold_ago}
use Rattle.napt_table.specs.Tables.{initial_table, IsTable}
use Rattle.napt_laws.proofs.OpeningList.{opening_sound, sound_at, redirects_stay}

pub opened_is_table : (rules : Rules) → RulesInvariant rules → (address : ℕ) → IsTable (initial_table rules address)
opened_is_table rules keeps address = record {
  timers = keeps.timers;
  sound = sound_at (pair_of rules) address (opening rules) (opening_sound rules keeps);
  taken = redirects_stay rules.timers (hold_ago rules.timers 0) (pair_of rules) address rules.redirects;
}

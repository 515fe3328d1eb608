-- only_keys_in_each: all entries have known keys alone if and only if the remaining ones have.
use Rattle.std.proofs.Common.{◌≡◌, drop}
use Rattle.toml.specs.View.{items_view}
use Rattle.napt_config.{specs.Configured.only_keys_in_each, proofs.KnownKeys.texts}
use Rattle.napt_config.proofs.keys.only_keys_in_each.Given as goal

abbrev pub invariant-loop-entry : goal.invariant-loop-entry
invariant-loop-entry l = only_keys_in_each (texts l.names) (items_view (drop l.entry-index l.entries))
    ≡ only_keys_in_each (texts l.names) (items_view l.entries)

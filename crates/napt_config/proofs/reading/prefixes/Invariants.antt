-- prefixes: the prefixes so far and the remaining entries read as all entries; the first entry was read.
use Rattle.std.proofs.Common.{◌≡◌, ◌<◌, [], drop, IsOk}
use Rattle.toml.specs.View.{items_view}
use Rattle.napt_config.specs.Configured.{each_in_order, first_in_order, with_prefix}
use Rattle.napt_config.proofs.reading.prefixes.Given as goal

abbrev pub invariant-loop-entry : goal.invariant-loop-entry
invariant-loop-entry l = record {
  exact : each_in_order with_prefix l.inside.items (items_view (drop l.entry-index l.entries))
      ≡ each_in_order with_prefix [] (items_view l.entries);
  start : l.entry-index ≡ 0 → l.inside.items ≡ [];
  first : 0 < l.entry-index → IsOk (first_in_order with_prefix [] (items_view l.entries));
}

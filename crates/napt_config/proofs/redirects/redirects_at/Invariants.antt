-- redirects_at: the redirects so far and the remaining entries read as all entries; the first entry was read.
use Rattle.std.proofs.Common.{◌≡◌, ◌<◌, [], drop, length, IsOk}
use Rattle.toml.specs.View.{items_view}
use Rattle.napt_config.specs.Prelude.{paired_address, block_in, each_in_order, first_in_order, with_redirect}
use Rattle.napt_config.proofs.redirects.redirects_at.Given as goal

abbrev pub invariant-loop-entry : goal.invariant-loop-entry
invariant-loop-entry l = let pair = paired_address l.block l.inside l.pool l.pairs.entries in
    let with_entry = with_redirect l.inside pair (block_in l.block l.inside (length l.pool)) in record {
      exact : each_in_order with_entry l.redirects.items (items_view (drop l.entry-index l.entries))
          ≡ each_in_order with_entry [] (items_view l.entries);
      start : l.entry-index ≡ 0 → l.redirects.items ≡ [];
      first : 0 < l.entry-index → IsOk (first_in_order with_entry [] (items_view l.entries));
    }

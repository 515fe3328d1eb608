-- index_of: the index in the remaining prefixes, plus the addresses before them, is that in all of them.
use Rattle.std.proofs.Common.{◌≡◌, ◌+◌, ◌*◌, ◌^◌, ◌≤◌, drop, option_map}
use Rattle.napt_config.specs.Prefixes.{host_index}
use Rattle.napt_config.proofs.blocks.index_of.Given as goal

abbrev pub invariant-loop-prefix : goal.invariant-loop-prefix
invariant-loop-prefix l = record {
  found : option_map (λ index. l.before + index) (host_index (drop l.prefix-index l.prefixes) l.address)
      ≡ host_index l.prefixes l.address;
  bound : l.before ≤ l.prefix-index * 2 ^ 32;
}

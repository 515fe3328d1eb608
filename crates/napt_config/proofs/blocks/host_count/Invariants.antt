-- host_count: the count so far and that of the remaining prefixes are that of all, and the sum does not overflow.
use Rattle.std.proofs.Common.{◌≡◌, ◌+◌, ◌*◌, ◌^◌, ◌≤◌, drop}
use Rattle.napt_config.specs.Prefixes.{host_count}
use Rattle.napt_config.proofs.blocks.host_count.Given as goal

abbrev pub invariant-loop-prefix : goal.invariant-loop-prefix
invariant-loop-prefix l = record {
  count : l.hosts + host_count (drop l.prefix-index l.prefixes) ≡ host_count l.prefixes;
  bound : l.hosts ≤ l.prefix-index * 2 ^ 32;
}

-- address_count: the count so far and that of the remaining prefixes are that of all, and the sum does not overflow.
use Rattle.std.proofs.Common.{◌≡◌, ◌+◌, ◌*◌, ◌^◌, ◌≤◌, length}
use Rattle.napt_config.specs.Prefixes.{address_count}
use Rattle.napt_config.proofs.hosts.address_count.Given as goal

abbrev pub invariant-loop-prefix : goal.invariant-loop-prefix
invariant-loop-prefix l = record {
  count : l.addresses + address_count l.prefixes l.rest ≡ address_count l.prefixes l.prefixes;
  bound : l.addresses + length l.rest * 2 ^ 32 ≤ 16 * 2 ^ 32;
}

abbrev pub decreases-loop-prefix : goal.decreases-loop-prefix
decreases-loop-prefix l = length l.rest

-- address_at: the address at `place` in the remaining prefixes is the one at `index` in all of them.
use Rattle.std.proofs.Common.{◌≡◌, drop}
use Rattle.napt_config.specs.Prefixes.{address_at}
use Rattle.napt_config.proofs.blocks.address_at.Given as goal

abbrev pub invariant-loop-prefix : goal.invariant-loop-prefix
invariant-loop-prefix l = address_at (drop l.prefix-index l.prefixes) l.place ≡ address_at l.prefixes l.index

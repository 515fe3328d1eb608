-- are_apart: all prefixes are apart if and only if the remaining ones are.
use Rattle.std.proofs.Common.{◌≡◌, length}
use Rattle.napt_config.specs.Prefixes.{are_prefixes_apart}
use Rattle.napt_config.proofs.blocks.are_apart.Given as goal

abbrev pub invariant-loop-prefix : goal.invariant-loop-prefix
invariant-loop-prefix l = are_prefixes_apart l.rest ≡ are_prefixes_apart l.prefixes

abbrev pub decreases-loop-prefix : goal.decreases-loop-prefix
decreases-loop-prefix l = length l.rest

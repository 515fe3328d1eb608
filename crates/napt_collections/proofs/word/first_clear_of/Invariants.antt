-- first_clear_of: no bit from `from` on is clear in the words before word i.
use Rattle.std.proofs.Common.{◌≡◌, ℕ, ◌+◌, ◌*◌, ◌<◌, ◌≤◌, true}
use Rattle.napt_collections.specs.BitSets.{has}
use Rattle.napt_collections.proofs.word.first_clear_of.Given as goal

abbrev pub invariant-loop-i : goal.invariant-loop-i
invariant-loop-i l = (l.start + 1 ≤ l.i) × ((j : ℕ) → l.from ≤ j → j < 64 * l.i → has l.words j ≡ true)

-- new: the set has no number, and no word is full.
use Rattle.std.proofs.{Common.arith, lemmas.{Grind.common_steps, Bool.Decides.nat_tests}}
use Rattle.napt_collections.proofs.Rows.{empty_marked, empty_has_none}
use Rattle.napt_collections.proofs.bit_set.BitSet.new.Goals as goal

pub invariant_of-result : goal.invariant_of-result
invariant_of-result c = grind (arith, common_steps, nat_tests, empty_marked)

pub returns : goal.returns
returns c n = rw (c.in_ok-vec.ensures.items_if_clones_equal (λ y h. h)) (empty_has_none 1024 n)

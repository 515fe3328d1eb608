-- insert: the marks of full words are right after the number is added.
use Rattle.std.proofs.Common.{ℕ, ◌∙◌, ap, arith}
use Rattle.napt_collections.{specs.BitSets.has_bit, proofs.Rows.marked}
use Rattle.napt_collections.proofs.bit_set.BitSet.insert.Goals as goal

pub invariant_of-self : goal.invariant_of-self
invariant_of-self c =
    marked c.self.inside.words.items c.self.inside.full.items c.from-place.result c.with_bit-word.result
    c.with_mark.result c.index-2.result.now (omega arith) c.self.invariant (cc)
    (λ i lt differs. c.with_mark.ensures.others i lt differs ∙ ap (λ (w : ℕ). has_bit w i) c.index-2.ensures)

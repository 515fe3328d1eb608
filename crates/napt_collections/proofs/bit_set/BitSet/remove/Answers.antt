-- remove: the marks of full words are right after the number is removed.
use Rattle.std.proofs.Common.{ℕ, ◌∙◌, sym, ap, arith}
use Rattle.napt_collections.{specs.BitSets.has_bit, proofs.{Rows.marked, Words.open_word}}
use Rattle.napt_collections.proofs.bit_set.BitSet.remove.Goals as goal

pub invariant_of-self : goal.invariant_of-self
invariant_of-self c =
    marked c.self.inside.words.items c.self.inside.full.items c.from-place.result c.without_bit.result
    c.without_bit-2.result c.index-2.result.now (omega arith) c.self.invariant
    (c.without_bit-2.ensures.clear
    ∙ sym (open_word c.without_bit.result c.from.result (omega arith) c.without_bit.ensures.clear))
    (λ i lt differs. c.without_bit-2.ensures.others i lt differs ∙ ap (λ (w : ℕ). has_bit w i) c.index-2.ensures)

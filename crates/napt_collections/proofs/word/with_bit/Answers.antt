-- with_bit: bit k is set, and the others are unchanged.
use Rattle.std.{proofs.{Common.{w64, ap}, lemmas.Nat.Bits.{bit_at_set_same, bit_at_set_other}}, specs.Prelude.{◌==◌, ℕ}}
use Rattle.napt_collections.proofs.word.with_bit.Goals as goal

pub returns-clause-set : goal.returns-clause-set
returns-clause-set c = ap (λ (b : ℕ). b == 1) (bit_at_set_same w64 c.args.word c.args.k c.requires)

pub returns-clause-others : goal.returns-clause-others
returns-clause-others c i differs =
    ap (λ (b : ℕ). b == 1) (bit_at_set_other w64 c.args.word c.args.k c.requires i differs)

-- without_bit: bit k is clear, and the others are unchanged.
use Rattle.std.{proofs.{Common.{w64, ap}, lemmas.Nat.Bits.{bit_at_clear_same, bit_at_clear_other}}, specs.Prelude.{◌==◌, ℕ}}
use Rattle.napt_collections.proofs.word.without_bit.Goals as goal

pub returns-clause-clear : goal.returns-clause-clear
returns-clause-clear c = ap (λ (b : ℕ). b == 1) (bit_at_clear_same w64 c.args.word c.args.k c.requires)

pub returns-clause-others : goal.returns-clause-others
returns-clause-others c i lt differs =
    ap (λ (b : ℕ). b == 1) (bit_at_clear_other w64 c.args.word c.args.k c.requires i lt differs)

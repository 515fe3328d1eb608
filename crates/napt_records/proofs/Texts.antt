-- Texts that are written piece by piece.
use Rattle.std.proofs.lemmas.{Grind.common_steps, Bool.Decides.nat_tests}
use Rattle.std.proofs.Common.{◌≡◌, ℕ, ◌+◌, List, [], ◌∷◌, ◌++◌, length, ◌∙◌, refl, ap, append_assoc, flat_map, arith}
use Rattle.napt_capture.specs.Text.{entry_of_packet, record_header, record_text}

pub two_pieces : (old a b first second : List ℕ) → first ≡ old ++ a → second ≡ first ++ b → second ≡ old ++ (a ++ b)
two_pieces old a b first second is then = then ∙ ap (λ (t : List ℕ). t ++ b) is ∙ append_assoc old a b

pub three_pieces : (old a b c first second third : List ℕ) → first ≡ old ++ a → second ≡ first ++ b → third ≡ second
    ++ c → third ≡ old ++ ((a ++ b) ++ c)
three_pieces old a b c first second third is then last = grind (arith, common_steps, nat_tests, two_pieces)

pub four_pieces : (old a b c d first second third fourth : List ℕ) → first ≡ old ++ a → second ≡ first ++ b →
    third ≡ second ++ c → fourth ≡ third ++ d → fourth ≡ old ++ (((a ++ b) ++ c) ++ d)
four_pieces old a b c d first second third fourth is then after last =
    two_pieces old ((a ++ b) ++ c) d third fourth (three_pieces old a b c first second third is then after) last

-- Texts whose pieces are equal one by one are equal.
pub same_pieces : {X : Type 0} (f g : X → List ℕ) → ((x : X) → f x ≡ g x) → (xs : List X) → flat_map f xs
    ≡ flat_map g xs
same_pieces f g same [] = refl
same_pieces f g same (x ∷ xs) = rw (same x) (ap (λ (rest : List ℕ). g x ++ rest) (same_pieces f g same xs))

pub length-record : (time : ℕ) (packet : List ℕ) → length (record_text (entry_of_packet time packet)) ≡ 16
    + length packet
unfolding record_text record_header
length-record time packet = omega arith

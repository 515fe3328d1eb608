-- rewrite_end: the words to replace are those of the definition, for ends with and without a number.
use Rattle.std.proofs.{Common.{arith, ◌≡◌, ℕ, ◌+◌, List, [], ◌∷◌, Option, Some, None, option_map, refl}, lemmas.{Grind.common_steps, Bool.Decides.nat_tests}}
use Rattle.napt_wire.specs.Prelude.{word_change, checksum_changes, number_changes, end_changes, Endpoint, TransportForm}
use Rattle.napt_wire.proofs.header.Header.rewrite_end.Goals.{in-Some, in-None}
use Rattle.napt_wire.proofs.header.Header.rewrite_end.Goals as goal

-- The changes of an end that has a number.
changes_at : (start place : ℕ) (offset : Option ℕ) (form : TransportForm) (old new : Endpoint) (bytes : List ℕ) →
    option_map (λ (n : ℕ). start + n) offset ≡ Some place →
    number_changes offset form start old new bytes
    ≡ word_change bytes place new.number ∷ checksum_changes form start old new bytes
changes_at start place None form old new bytes h = cc
changes_at start place (Some n) form old new bytes h =
    let here : start + n ≡ place = cc in
    rw here refl

no_changes : (start : ℕ) (offset : Option ℕ) (form : TransportForm) (old new : Endpoint) (bytes : List ℕ) →
    option_map (λ (n : ℕ). start + n) offset ≡ None → number_changes offset form start old new bytes ≡ []
no_changes start None form old new bytes h = refl
no_changes start (Some n) form old new bytes h = cc

pub returns : goal.returns
unfolding end_changes
returns c = grind (arith, common_steps, nat_tests, in-Some, changes_at, in-None, no_changes)

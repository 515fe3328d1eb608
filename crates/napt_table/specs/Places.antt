-- The place of a number in the bitmap of its protocol, where the numbers of one parity of a class or of a port block
-- are adjacent.
use Rattle.std.specs.Prelude.{ℕ, ◌+◌, ◌*◌, ◌/◌, ◌%◌, Bool, List}
use Rattle.napt_collections.specs.BitSets.{has}
use Rattle.napt_wire.specs.declared.Protocol.{Protocol}

-- Returns the place of a number: the even numbers come first, then the odd ones.
abbrev pub number_place_in_map : ℕ → ℕ
number_place_in_map number = (number % 2) * 32768 + number / 2

-- A set of numbers as contracts see it: its protocol, and the places that are set.
pub record UsedPlaces : Type 0 where
  pub protocol : Protocol
  pub places : List ℕ

abbrev pub is_used : UsedPlaces → ℕ → Bool
is_used used number = has used.places (number_place_in_map number)

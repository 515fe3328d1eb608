-- The classes in which a free number is searched for: the candidates of a number, from the least one on.
use Rattle.std.specs.Prelude.{◌≡◌, ℕ, ◌+◌, ◌-◌, ◌*◌, ◌/◌, ◌%◌, ◌==◌, ◌≤◌, ◌⊎◌, Bool, true, false, nat_lt, cond, List, ◌++◌, map, Option, Some, None}
use Rattle.std.specs.List.{range_with_len}
use Rattle.napt_config.specs.declared.settings.{PortBlock.PortBlock, Seed.Seed}
use Rattle.napt_wire.specs.declared.{Endpoint.Endpoint, Protocol.{Protocol, TheVariants.Icmp}}
use Rattle.napt_rules.specs.Prelude.{mixed}
use Rattle.napt_table.specs.declared.candidate_class.CandidateClass.{CandidateClass}

-- Returns the class of a port. With parity it is the odd ones in 1..=1023 or 1025..=65535, or the even ones in
-- 2..=1022 or 1024..=65534; without parity it is 1..=1023 or 1024..=65535. No class has 0.
abbrev pub port_class : Bool → ℕ → CandidateClass
port_class true port =
    cond (nat_lt port 1024)
    (cond (port % 2 == 1) (record { least = 1; count = 512; step = 2 }) (record { least = 2; count = 511; step = 2 }))
    (cond (port % 2 == 1) (record { least = 1025; count = 32256; step = 2 }) (record {
      least = 1024;
      count = 32256;
      step = 2;
    }))
port_class false port =
    cond (nat_lt port 1024) (record { least = 1; count = 1023; step = 1 }) (record {
      least = 1024;
      count = 64512;
      step = 1;
    })

abbrev pub class_of : Bool → Protocol → ℕ → CandidateClass
class_of keeps_parity Icmp identifier = record { least = 0; count = 65536; step = 1 }
class_of keeps_parity _ port = port_class keeps_parity port

-- The class can be searched: it has each number of a range, or every other one.
abbrev pub IsSearched : CandidateClass → Type 0
IsSearched class = ((class.step ≡ 1) × (class.least + class.count ≤ 65536))
    ⊎ ((class.step ≡ 2) × (class.least + 2 * class.count ≤ 65537))

-- Returns the number at a place of the class, from 0.
abbrev pub member : CandidateClass → ℕ → ℕ
member class place = class.least + class.step * place

-- Returns the numbers of a class from a place on, and then those before it.
abbrev pub from_place : CandidateClass → ℕ → List ℕ
from_place class place =
    map (member class) (range_with_len place (class.count - place)) ++ map (member class) (range_with_len 0 place)

-- Returns the place of the first candidate: that of the number itself, or with a seed that of the hash.
abbrev pub place_of_class : Option Seed → CandidateClass → Protocol → Endpoint → ℕ
place_of_class None class protocol inside = (inside.number - class.least) / class.step
place_of_class (Some seed) class protocol inside = mixed seed protocol inside % class.count

-- Returns the numbers of a port block that have a parity, 0 or 1.
abbrev pub class_in_block : PortBlock → ℕ → CandidateClass
class_in_block block parity = record { least = block.first + parity; count = block.size / 2; step = 2 }

-- Returns all numbers of a port block.
abbrev pub class_of_block : PortBlock → CandidateClass
class_of_block block = record { least = block.first; count = block.size; step = 1 }

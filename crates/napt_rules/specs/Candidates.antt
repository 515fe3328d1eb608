-- Which numbers may stand for a number, and in which order they are tried.
--
-- RFC 4787, REQ-3 (a): a port of 0 to 1023 is mapped to a port of 0 to 1023, and a port of 1024 to 65535 to a port of
-- 1024 to 65535. REQ-4: an even port is mapped to an even port, and an odd port to an odd port. A configuration may
-- waive REQ-4 (RFC 7857, section 8). RFC 5508, section 3.1: the identifier of an echo may be mapped to any identifier.
-- RFC 7422, section 2: a host may have a block of numbers for itself, for ports and identifiers alike. Then the range of
-- ports below 1024 is not preserved.
--
-- A number is preserved if it is free. With a seed, the first candidate is the one at an index that a keyed hash of the
-- inside endpoint gives (RFC 6056, section 3.3.3, without the remote endpoint and the counter, since a mapping is the
-- same for every remote; RFC 7857, section 9).
use Rattle.std.specs.Prelude.{ℕ, ◌+◌, ◌*◌, ◌/◌, ◌%◌, ◌==◌, nat_lt, nat_le, Bool, true, false, not, ◌&&◌, ◌||◌, List, ◌∷◌, ◌++◌, map, filter, length, Option, Some, None}
use Rattle.std.specs.{Bool.beq, List.{range_with_len, slice_index_or}, Int.{w16, w32, to_be_bytes}}
use Rattle.std.specs.Hash.DefaultHasher as sip
use Rattle.napt_config.specs.declared.settings.{PortBlock.PortBlock, NumberAssignment.NumberAssignment, Seed.Seed}
use Rattle.napt_wire.specs.declared.{Endpoint.Endpoint, Protocol.{Protocol, TheVariants.{Icmp, Tcp, Udp}}}

-- Returns whether `other` may stand for `port`: it is not 0, on the same side of 1024 and, if kept, of the same parity.
abbrev pub is_port_for : Bool → ℕ → ℕ → Bool
is_port_for keeps_parity port other =
    nat_lt 0 other && (beq (nat_lt other 1024) (nat_lt port 1024) && (not keeps_parity || (other % 2 == port % 2)))

-- Returns whether `other` may stand for a number of the protocol: any number may for an identifier, a port as above.
abbrev pub is_number_for : Bool → Protocol → ℕ → ℕ → Bool
is_number_for keeps_parity Icmp identifier other = true
is_number_for keeps_parity _ port other = is_port_for keeps_parity port other

-- The numbers from 0 on that are below a limit, in ascending order.
unfoldable pub numbers_below : ℕ → List ℕ
numbers_below limit = range_with_len 0 limit

-- The class of a number: the 16-bit numbers that may stand for it, in ascending order.
abbrev pub numbers_for : Bool → Protocol → ℕ → List ℕ
numbers_for keeps_parity protocol number = filter (is_number_for keeps_parity protocol number) (numbers_below 65536)

-- Reorders ascending numbers: those from `start` on come first, then those below it.
abbrev pub upwards : ℕ → List ℕ → List ℕ
upwards start numbers = filter (nat_le start) numbers ++ filter (λ other. nat_lt other start) numbers

-- The value of the protocol field in the IPv4 header.
abbrev pub protocol_byte : Protocol → ℕ
protocol_byte Icmp = 1
protocol_byte Tcp = 6
protocol_byte Udp = 17

-- The SipHash-1-3 of 23 bytes: the seed, the protocol, and the inside address and number in network order.
unfoldable pub mixed : Seed → Protocol → Endpoint → ℕ
mixed seed protocol inside = sip.finish (sip.write sip.initial (seed.bytes ++ protocol_byte protocol
    ∷ (to_be_bytes w32 inside.address ++ to_be_bytes w16 inside.number)))

-- The number that is tried first: the inside number itself or, with a seed, the one at the hash's index.
abbrev pub start_of : Option Seed → List ℕ → Protocol → Endpoint → ℕ
start_of None numbers protocol inside = inside.number
start_of (Some seed) numbers protocol inside =
    slice_index_or numbers (mixed seed protocol inside % length numbers) inside.number

-- The candidates of a host without a block: the class of its number, from the first one tried on, wrapping around.
abbrev pub candidates_in_class : NumberAssignment → Protocol → Endpoint → List ℕ
candidates_in_class choosing protocol inside =
    let numbers : List ℕ = numbers_for choosing.keeps_parity protocol inside.number in
    upwards (start_of choosing.seed numbers protocol inside) numbers

-- Every second number of a block, each once, from the index `place` in the block on, wrapping around inside it.
abbrev pub every_other : PortBlock → ℕ → List ℕ
every_other block place = map (λ k. block.first + (place + 2 * k) % block.size) (numbers_below (block.size / 2))

-- Every number of a block, each once, from the index `place` in the block on, wrapping around inside it.
abbrev pub each_one : PortBlock → ℕ → List ℕ
each_one block place = map (λ k. block.first + (place + k) % block.size) (numbers_below block.size)

-- The index in a block of the number that is tried first. If parity is kept, it has the parity of the inside number.
abbrev pub place_in : Option Seed → Bool → ℕ → Protocol → Endpoint → ℕ
place_in None keeps_parity size protocol inside = inside.number % size
place_in (Some seed) true size protocol inside = 2 * (mixed seed protocol inside % (size / 2)) + inside.number % 2
place_in (Some seed) false size protocol inside = mixed seed protocol inside % size

-- The numbers of a block, whose first number and size are even, from the index `place` on: if parity is kept, those
-- with the parity of the index first, then the others from the next index on.
abbrev pub block_from : Bool → PortBlock → ℕ → List ℕ
block_from true block place = every_other block place ++ every_other block (place + 1)
block_from false block place = each_one block place

abbrev pub candidates_in_block : NumberAssignment → PortBlock → Protocol → Endpoint → List ℕ
candidates_in_block choosing block protocol inside =
    block_from choosing.keeps_parity block (place_in choosing.seed choosing.keeps_parity block.size protocol inside)

-- The candidates of a host without a block or with one, in the order in which they are tried.
abbrev pub candidates : NumberAssignment → Option PortBlock → Protocol → Endpoint → List ℕ
candidates choosing None protocol inside = candidates_in_class choosing protocol inside
candidates choosing (Some block) protocol inside = candidates_in_block choosing block protocol inside

-- Prefixes and transport addresses.
use Rattle.std.specs.Prelude.{◌≡◌, ℕ, ◌+◌, ◌-◌, ◌/◌, ◌%◌, ◌^◌, ◌<◌, ◌≤◌, ◌==◌, Bool, true, not, ◌&&◌, ◌||◌, if◌then◌else◌, nat_lt, nat_le, List, [], ◌∷◌, Option, Some, None, option_map}
use Rattle.std.specs.List.{list_any}

-- The addresses whose first `bits` bits are those of `address` (RFC 4632, section 3.1).
pub record PrefixModel : Type 0 where
  pub address : ℕ
  pub bits : ℕ

-- The address has 32 bits, 0 to 32 of them are leading bits, and the bits past these are 0.
pub record IsPrefix (network : PrefixModel) : Type 0 where
  pub address : network.address < 2 ^ 32
  pub bits : network.bits ≤ 32
  pub no_host_bits : network.address % 2 ^ (32 - network.bits) ≡ 0

-- Returns whether an address is in the network.
abbrev pub prefix_has : PrefixModel → ℕ → Bool
prefix_has network address = address / 2 ^ (32 - network.bits) == network.address / 2 ^ (32 - network.bits)

-- Returns whether an address is in one of the networks.
abbrev pub prefixes_have : List PrefixModel → ℕ → Bool
prefixes_have networks address = list_any (λ network. prefix_has network address) networks

-- The number of addresses in the network.
abbrev pub prefix_size : PrefixModel → ℕ
prefix_size network = 2 ^ (32 - network.bits)

-- The sum of the sizes of the networks.
abbrev pub host_count : List PrefixModel → ℕ
host_count [] = 0
host_count (network ∷ networks) = prefix_size network + host_count networks

-- Returns whether all addresses of a network are also in the other.
abbrev pub is_prefix_within : PrefixModel → PrefixModel → Bool
is_prefix_within network other = nat_le other.bits network.bits && prefix_has other network.address

-- The number of addresses in one or more of the networks, each counted once, where `all` has the networks and others
-- before them: the sum of the sizes of those that are no proper part of another; of equal ones, the last counts.
abbrev pub address_count : List PrefixModel → List PrefixModel → ℕ
address_count all [] = 0
address_count all (network ∷ networks) =
    (if list_any (λ other. is_prefix_within network other && not (is_prefix_within other network)) all
    || list_any (is_prefix_within network) networks
    then 0 else prefix_size network) + address_count all networks

-- Returns whether two networks have an address in common, in which case one contains the other.
abbrev pub do_prefixes_meet : PrefixModel → PrefixModel → Bool
do_prefixes_meet a b = prefix_has a b.address || prefix_has b a.address

-- Returns whether no two networks have an address in common.
abbrev pub are_prefixes_apart : List PrefixModel → Bool
are_prefixes_apart [] = true
are_prefixes_apart (network ∷ networks) = not (list_any (do_prefixes_meet network) networks)
    && are_prefixes_apart networks

-- The index of the address among those of the networks, network after network, from 0.
abbrev pub host_index : List PrefixModel → ℕ → Option ℕ
host_index [] address = None
host_index (network ∷ networks) address =
    if prefix_has network address then Some (address % prefix_size network)
    else option_map (λ index. prefix_size network + index) (host_index networks address)

-- The address at that index, or none if there are fewer addresses.
abbrev pub address_at : List PrefixModel → ℕ → Option ℕ
address_at [] index = None
address_at (network ∷ networks) index =
    if nat_lt index (prefix_size network) then Some (network.address + index)
    else address_at networks (index - prefix_size network)

-- The private networks 10.0.0.0/8, 172.16.0.0/12 and 192.168.0.0/16 (RFC 1918, section 3).
abbrev pub private_networks : List PrefixModel
private_networks = record { address = 0x0A000000; bits = 8 } ∷ record { address = 0xAC100000; bits = 12 }
    ∷ record { address = 0xC0A80000; bits = 16 } ∷ []

-- An address and a port, which is not 0 (RFC 8489, section 5).
pub record TransportAddressModel : Type 0 where
  pub address : ℕ
  pub port : ℕ

pub record IsTransportAddress (socket : TransportAddressModel) : Type 0 where
  pub address : socket.address < 2 ^ 32
  pub low : 1 ≤ socket.port
  pub high : socket.port < 2 ^ 16

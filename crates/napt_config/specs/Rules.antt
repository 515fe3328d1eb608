-- What a configuration says, and the rules that every configuration satisfies.
use Rattle.std.specs.Prelude.{◌≡◌, ℕ, ◌+◌, ◌-◌, ◌*◌, ◌/◌, ◌%◌, ◌^◌, ◌<◌, ◌≤◌, ◌==◌, Bool, true, false, ◌&&◌, ◌||◌, if◌then◌else◌, nat_lt, nat_le, List, [], ◌∷◌, All, length, slice_index, position, Option, Some, None, option_map, option_and_then, unwrap_or, IfSome}
use Rattle.std.specs.{Bool.beq, List.{list_any, Sorted.IsStrictlySortedBy}, Map.{keys_of, values_of, lookup}, Ordering.nat_cmp, BTreeMap.is_at}
use Rattle.napt_config.specs.{Prefixes.{PrefixModel, IsPrefix, prefixes_have, host_count, are_prefixes_apart, host_index, address_at}, declared.settings.Filter.Filter}
use Rattle.napt_config.specs.declared.settings.{MappingRefresh.MappingRefresh, NumberAssignment.NumberAssignment, Timers.Timers, Redirect.Redirect, PortBlock.PortBlock}

-- What a configuration says. `block` is the number of external numbers of each inside host, `pairs` has hosts and their
-- external addresses by ascending host, and `redirects` are in the order of the text.
pub record Rules : Type 0 where
  pub pool : List ℕ
  pub inside : List PrefixModel
  pub filter : Filter
  pub refresh : MappingRefresh
  pub choosing : NumberAssignment
  pub timers : Timers
  pub ring : ℕ
  pub quota : Option ℕ
  pub block : Option ℕ
  pub pairs : List (ℕ × ℕ)
  pub redirects : List Redirect

-- The address with which a host is paired by an entry of its own, if it has one.
abbrev pub paired_with : List (ℕ × ℕ) → ℕ → Option ℕ
paired_with pairs host = lookup (is_at (nat_cmp host)) pairs

-- The address of the pool at a number modulo the size of the pool.
abbrev pub pool_address_for : List ℕ → ℕ → ℕ
pool_address_for pool number = slice_index pool (number % length pool)

-- The external address of a host, given the block size, the prefixes, the pool and the pairs. Without blocks it is that
-- of its pair, or else the pool's at the host's number; with blocks, the pool's at the host's index.
unfoldable pub paired_address : Option ℕ → List PrefixModel → List ℕ → List (ℕ × ℕ) → ℕ → ℕ
paired_address None inside pool pairs host = unwrap_or (paired_with pairs host) (pool_address_for pool host)
paired_address (Some size) inside pool pairs host = pool_address_for pool (unwrap_or (host_index inside host) host)

-- The external address of a host (RFC 4787, section 4.1, "paired" pooling).
abbrev pub pair_of : Rules → ℕ → ℕ
pair_of rules = paired_address rules.block rules.inside rules.pool rules.pairs

-- ---- port blocks (RFC 7422, section 2)

-- The block with this number, from 0, where blocks have this size. The first one begins at 1024.
abbrev pub nth_block : ℕ → ℕ → PortBlock
nth_block size nth = record { first = 1024 + size * nth; size = size }

-- Returns whether a number is in the block.
abbrev pub block_has_number : PortBlock → ℕ → Bool
block_has_number block number = nat_le block.first number && nat_lt number (block.first + block.size)

-- The block of a host, given the block size, the prefixes and the pool's size. The hosts in order of their index get
-- the first block of each address, then the second block of each, and so on.
unfoldable pub block_in : Option ℕ → List PrefixModel → ℕ → ℕ → Option PortBlock
block_in size inside addresses host =
    option_and_then (λ size. option_map (λ index. nth_block size (index / addresses)) (host_index inside host)) size

-- The block of a host, if the configuration has blocks and the host is inside.
abbrev pub block_of : Rules → ℕ → Option PortBlock
block_of rules = block_in rules.block rules.inside (length rules.pool)

-- Returns whether a host with this block may have the number by a redirect: it is below 1024, or in the block.
abbrev pub may_redirect : Option PortBlock → ℕ → Bool
may_redirect None external = true
may_redirect (Some block) external = nat_lt external 1024 || block_has_number block external

-- Returns whether the address is that of an inside host.
abbrev pub is_inside : Rules → ℕ → Bool
is_inside rules address = prefixes_have rules.inside address

-- Returns whether the address is one of the addresses.
abbrev pub contains_address : List ℕ → ℕ → Bool
contains_address addresses address = list_any (λ other. other == address) addresses

-- The place of the address in the pool, from 0, if it is in the pool.
abbrev pub pool_place : Rules → ℕ → Option ℕ
pool_place rules address = position (λ other. other == address) rules.pool

-- The inside host whose block of this size has the number, at the address that is at this place of a pool of
-- `addresses` addresses.
unfoldable pub host_at : ℕ → List PrefixModel → ℕ → ℕ → ℕ → Option ℕ
host_at size inside addresses number place = if nat_lt number 1024 then None
    else address_at inside ((number - 1024) / size * addresses + place)

-- The inside host whose block has this external endpoint, if the configuration has blocks and a host has it.
abbrev pub host_of : Rules → ℕ → ℕ → Option ℕ
host_of rules address number =
    option_and_then
    (λ size. option_and_then (host_at size rules.inside (length rules.pool) number) (pool_place rules address))
    rules.block

-- The range of a timer, in seconds.
pub record IsTimer (least seconds : ℕ) : Type 0 where
  pub low : least ≤ seconds
  pub high : seconds ≤ 1_000_000_000

pub record AreTimers (timers : Timers) : Type 0 where
  pub udp : IsTimer 120 timers.udp
  pub established : IsTimer 7440 timers.established
  pub transitory : IsTimer 240 timers.transitory
  pub icmp : IsTimer 60 timers.icmp
  pub hold : IsTimer 0 timers.hold

-- The pool has 1 to 16 addresses, none of them twice and none of them inside.
pub record IsPoolList (inside : List PrefixModel) (pool : List ℕ) : Type 0 where
  pub some : 1 ≤ length pool
  pub few : length pool ≤ 16
  pub addresses : All (λ address. address < 2 ^ 32) pool
  pub distinct : (i j : ℕ) → i < length pool → j < length pool → slice_index pool i ≡ slice_index pool j → i ≡ j
  pub outside : All (λ address. prefixes_have inside address ≡ false) pool

-- There are 1 to 16 inside prefixes.
pub record IsInsideList (inside : List PrefixModel) : Type 0 where
  pub some : 1 ≤ length inside
  pub few : length inside ≤ 16
  pub networks : All IsPrefix inside

-- The range of a quota: the number of bindings that a host may have.
abbrev pub IsQuota : ℕ → Type 0
IsQuota bindings = (1 ≤ bindings) × (bindings ≤ 65535)

-- A block has an even number of external numbers, from an even one on that is at least 1024.
pub record IsPortBlock (block : PortBlock) : Type 0 where
  pub first_even : block.first % 2 ≡ 0
  pub low : 1024 ≤ block.first
  pub size_even : block.size % 2 ≡ 0
  pub some : 64 ≤ block.size
  pub high : block.first + block.size ≤ 65536

-- Returns whether all hosts of the prefixes have blocks of this size, over this number of external addresses.
abbrev pub have_room : ℕ → List PrefixModel → ℕ → Bool
have_room size inside addresses = nat_le ((host_count inside + (addresses - 1)) / addresses * size) 64512

-- If there are blocks, their size is even, every host has one, prefixes do not overlap, and there are no pairs.
pub record AreBlocks (inside : List PrefixModel) (pool : List ℕ) (pairs : List (ℕ × ℕ)) (size : ℕ) : Type 0 where
  pub low : 64 ≤ size
  pub high : size ≤ 32256
  pub even : size % 2 ≡ 0
  pub apart : are_prefixes_apart inside ≡ true
  pub room : have_room size inside (length pool) ≡ true
  pub unpaired : pairs ≡ []

-- There are at most 256 pairs, each of another inside host and with an address of the pool.
pub record ArePairs (pool : List ℕ) (inside : List PrefixModel) (pairs : List (ℕ × ℕ)) : Type 0 where
  pub few : length pairs ≤ 256
  pub ordered : IsStrictlySortedBy nat_cmp (keys_of pairs)
  pub hosts : All (λ host. prefixes_have inside host ≡ true) (keys_of pairs)
  pub externals : All (λ external. contains_address pool external ≡ true) (values_of pairs)

-- A redirect maps an external port to a port of an inside host; neither port is 0.
pub record IsRedirect (inside : List PrefixModel) (redirect : Redirect) : Type 0 where
  pub host : prefixes_have inside redirect.address ≡ true
  pub port : 0 < redirect.port
  pub external : 0 < redirect.external

-- Returns whether two redirects have the same inside endpoint.
abbrev pub share_inside : Redirect → Redirect → Bool
share_inside a b = (a.address == b.address) && (a.port == b.port)

-- Returns whether two redirects have the same external endpoint, whose address is paired with the host.
abbrev pub share_external : (ℕ → ℕ) → Redirect → Redirect → Bool
share_external pair a b = (pair a.address == pair b.address) && (a.external == b.external)

-- Returns whether two redirects are doubles: of one protocol, with one inside endpoint or one external endpoint.
abbrev pub is_double : (ℕ → ℕ) → Redirect → Redirect → Bool
is_double pair a b = beq a.tcp b.tcp && (share_inside a b || share_external pair a b)

-- No redirect of the list is a double of another.
abbrev pub AreRedirectsSingle : (ℕ → ℕ) → List Redirect → Type 0
AreRedirectsSingle pair [] = Unit {0}
AreRedirectsSingle pair (redirect ∷ redirects) = (list_any (is_double pair redirect) redirects ≡ false)
    × AreRedirectsSingle pair redirects

-- The rules that every configuration satisfies.
pub record RulesInvariant (rules : Rules) : Type 0 where
  pub pool : IsPoolList rules.inside rules.pool
  pub inside : IsInsideList rules.inside
  pub timers : AreTimers rules.timers
  pub ring_low : 1 ≤ rules.ring
  pub ring_high : rules.ring ≤ 4096
  pub quota : IfSome rules.quota IsQuota
  pub block : IfSome rules.block (AreBlocks rules.inside rules.pool rules.pairs)
  pub blocks : (host : ℕ) → IfSome (block_of rules host) IsPortBlock
  pub pairs : ArePairs rules.pool rules.inside rules.pairs
  pub redirects_few : length rules.redirects ≤ 256
  pub redirects : All (IsRedirect rules.inside) rules.redirects
  pub in_blocks : All (λ redirect. may_redirect (block_of rules redirect.address) redirect.external ≡ true)
      rules.redirects
  pub single : AreRedirectsSingle (pair_of rules) rules.redirects

-- Indices of hosts, and their blocks.
use Rattle.std.proofs.lemmas.Grind.{common_steps}
use Rattle.std.proofs.Common.{◌≡◌, ℕ, ◌+◌, ◌-◌, ◌*◌, ◌/◌, ◌%◌, ◌^◌, ◌<◌, ◌≤◌, Bool, true, false, cond, List, [], ◌∷◌, length, Option, Some, None, refl, ap, ◌∙◌, leb-true, arith, IfSome, option_map, pow_pos, pow-add, div-add-mod'}
use Rattle.std.proofs.Math.Nat.{mod-lt, mul_assoc, mul_comm, mul-le-mul_right, div-mul-le_self, le-div_iff_mul-le, div-lt_iff_lt-mul}
use Rattle.napt_config.specs.Prelude.{PrefixModel, IsPrefix, prefix_has, prefix_size, host_count, host_index, nth_block, block_in, IsPortBlock, AreBlocks}

-- ---- indices

pub size_pos : (network : PrefixModel) → 0 < prefix_size network
size_pos network = pow_pos (32 - network.bits)

below_both : (here : Bool) (place size others : ℕ) (later : Option ℕ) (index : ℕ) → place < size →
    ((i : ℕ) → later ≡ Some i → i < others)
    → cond here (Some place) (option_map (λ i. size + i) later) ≡ Some index → index < size + others
below_both true place size others later index small more is =
    let same : place ≡ index = cc in
    omega (arith, small, same)
below_both false place size others None index small more is = cc
below_both false place size others (Some i) index small more is =
    let same : size + i ≡ index = cc in
    omega (arith, more i refl, same)

-- An index is below the number of hosts.
pub index_of-bound : (inside : List PrefixModel) (host index : ℕ) → host_index inside host ≡ Some index
    → index < host_count inside
index_of-bound [] host index is = cc
index_of-bound (network ∷ networks) host index is =
    below_both (prefix_has network host) (host % prefix_size network) (prefix_size network) (host_count networks)
    (host_index networks host) index (mod-lt host (size_pos network)) (λ i. index_of-bound networks host i) is

one_more : (q n : ℕ) → (q + 1) * n ≡ q * n + n
one_more q n = mul_comm (q + 1) n ∙ omega (arith, mul_comm q n)

next_fits : (address size many : ℕ) → 0 < size → address % size ≡ 0 → address < many * size →
    address + size ≤ many * size
next_fits address size many some whole below =
    grind (arith, common_steps, div-lt_iff_lt-mul, mul-le-mul_right, one_more, div-add-mod')

-- The address at a place in a network is below 2 ^ 32.
pub address_fits : (network : PrefixModel) (place : ℕ) → IsPrefix network → place < prefix_size network →
    network.address + place < 2 ^ 32
address_fits network place is within =
    let few : network.bits ≤ 32 = is.bits in
    let bits : 32 ≡ network.bits + (32 - network.bits) = omega (arith, few) in
    let parts : 2 ^ 32 ≡ 2 ^ network.bits * prefix_size network =
    ap (λ k. 2 ^ k) bits ∙ pow-add 2 network.bits (32 - network.bits) in
    let below : network.address < 2 ^ network.bits * prefix_size network = omega (arith, is.address, parts) in
    let next = next_fits network.address (prefix_size network) (2 ^ network.bits) (size_pos network) is.no_host_bits
    below in
    omega (arith, next, within, parts)

-- ---- blocks

nth_block-is : (size nth : ℕ) → size % 2 ≡ 0 → 64 ≤ size → size * nth + size ≤ 64512 → IsPortBlock (nth_block size nth)
nth_block-is size nth even low room =
    let half : size ≡ 2 * (size / 2) = omega (arith, even) in
    let twice : size * nth ≡ 2 * (size / 2 * nth) = ap (λ s. s * nth) half ∙ mul_assoc 2 (size / 2) nth in
    record {
      first_even = omega (arith, twice);
      low = omega arith;
      size_even = even;
      some = low;
      high = omega (arith, room);
    }

-- All blocks of one address end at or below 65536.
block_fits : (size hosts addresses index : ℕ) → 1 ≤ addresses → index < hosts →
    (hosts + (addresses - 1)) / addresses * size ≤ 64512 → size * (index / addresses) + size ≤ 64512
block_fits size hosts addresses index some within room =
    let below = div-mul-le_self index addresses in
    let next = one_more (index / addresses) addresses in
    let some' : 0 < addresses = omega (arith, some) in
    let fits : index / addresses + 1 ≤ (hosts + (addresses - 1)) / addresses =
    (le-div_iff_mul-le {k = addresses} {x = index / addresses + 1} {y = hosts + (addresses - 1)} some').1
    (omega (arith, some, within, below, next)) in
    let all = mul-le-mul_right {m = index / addresses + 1} {n = (hosts + (addresses - 1)) / addresses} size fits in
    omega (arith, room, all, one_more (index / addresses) size, mul_comm (index / addresses) size)

block_at-is : (size addresses : ℕ) (found : Option ℕ) → ((index : ℕ) → found ≡ Some index →
    IsPortBlock (nth_block size (index / addresses)))
    → IfSome (option_map (λ index. nth_block size (index / addresses)) found) IsPortBlock
block_at-is size addresses None each = tt
block_at-is size addresses (Some index) each = each index refl

-- The block of a host satisfies `IsPortBlock`.
pub block_in-is : (block : Option ℕ) (inside : List PrefixModel) (pool : List ℕ) (pairs : List (ℕ × ℕ)) →
    1 ≤ length pool →
    IfSome block (AreBlocks inside pool pairs)
    → (host : ℕ) → IfSome (block_in block inside (length pool) host) IsPortBlock
unfolding block_in
block_in-is None inside pool pairs some blocks host = tt
block_in-is (Some size) inside pool pairs some blocks host =
    block_at-is size (length pool) (host_index inside host) λ index found.
    nth_block-is size (index / length pool) blocks.even blocks.low
    (block_fits size (host_count inside) (length pool) index some (index_of-bound inside host index found)
    (leb-true _ _ blocks.room))

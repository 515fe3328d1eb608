-- The host of an external endpoint, where hosts have port blocks.
use Rattle.std.proofs.Common.{◌≡◌, ℕ, ◌+◌, ◌-◌, ◌*◌, ◌/◌, ◌%◌, ◌^◌, ◌<◌, ◌≤◌, ◌==◌, ◌||◌, Bool, true, false, cond, List, [], ◌∷◌, length, get_or, Option, Some, None, nat_lt, refl, sym, ap, subst, ◌∙◌, eq-eqb, eqb-true, lt-ltb, leb-true, ltb-true, inl, inr, arith, All, IfSome, IsSome, position, option_map, option_and_then, unwrap_or}
use Rattle.std.{specs.List.list_any, proofs.Math.Nat.{mod-lt, mod-eq_of_lt, mul_comm, mul-add-mod_self_right, div-div-eq-div-mul}}
use Rattle.std.proofs.lemmas.Nat.{pow-add, div-add-mod', div-mul-add}
use Rattle.std.proofs.lemmas.Bool.{and_from, and_parts, or_parts, not-true, le-leb, le-ltb, ltb-false, false≢true, cases_lt}
use Rattle.std.proofs.lemmas.List.{Elements.{All-head, All-tail}, Quantifiers.position-Some}
use Rattle.napt_rules.specs.Prelude.{Each, IsPaired, IsBlockNumber, IsInItsBlock, TakenStatesAreSound, TakenStatesKeepToBlocks, PortBlock, PrefixModel, IsPrefix, prefix_has, prefix_size, do_prefixes_meet, are_prefixes_apart, host_index, address_at}
use Rattle.napt_rules.specs.declared.Row.{Row}
use Rattle.napt_laws.specs.Hosts.{BlocksNameTheirHosts, HostsHaveTheirBlocks, BlocksAreApart, HostIsNamed, RunsNameTheirHosts}
use Rattle.napt_config.specs.Rules.{Rules, RulesInvariant, AreBlocks, IsPoolList, contains_address, pool_address_for, paired_address, pair_of, nth_block, block_in, block_of, block_has_number, host_at, host_of}
use Rattle.napt_config.proofs.{Indices.size_pos, Pools.{has-at, position_of_member}}

-- ---- one prefix

joined : (address host size : ℕ) → address % size ≡ 0 → host / size ≡ address / size → address + host % size ≡ host
joined address host size whole same =
    omega (arith, div-add-mod' host size, div-add-mod' address size, whole, ap (λ q. q * size) same)

record Split (address place size : ℕ) : Type 0 where
  pub top : (address + place) / size ≡ address / size
  pub low : (address + place) % size ≡ place

split : (address place size : ℕ) → address % size ≡ 0 → place < size → Split address place size
split address place size whole within =
    let is : address ≡ address / size * size = omega (arith, div-add-mod' address size, whole) in
    record {
      top = ap (λ a. (a + place) / size) is ∙ div-mul-add (address / size) size place within;
      low = ap (λ a. (a + place) % size) is ∙ mul-add-mod_self_right (address / size) size place
          ∙ mod-eq_of_lt within;
    }

map_some : {A B P : Type 0} (f : A → B) (o : Option A) (y : B) → option_map f o ≡ Some y → ((x : A) → o ≡ Some x →
    f x ≡ y → P) → P
map_some f None y e then = cc
map_some f (Some x) y e then = let same : f x ≡ y = cc in then x refl same

-- ---- the address at an index

module _ (network : PrefixModel) (networks : List PrefixModel) (host index : ℕ) where
  index_here : (here : Bool) → prefix_has network host ≡ here → IsPrefix network →
      ((i : ℕ) → host_index networks host ≡ Some i → address_at networks i ≡ Some host)
      → cond here (Some (host % prefix_size network)) (option_map (λ i. prefix_size network + i)
      (host_index networks host)) ≡ Some index → address_at (network ∷ networks) index ≡ Some host
  index_here true here is more e =
      let same : host % prefix_size network ≡ index = cc in
      let within : nat_lt index (prefix_size network) ≡ true =
      lt-ltb _ _ (subst (λ i. i < prefix_size network) same (mod-lt host (size_pos network))) in
      let whole = joined network.address host (prefix_size network) is.no_host_bits (eqb-true _ _ here) in
      rw within (ap Some (ap (λ i. network.address + i) (sym same) ∙ whole))
  index_here false here is more e =
      map_some (λ i. prefix_size network + i) (host_index networks host) index e λ i found made.
      let beyond : nat_lt index (prefix_size network) ≡ false = le-ltb index _ (omega (arith, made)) in
      let rest : index - prefix_size network ≡ i = omega (arith, made) in
      rw (beyond, rest) (more i found)

pub address_at-index : (inside : List PrefixModel) (host index : ℕ) → All IsPrefix inside → host_index inside host
    ≡ Some index → address_at inside index ≡ Some host
address_at-index [] host index are e = cc
address_at-index (network ∷ networks) host index are e =
    index_here network networks host index (prefix_has network host) refl (All-head IsPrefix network networks are)
    (λ i found. address_at-index networks host i (All-tail IsPrefix network networks are) found) e

-- ---- the index of an address

or_left : (x y : Bool) → x ≡ true → (x || y) ≡ true
or_left true y e = refl
or_left false y e = cc

or_right : (x y : Bool) → y ≡ true → (x || y) ≡ true
or_right true y e = refl
or_right false y e = e

false_from : (b : Bool) → (b ≡ true → ⊥) → b ≡ false
false_from true never = absurd (never refl)
false_from false never = refl

-- An address in two prefixes: the larger prefix contains the smaller one.
larger_has : (a b : PrefixModel) (host : ℕ) → a.bits ≤ b.bits → b.bits ≤ 32 → prefix_has a host ≡ true →
    prefix_has b host ≡ true → prefix_has a b.address ≡ true
larger_has a b host fewer most of_a of_b =
    let bits : 32 - a.bits ≡ (32 - b.bits) + (b.bits - a.bits) = omega (arith, fewer, most) in
    let parts : prefix_size a ≡ prefix_size b * 2 ^ (b.bits - a.bits) =
    ap (λ k. 2 ^ k) bits ∙ pow-add 2 (32 - b.bits) (b.bits - a.bits) in
    let coarse : (x : ℕ) → x / prefix_size a ≡ x / prefix_size b / 2 ^ (b.bits - a.bits) =
    λ x. ap (λ m. x / m) parts ∙ sym (div-div-eq-div-mul x (prefix_size b) (2 ^ (b.bits - a.bits))) in
    let fine : host / prefix_size b ≡ b.address / prefix_size b = eqb-true _ _ of_b in
    eq-eqb _ _ (coarse b.address ∙ ap (λ q. q / 2 ^ (b.bits - a.bits)) (sym fine) ∙ sym (coarse host)
    ∙ eqb-true _ _ of_a)

both_meet : (a b : PrefixModel) (host : ℕ) → IsPrefix a → IsPrefix b → prefix_has a host ≡ true → prefix_has b host
    ≡ true → do_prefixes_meet a b ≡ true
both_meet a b host is_a is_b of_a of_b = elim (cases_lt a.bits b.bits) [
  | inl fewer ↦ or_left _ _ (larger_has a b host (omega (arith, fewer)) is_b.bits of_a of_b)
  | inr more ↦ or_right (prefix_has a b.address) _ (larger_has b a host more is_a.bits of_b of_a)
]

meets_none : (a b : PrefixModel) (networks : List PrefixModel) (host index : ℕ) (here : Bool) →
    prefix_has b host ≡ here →
    IsPrefix a → IsPrefix b → prefix_has a host ≡ true
    → (list_any (do_prefixes_meet a) networks ≡ false → (i : ℕ) → host_index networks host ≡ Some i → ⊥)
    → list_any (do_prefixes_meet a) (b ∷ networks) ≡ false
    → cond here (Some (host % prefix_size b)) (option_map (λ i. prefix_size b + i) (host_index networks host))
    ≡ Some index → ⊥
meets_none a b networks host index true here is_a is_b of_a more apart e =
    false≢true (sym (or_parts (do_prefixes_meet a b) _ apart).0 ∙ both_meet a b host is_a is_b of_a here)
meets_none a b networks host index false here is_a is_b of_a more apart e =
    map_some (λ i. prefix_size b + i) (host_index networks host) index e λ i found made.
    more (or_parts (do_prefixes_meet a b) _ apart).1 i found

not_shared : (a : PrefixModel) (networks : List PrefixModel) (host index : ℕ) → IsPrefix a → All IsPrefix networks →
    prefix_has a host ≡ true → list_any (do_prefixes_meet a) networks ≡ false →
    host_index networks host ≡ Some index → ⊥
not_shared a [] host index is_a are of_a apart e = cc
not_shared a (b ∷ networks) host index is_a are of_a apart e =
    meets_none a b networks host index (prefix_has b host) refl is_a (All-head IsPrefix b networks are) of_a
    (λ apart' i found. not_shared a networks host i is_a (All-tail IsPrefix b networks are) of_a apart' found) apart e

module _ (network : PrefixModel) (networks : List PrefixModel) (host index : ℕ) where
  address_here : (before : Bool) → nat_lt index (prefix_size network) ≡ before → IsPrefix network →
      All IsPrefix networks → list_any (do_prefixes_meet network) networks ≡ false
      → (address_at networks (index - prefix_size network) ≡ Some host → host_index networks host
      ≡ Some (index - prefix_size network))
      → cond before (Some (network.address + index)) (address_at networks (index - prefix_size network)) ≡ Some host
      → host_index (network ∷ networks) host ≡ Some index
  address_here true within is are apart more e =
      let same : network.address + index ≡ host = cc in
      let parts = split network.address index (prefix_size network) is.no_host_bits (ltb-true _ _ within) in
      let here : prefix_has network host ≡ true =
      eq-eqb _ _ (ap (λ h. h / prefix_size network) (sym same) ∙ parts.top) in
      rw here (ap Some (ap (λ h. h % prefix_size network) (sym same) ∙ parts.low))
  address_here false beyond is are apart more e =
      let found = more e in
      let elsewhere : prefix_has network host ≡ false =
      false_from _ (λ here. not_shared network networks host _ is are here apart found) in
      let above : prefix_size network ≤ index = ltb-false _ _ beyond in
      let whole : prefix_size network + (index - prefix_size network) ≡ index = omega (arith, above) in
      rw (elsewhere, found) (ap Some whole)

pub index_of-address : (inside : List PrefixModel) (host index : ℕ) → All IsPrefix inside →
    are_prefixes_apart inside ≡ true →
    address_at inside index ≡ Some host → host_index inside host ≡ Some index
index_of-address [] host index are apart e = cc
index_of-address (network ∷ networks) host index are apart e =
    let (first, rest) = and_parts _ _ apart in
    let others = All-tail IsPrefix network networks are in
    address_here network networks host index (nat_lt index (prefix_size network)) refl
    (All-head IsPrefix network networks are) others (not-true _ first)
    (λ found. index_of-address networks host (index - prefix_size network) others rest found) e

-- ---- the numbers of a block

record InBlock (size nth number : ℕ) : Type 0 where
  pub low : 1024 ≤ number
  pub nth_is : (number - 1024) / size ≡ nth

in_block : (size nth number : ℕ) → block_has_number (nth_block size nth) number ≡ true → InBlock size nth number
in_block size nth number has =
    let (low, high) = and_parts _ _ has in
    let from : 1024 + size * nth ≤ number = leb-true _ _ low in
    let below : number < 1024 + size * nth + size = ltb-true _ _ high in
    let turned : size * nth ≡ nth * size = mul_comm size nth in
    let rest : number - 1024 ≡ nth * size + (number - 1024 - nth * size) = omega (arith, from, turned) in
    let small : number - 1024 - nth * size < size = omega (arith, from, below, turned) in
    record {
      low = omega (arith, from);
      nth_is = ap (λ n. n / size) rest ∙ div-mul-add nth size (number - 1024 - nth * size) small;
    }

of_block : (size nth number : ℕ) → 0 < size → 1024 ≤ number → (number - 1024) / size ≡ nth →
    block_has_number (nth_block size nth) number ≡ true
of_block size nth number some low is =
    let whole = div-add-mod' (number - 1024) size in
    let small = mod-lt (number - 1024) some in
    let same = ap (λ q. q * size) is in
    let turned : size * nth ≡ nth * size = mul_comm size nth in
    let from : 1024 + size * nth ≤ number = omega (arith, low, whole, same, turned) in
    let below : number < 1024 + size * nth + size = omega (arith, low, whole, small, same, turned) in
    and_from _ _ (le-leb _ _ from) (lt-ltb _ _ below)

-- ---- places in a pool

seated : (inside : List PrefixModel) (pool : List ℕ) (k : ℕ) (at : Option ℕ) → IsPoolList inside pool →
    k < length pool →
    position (λ other. other == get_or pool k 0) pool ≡ at → IsSome at → at ≡ Some k
seated inside pool k None is within found some = absurd (false≢true some)
seated inside pool k (Some i) is within found some =
    let (i_within, same, _) = position-Some (λ other. other == get_or pool k 0) pool i 0 found in
    ap Some (is.distinct i k i_within within (eqb-true _ _ same))

place_of_pooled : (inside : List PrefixModel) (pool : List ℕ) (k : ℕ) → IsPoolList inside pool → k < length pool →
    position (λ other. other == get_or pool k 0) pool ≡ Some k
place_of_pooled inside pool k is within =
    seated inside pool k (position (λ other. other == get_or pool k 0) pool) is within refl
    (position_of_member pool (get_or pool k 0) (has-at pool k 0 within))

-- ---- the hosts of blocks

host_at_place : (size : ℕ) (inside : List PrefixModel) (addresses number place : ℕ) → 1024 ≤ number →
    host_at size inside addresses number place ≡ address_at inside ((number - 1024) / size * addresses + place)
unfolding host_at
host_at_place size inside addresses number place low = rw (le-ltb number 1024 low)

low_enough : (below : Bool) (number host : ℕ) (found : Option ℕ) → nat_lt number 1024 ≡ below → cond below None found
    ≡ Some host → (1024 ≤ number) × (found ≡ Some host)
low_enough true number host found test e = cc
low_enough false number host found test e = (ltb-false _ _ test, e)

host_at-is : (size : ℕ) (inside : List PrefixModel) (addresses number place host : ℕ) →
    host_at size inside addresses number place ≡ Some host
    → (1024 ≤ number) × (address_at inside ((number - 1024) / size * addresses + place) ≡ Some host)
unfolding host_at
host_at-is size inside addresses number place host e = low_enough (nat_lt number 1024) number host _ refl e

module _ (size : ℕ) (inside : List PrefixModel) (pool : List ℕ) (pairs : List (ℕ × ℕ)) (host : ℕ)
    (is_pool : IsPoolList inside pool) (are : All IsPrefix inside) where
  -- The place in the pool of the host's external address.
  seat : (index : ℕ) → host_index inside host ≡ Some index →
      position (λ other. other == paired_address (Some size) inside pool pairs host) pool ≡ Some (index % length pool)
  unfolding paired_address
  seat index found =
      let some : 0 < length pool = omega (arith, is_pool.some) in
      let at : pool_address_for pool (unwrap_or (host_index inside host) host) ≡ get_or pool (index % length pool) 0 =
      ap (λ o. pool_address_for pool (unwrap_or o host)) found in
      ap (λ a. position (λ other. other == a) pool) at
      ∙ place_of_pooled inside pool (index % length pool) is_pool (mod-lt index some)

  tells : (number : ℕ) (block : PortBlock) → block_in (Some size) inside (length pool) host ≡ Some block →
      block_has_number block number ≡ true
      → option_and_then (host_at size inside (length pool) number)
      (position (λ other. other == paired_address (Some size) inside pool pairs host) pool) ≡ Some host
  unfolding block_in
  tells number block e has =
      map_some (λ index. nth_block size (index / length pool)) (host_index inside host) block e λ index found made.
      let own = in_block size (index / length pool) number
      (subst (λ b. block_has_number b number ≡ true) (sym made) has) in
      let back : (number - 1024) / size * length pool + index % length pool ≡ index =
      ap (λ q. q * length pool + index % length pool) own.nth_is ∙ div-add-mod' index (length pool) in
      ap (option_and_then (host_at size inside (length pool) number)) (seat index found)
      ∙ host_at_place size inside (length pool) number (index % length pool) own.low
      ∙ ap (address_at inside) back ∙ address_at-index inside host index are found

  keeps : (number : ℕ) (block : PortBlock) → 0 < size → are_prefixes_apart inside ≡ true
      → block_in (Some size) inside (length pool) host ≡ Some block
      → option_and_then (host_at size inside (length pool) number)
      (position (λ other. other == paired_address (Some size) inside pool pairs host) pool) ≡ Some host
      → block_has_number block number ≡ true
  unfolding block_in
  keeps number block some apart e told =
      map_some (λ index. nth_block size (index / length pool)) (host_index inside host) block e λ index found made.
      let there : host_at size inside (length pool) number (index % length pool) ≡ Some host =
      sym (ap (option_and_then (host_at size inside (length pool) number)) (seat index found)) ∙ told in
      let (low, at) = host_at-is size inside (length pool) number (index % length pool) host there in
      let q : ℕ = (number - 1024) / size in
      let again = index_of-address inside host _ are apart at in
      let same : index ≡ (number - 1024) / size * length pool + index % length pool = cc in
      let within : index % length pool < length pool = mod-lt index (omega (arith, is_pool.some)) in
      let nth : index / length pool ≡ (number - 1024) / size =
      ap (λ i. i / length pool) same
      ∙ div-mul-add ((number - 1024) / size) (length pool) (index % length pool) within in
      subst (λ b. block_has_number b number ≡ true) made
      (of_block size (index / length pool) number some low (sym nth))

tells_at : (size : Option ℕ) (inside : List PrefixModel) (pool : List ℕ) (pairs : List (ℕ × ℕ)) (host number : ℕ)
    (block : PortBlock) → IsPoolList inside pool → All IsPrefix inside →
    block_in size inside (length pool) host ≡ Some block
    → block_has_number block number ≡ true
    → option_and_then (λ s. option_and_then (host_at s inside (length pool) number)
    (position (λ other. other == paired_address size inside pool pairs host) pool)) size ≡ Some host
unfolding block_in
tells_at None inside pool pairs host number block is_pool are e has = cc
tells_at (Some size) inside pool pairs host number block is_pool are e has =
    tells size inside pool pairs host is_pool are number block e has

keeps_at : (size : Option ℕ) (inside : List PrefixModel) (pool : List ℕ) (pairs : List (ℕ × ℕ)) (host number : ℕ)
    (block : PortBlock) → IsPoolList inside pool → All IsPrefix inside → IfSome size (AreBlocks inside pool pairs)
    → block_in size inside (length pool) host ≡ Some block
    → option_and_then (λ s. option_and_then (host_at s inside (length pool) number)
    (position (λ other. other == paired_address size inside pool pairs host) pool)) size ≡ Some host
    → block_has_number block number ≡ true
unfolding block_in
keeps_at None inside pool pairs host number block is_pool are blocks e told = cc
keeps_at (Some size) inside pool pairs host number block is_pool are blocks e told =
    keeps size inside pool pairs host is_pool are number block (omega (arith, blocks.low)) blocks.apart e told

pub blocks_tell : BlocksNameTheirHosts
blocks_tell rules host number block kept e has =
    tells_at rules.block rules.inside rules.pool rules.pairs host number block kept.pool kept.inside.networks e has

pub hosts_have : HostsHaveTheirBlocks
hosts_have rules host number block kept e told =
    keeps_at rules.block rules.inside rules.pool rules.pairs host number block kept.pool kept.inside.networks kept.block
    e told

pub blocks_apart : BlocksAreApart
blocks_apart rules a b number of_a of_b kept a_has b_has shared in_a in_b =
    let one = blocks_tell rules a number of_a kept a_has in_a in
    let two = blocks_tell rules b number of_b kept b_has in_b in
    let same : Some a ≡ Some b = sym one ∙ ap (λ address. host_of rules address number) shared ∙ two in
    cc

-- ---- after a run

each_of_both : {X : Type 0} (P Q R : X → Type 0) → ((x : X) → P x → Q x → R x) → (xs : List X) → Each P xs → Each Q xs →
    Each R xs
each_of_both P Q R both [] of_p of_q = tt
each_of_both P Q R both (x ∷ xs) of_p of_q = (both x of_p.0 of_q.0, each_of_both P Q R both xs of_p.1 of_q.1)

module _ (rules : Rules) (kept : RulesInvariant rules) where
  told_at : (one : Row) (found : Option PortBlock) → IsPaired (pair_of rules) one →
      block_of rules one.inside.address ≡ found →
      IfSome found (λ block. IsBlockNumber block one.external.number)
      → IfSome found (λ block. host_of rules one.external.address one.external.number ≡ Some one.inside.address)
  told_at one None paired e own = tt
  told_at one (Some block) paired e own =
      ap (λ address. host_of rules address one.external.number) paired.paired
      ∙ blocks_tell rules one.inside.address one.external.number block kept e
      (and_from _ _ (le-leb _ _ own.first) (lt-ltb _ _ own.last))

  row_told : (one : Row) → IsPaired (pair_of rules) one → IsInItsBlock rules one → HostIsNamed rules one
  row_told one paired own loose = told_at one (block_of rules one.inside.address) paired refl (own loose)

pub runs_tell : TakenStatesAreSound → TakenStatesKeepToBlocks → RunsNameTheirHosts
runs_tell sound own rules kept state takes inputs =
    each_of_both (IsPaired (pair_of rules)) (IsInItsBlock rules) (HostIsNamed rules) (row_told rules kept) _
    (sound rules kept state takes inputs).each (own rules kept state takes inputs)

-- The configuration of a table satisfies the rules of a configuration.
use Rattle.std.proofs.lemmas.Grind.{common_steps}
use Rattle.std.proofs.Common.{◌≡◌, ℕ, ◌+◌, ◌-◌, ◌%◌, ◌^◌, ◌<◌, ◌≤◌, ◌==◌, Bool, true, false, not, List, [], ◌∷◌, ◌++◌, length, get_or, Option, Some, None, Ok, nat_lt, nat_le, nat_cmp, is_some, refl, sym, ap, subst, ◌∙◌, ltb-true, leb-true, eqb-true, length-append, arith, All, IfSome, ok_or, codes}
use Rattle.std.specs.{BTreeMap.insert_entry, List.{list_any, before_first, after_first, Sorted.IsStrictlySortedBy}, Map.{keys_of, values_of}}
use Rattle.std.proofs.lemmas.{Bool.not-true, List.{Elements.{All-push, All-nil}, Folds.list_any_at}, Map.Views.{All-keys-insert_entry, All-values-insert_entry}}
use Rattle.std.proofs.lemmas.Option.{cond_some, option_and_then_some}
use Rattle.toml.specs.Data.{Data, Items, Members, get_member}
use Rattle.napt_config.specs.Prelude.{BadAddress, BadPrefix, BadNumber, DuplicateAddress, Missing, PrefixesOverlap, BlockTooLarge, PairWithBlock, HoldWithBlock, NotInside, NotInPool, DuplicatePair, TimerTooShort, UnknownKey, Timers, PrefixModel, IsPrefix, prefixes_have, are_prefixes_apart, address_of, prefix_of_text, prefix_at, number_of, is_slash, Rules, contains_address, paired_with, paired_address, block_in, have_room, IsTimer, AreTimers, IsInsideList, IsQuota, IsPortBlock, AreBlocks, ArePairs, RulesInvariant, each_in_order, item_count, short_list, text_in, number_at_key, table_in, list_up_to, with_address, pool_in, with_prefix, prefixes_in, inside_in, filter_in, refresh_in, choosing_in, timer_at, timers_at, idle_timers_in, timers_in, default_timers, ring_in, quota_at, quota_in, block_size_at, block_size, block_size_in, address_in, with_pair, pairs_at, pairs_in, redirects_in, required, optional, configured, knows_all_keys}
use Rattle.napt_config.proofs.Addresses.{address_of-bound}
use Rattle.napt_config.proofs.{ReadingSteps.{list_up_to-counts, reads, holds, ok_or_ok, optional_reads, optional-absent, each_keeps, each_adds}, Indices.block_in-is}
use Rattle.napt_config.proofs.{Numbers.{number_of-range, number_at-range}, PairEntries.{Pairs, sorted_inserted, one_more}, Pools.{AreDistinct, AreDistinct-push}}
use Rattle.napt_config.proofs.RedirectEntries.{redirects_in-keeps}

-- ---- texts

network_at-is : (address bits : ℕ) (network : PrefixModel) → address < 2 ^ 32 → bits ≤ 32 → prefix_at address bits
    ≡ Some network → IsPrefix network
network_at-is address bits network small few is = grind (arith, common_steps, cond_some, eqb-true)

network_of-is : (text : List ℕ) (network : PrefixModel) → prefix_of_text text ≡ Some network → IsPrefix network
unfolding prefix_of_text
network_of-is text network is =
    grind (arith, common_steps, option_and_then_some, network_at-is, address_of-bound, number_of-range)

-- ---- lists

short_list-counts : (key : List ℕ) (table : Members) (entries : Items) → short_list key table ≡ Ok entries →
    (1 ≤ item_count entries) × (item_count entries ≤ 16)
unfolding short_list
short_list-counts key table entries is = grind (arith, common_steps, reads, holds, nat_lt, ltb-true, list_up_to-counts)

-- ---- pool

record PoolStep (pool next : List ℕ) : Type 0 where
  pub address : ℕ
  pub small : address < 2 ^ 32
  pub new : contains_address pool address ≡ false
  pub is : next ≡ pool ++ address ∷ []

pool_step : (pool next : List ℕ) (entry : Data) → with_address pool entry ≡ Ok next → PoolStep pool next
unfolding with_address
pool_step pool next entry is = grind (arith, common_steps, reads, ok_or, holds, address_of-bound, ok_or_ok, not-true)

pub record PoolSoFar (pool : List ℕ) : Type 0 where
  pub addresses : All (λ address. address < 2 ^ 32) pool
  pub distinct : AreDistinct pool

pool_keeps : (now next : List ℕ) (entry : Data) → PoolSoFar now → with_address now entry ≡ Ok next → PoolSoFar next
pool_keeps now next entry start is =
    let step = pool_step now next entry is in
    subst PoolSoFar (sym step.is) (record {
      addresses = All-push (λ address. address < 2 ^ 32) now step.address start.addresses step.small;
      distinct = AreDistinct-push now step.address start.distinct step.new;
    })

pool_adds : (now next : List ℕ) (entry : Data) → with_address now entry ≡ Ok next → length next ≡ length now + 1
pool_adds now next entry is =
    let step = pool_step now next entry is in
    ap length step.is ∙ length-append now (step.address ∷ [])

pub record PoolRules (pool : List ℕ) : Type 0 where
  pub some : 1 ≤ length pool
  pub few : length pool ≤ 16
  pub kept : PoolSoFar pool

nothing_yet : PoolSoFar []
nothing_yet = record { addresses = All-nil _; distinct = λ i j i_in j_in same. absurd (omega arith) }

pub pool_in-keeps : (table : Members) (pool : List ℕ) → pool_in each_in_order table ≡ Ok pool → PoolRules pool
unfolding pool_in
pool_in-keeps table pool is =
    reads (short_list (codes "pool") table) _ pool is λ entries listed more.
    let counts = short_list-counts (codes "pool") table entries listed in
    let long = each_adds with_address length pool_adds [] pool entries more in
    record {
      some = omega (arith, counts);
      few = omega (arith, counts);
      kept =
          each_keeps with_address PoolSoFar pool_keeps [] pool entries nothing_yet more;
    }

-- ---- inside

inside_step : (now next : List PrefixModel) (entry : Data) → with_prefix now entry ≡ Ok next → (network : PrefixModel)
    × IsPrefix network × (next ≡ now ++ network ∷ [])
unfolding with_prefix
inside_step now next entry is =
    reads (text_in entry) _ next is λ text _ read.
    reads (ok_or (prefix_of_text text) BadPrefix) _ next read λ network found last.
    (network, network_of-is text network (ok_or_ok _ _ _ found), cc)

inside_keeps : (now next : List PrefixModel) (entry : Data) → All IsPrefix now → with_prefix now entry ≡ Ok next →
    All IsPrefix next
inside_keeps now next entry start is =
    let (network, is_network, made) = inside_step now next entry is in
    subst (All IsPrefix) (sym made) (All-push IsPrefix now network start is_network)

inside_adds : (now next : List PrefixModel) (entry : Data) → with_prefix now entry ≡ Ok next →
    length next ≡ length now + 1
inside_adds now next entry is = grind (arith, common_steps, inside_step, length-append)

prefixes_in-keeps : (table : Members) (inside : List PrefixModel) → prefixes_in each_in_order table ≡ Ok inside →
    IsInsideList inside
unfolding prefixes_in
prefixes_in-keeps table inside is =
    reads (short_list (codes "inside") table) _ inside is λ entries listed more.
    let counts = short_list-counts (codes "inside") table entries listed in
    let long = each_adds with_prefix length inside_adds [] inside entries more in
    record {
      some = omega (arith, counts);
      few = omega (arith, counts);
      networks =
          each_keeps with_prefix (All IsPrefix) inside_keeps [] inside entries (All-nil _) more;
    }

not_there : (test : ℕ → Bool) (xs : List ℕ) (i d : ℕ) (b : Bool) → list_any test xs ≡ false → i < length xs →
    test (get_or xs i d) ≡ b → b ≡ false
not_there test xs i d true none lt is = sym (list_any_at test xs i d lt is) ∙ none
not_there test xs i d false none lt is = refl

all_outside : (inside : List PrefixModel) (pool : List ℕ) → list_any (prefixes_have inside) pool ≡ false →
    All (λ address. prefixes_have inside address ≡ false) pool
all_outside inside pool none = λ i d lt. not_there (prefixes_have inside) pool i d _ none lt refl

pub inside_in-keeps : (pool : List ℕ) (table : Members) (inside : List PrefixModel) → inside_in pool table ≡ Ok inside →
    IsInsideList inside × All (λ address. prefixes_have inside address ≡ false) pool
unfolding inside_in
inside_in-keeps pool table inside is = grind (arith, common_steps, prefixes_in-keeps, all_outside, not-true)

-- ---- timers, ring and quota

timer_at-keeps : (least seconds : ℕ) (value : Data) → timer_at least value ≡ Ok seconds → IsTimer least seconds
unfolding timer_at
timer_at-keeps least seconds value is = grind (arith, common_steps, reads, holds, nat_le, leb-true, number_at-range)

timer-keeps : (key : List ℕ) (least default seconds : ℕ) (table : Members) → IsTimer least default →
    optional key default (timer_at least) table ≡ Ok seconds → IsTimer least seconds
timer-keeps key least default seconds table fine is = optional_reads (IsTimer least) key default
    (timer_at least) table seconds is fine (λ value y read. timer_at-keeps least y value read)

defaults_are_timers : AreTimers default_timers
defaults_are_timers = grind (arith, common_steps)

timers_at-keeps : (timers : Timers) (value : Data) → timers_at value ≡ Ok timers → AreTimers timers
unfolding timers_at
timers_at-keeps timers value is = grind (arith, common_steps, reads, timer-keeps, defaults_are_timers)

pub timers_in-keeps : (timers : Timers) (table : Members) → timers_in table ≡ Ok timers → AreTimers timers
unfolding timers_in idle_timers_in
timers_in-keeps timers table is =
    grind (arith, common_steps, reads, optional_reads, defaults_are_timers, timers_at-keeps, timer-keeps)

abbrev pub IsRing : ℕ → Type 0
IsRing slots = (1 ≤ slots) × (slots ≤ 4096)

pub ring_in-keeps : (slots : ℕ) (table : Members) → ring_in table ≡ Ok slots → IsRing slots
unfolding ring_in
ring_in-keeps slots table is = optional_reads IsRing (codes "ring") 64 (number_at_key 1 4096) table slots is
    (omega arith, omega arith) (λ value y read. number_at-range 1 4096 y value read)

quota_at-keeps : (quota : Option ℕ) (value : Data) → quota_at value ≡ Ok quota → IfSome quota IsQuota
unfolding quota_at
quota_at-keeps quota value is = grind (arith, common_steps, number_at-range)

pub quota_in-keeps : (quota : Option ℕ) (table : Members) → quota_in table ≡ Ok quota → IfSome quota IsQuota
unfolding quota_in
quota_in-keeps quota table is = grind (arith, common_steps, optional_reads, quota_at-keeps)

-- ---- blocks

pub record IsSize (size : ℕ) : Type 0 where
  pub range : (64 ≤ size) × (size ≤ 32256)
  pub even : size % 2 ≡ 0

block_size_at-keeps : (size : ℕ) (value : Data) → block_size_at value ≡ Ok size → IsSize size
unfolding block_size_at
block_size_at-keeps size value is = grind (arith, common_steps, reads, holds, number_at-range, eqb-true)

-- A valid size of blocks, and what it requires of the rest of the table.
pub record SizeRules (pool : List ℕ) (inside : List PrefixModel) (table : Members) (size : ℕ) : Type 0 where
  pub is_size : IsSize size
  pub apart : are_prefixes_apart inside ≡ true
  pub room : have_room size inside (length pool) ≡ true
  pub no_pair : is_some (get_member (codes "pair") table) ≡ false

block_size-keeps : (pool : List ℕ) (inside : List PrefixModel) (hold : ℕ) (table : Members) (block : Option ℕ)
    (value : Data) → block_size pool inside hold table value ≡ Ok block → IfSome block (SizeRules pool inside table)
unfolding block_size
block_size-keeps pool inside hold table block value is =
    grind (arith, common_steps, reads, holds, is_some, block_size_at-keeps, not-true)

pub block_size_in-keeps : (pool : List ℕ) (inside : List PrefixModel) (hold : ℕ) (table : Members) (block : Option ℕ) →
    block_size_in pool inside hold table ≡ Ok block → IfSome block (SizeRules pool inside table)
unfolding block_size_in
block_size_in-keeps pool inside hold table block is = grind (arith, common_steps, optional_reads, block_size-keeps)

-- ---- pairs

record PairStep (pool : List ℕ) (inside : List PrefixModel) (now next : Pairs) : Type 0 where
  pub host : ℕ
  pub external : ℕ
  pub host_inside : prefixes_have inside host ≡ true
  pub external_in_pool : contains_address pool external ≡ true
  pub new : is_some (paired_with now host) ≡ false
  pub is : next ≡ insert_entry nat_cmp now host external

pair_step : (pool : List ℕ) (inside : List PrefixModel) (now next : Pairs) (entry : Data) →
    with_pair pool inside now entry
    ≡ Ok next → PairStep pool inside now next
unfolding with_pair
pair_step pool inside now next entry is = grind (arith, common_steps, reads, holds, is_some, not-true)

pub record PairsSoFar (pool : List ℕ) (inside : List PrefixModel) (pairs : Pairs) : Type 0 where
  pub ordered : IsStrictlySortedBy nat_cmp (keys_of pairs)
  pub hosts : All (λ host. prefixes_have inside host ≡ true) (keys_of pairs)
  pub externals : All (λ external. contains_address pool external ≡ true) (values_of pairs)

pairs_keep : (pool : List ℕ) (inside : List PrefixModel) (now next : Pairs) (entry : Data) →
    PairsSoFar pool inside now →
    with_pair pool inside now entry ≡ Ok next → PairsSoFar pool inside next
pairs_keep pool inside now next entry start is =
    let step = pair_step pool inside now next entry is in
    subst (PairsSoFar pool inside) (sym step.is) (record {
      ordered = sorted_inserted now step.host step.external start.ordered;
      hosts = All-keys-insert_entry nat_cmp step.host step.external (λ host. prefixes_have inside host
          ≡ true) now start.hosts step.host_inside;
      externals = All-values-insert_entry nat_cmp step.host step.external (λ external. contains_address pool external
          ≡ true) now start.externals step.external_in_pool;
    })

pairs_add : (pool : List ℕ) (inside : List PrefixModel) (now next : Pairs) (entry : Data) →
    with_pair pool inside now entry
    ≡ Ok next → length next ≡ length now + 1
pairs_add pool inside now next entry is =
    let step = pair_step pool inside now next entry is in
    ap length step.is ∙ one_more now step.host step.external step.new

no_pairs : (pool : List ℕ) (inside : List PrefixModel) → PairsSoFar pool inside []
unfolding IsStrictlySortedBy
no_pairs pool inside = record { ordered = tt; hosts = All-nil _; externals = All-nil _ }

pairs_at-keeps : (pool : List ℕ) (inside : List PrefixModel) (value : Data) (pairs : Pairs) →
    pairs_at each_in_order pool inside value ≡ Ok pairs → ArePairs pool inside pairs
unfolding pairs_at
pairs_at-keeps pool inside value pairs is =
    reads (list_up_to 256 value) _ pairs is λ entries counted more.
    let most = list_up_to-counts 256 value entries counted in
    let long = each_adds (with_pair pool inside) length (pairs_add pool inside) [] pairs entries more in
    let kept = each_keeps (with_pair pool inside) (PairsSoFar pool inside) (pairs_keep pool inside) [] pairs entries
    (no_pairs pool inside) more in
    record { few = omega (arith, most, long); ordered = kept.ordered; hosts = kept.hosts; externals = kept.externals }

none_are_pairs : (pool : List ℕ) (inside : List PrefixModel) → ArePairs pool inside []
none_are_pairs pool inside = let none = no_pairs pool inside in record {
  few = omega arith;
  ordered = none.ordered;
  hosts = none.hosts;
  externals = none.externals;
}

pub pairs_in-keeps : (pool : List ℕ) (inside : List PrefixModel) (table : Members) (pairs : Pairs) →
    pairs_in each_in_order pool inside table ≡ Ok pairs → ArePairs pool inside pairs
unfolding pairs_in
pairs_in-keeps pool inside table pairs is =
    optional_reads (ArePairs pool inside) (codes "pair") [] (pairs_at each_in_order pool inside) table pairs is
    (none_are_pairs pool inside) (λ value y read. pairs_at-keeps pool inside value y read)

unpaired : (pool : List ℕ) (inside : List PrefixModel) (table : Members) (pairs : Pairs) →
    is_some (get_member (codes "pair") table) ≡ false → pairs_in each_in_order pool inside table ≡ Ok pairs → pairs ≡ []
unfolding pairs_in
unpaired pool inside table pairs none is =
    optional-absent (codes "pair") [] (pairs_at each_in_order pool inside) table pairs none is

are_blocks : (pool : List ℕ) (inside : List PrefixModel) (table : Members) (block : Option ℕ) (pairs : Pairs) →
    IfSome block (SizeRules pool inside table) → pairs_in each_in_order pool inside table ≡ Ok pairs
    → IfSome block (AreBlocks inside pool pairs)
are_blocks pool inside table None pairs kept is = tt
are_blocks pool inside table (Some size) pairs kept is = record {
  low = kept.is_size.range.0;
  high = kept.is_size.range.1;
  even = kept.is_size.even;
  apart = kept.apart;
  room = kept.room;
  unpaired = unpaired pool inside table pairs kept.no_pair is;
}

without_pairs : (pool : List ℕ) (inside : List PrefixModel) (table : Members) (block : Option ℕ) →
    IfSome block (SizeRules pool inside table) → IfSome block (AreBlocks inside pool [])
without_pairs pool inside table None kept = tt
without_pairs pool inside table (Some size) kept = record {
  low = kept.is_size.range.0;
  high = kept.is_size.range.1;
  even = kept.is_size.even;
  apart = kept.apart;
  room = kept.room;
  unpaired = refl;
}

-- ---- the whole

-- The blocks that a table gives satisfy `IsPortBlock`.
pub blocks-keep : (table : Members) (pool : List ℕ) (inside : List PrefixModel) (hold : ℕ) (block : Option ℕ) →
    1 ≤ length pool → block_size_in pool inside hold table ≡ Ok block
    → (host : ℕ) → IfSome (block_in block inside (length pool) host) IsPortBlock
blocks-keep table pool inside hold block some is =
    block_in-is block inside pool [] some (without_pairs pool inside table block
    (block_size_in-keeps pool inside hold table block is))

-- The configuration of a table satisfies the rules.
pub configured-keeps : (table : Members) (rules : Rules) → configured table ≡ Ok rules → RulesInvariant rules
unfolding configured
configured-keeps table rules is =
    holds (knows_all_keys table) UnknownKey _ rules is λ _ rest.
    reads (pool_in each_in_order table) _ rules rest λ pool pool_is rest₁.
    reads (inside_in pool table) _ rules rest₁ λ inside inside_is rest₂.
    reads (filter_in table) _ rules rest₂ λ filter _ rest₃.
    reads (refresh_in table) _ rules rest₃ λ refresh _ rest₄.
    reads (choosing_in table) _ rules rest₄ λ choosing _ rest₅.
    reads (timers_in table) _ rules rest₅ λ timers timers_is rest₆.
    reads (ring_in table) _ rules rest₆ λ ring ring_is rest₇.
    reads (quota_in table) _ rules rest₇ λ quota quota_is rest₈.
    reads (block_size_in pool inside timers.hold table) _ rules rest₈ λ block block_is rest₉.
    reads (pairs_in each_in_order pool inside table) _ rules rest₉ λ pairs pairs_is rest₁₀.
    reads
    (redirects_in each_in_order inside (paired_address block inside pool pairs) (block_in block inside (length pool))
    table)
    _ rules rest₁₀ λ redirects redirects_are last.
    let made : Rules = record {
      pool = pool;
      inside = inside;
      filter = filter;
      refresh = refresh;
      choosing = choosing;
      timers = timers;
      ring = ring;
      quota = quota;
      block = block;
      pairs = pairs;
      redirects = redirects;
    } in
    let same : made ≡ rules = cc in
    let of_pool = pool_in-keeps table pool pool_is in
    let (of_inside, outside) = inside_in-keeps pool table inside inside_is in
    let of_ring = ring_in-keeps ring table ring_is in
    let of_blocks = are_blocks pool inside table block pairs
    (block_size_in-keeps pool inside timers.hold table block block_is) pairs_is in
    let of_redirects = redirects_in-keeps inside (paired_address block inside pool pairs)
    (block_in block inside (length pool))
    table redirects redirects_are in
    subst RulesInvariant same (record {
      pool = record {
        some = of_pool.some;
        few = of_pool.few;
        addresses = of_pool.kept.addresses;
        distinct =
            of_pool.kept.distinct;
        outside = outside;
      };
      inside = of_inside;
      timers = timers_in-keeps timers table timers_is;
      ring_low = of_ring.0;
      ring_high = of_ring.1;
      quota = quota_in-keeps quota table quota_is;
      block = of_blocks;
      blocks = block_in-is block inside pool pairs of_pool.some of_blocks;
      pairs = pairs_in-keeps pool inside table pairs pairs_is;
      redirects_few = of_redirects.few;
      redirects = of_redirects.kept.redirects;
      in_blocks = of_redirects.kept.in_blocks;
      single = of_redirects.kept.single;
    })

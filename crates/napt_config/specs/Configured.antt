-- What the table in a configuration's text configures: its rules, or the fault of the first rule of a configuration
-- that it breaks. Each function below reads from top to bottom, with one rule on each line.
use Rattle.std.specs.Prelude.{ℕ, ◌+◌, ◌%◌, ◌==◌, ◌++◌, ◌&&◌, Bool, true, false, not, ℤ, pos, negsuc, List, [], ◌∷◌, codes, length, bytes_eq, if◌then◌else◌, nat_lt, nat_le, Option, Some, None, ok_or, option_map, is_some, Result, Ok}
use Rattle.std.specs.{List.list_any, Option.option_map_or, Result.result_ok, Ordering.nat_cmp, BTreeMap.insert_entry, Str.is_utf8}
use Rattle.toml.specs.Data.{Data, Items, no_items, item, Members, no_members, member, get_member, as_str, as_integer, as_array, as_table}
use Rattle.toml.specs.Parse.{parse_document}
use Rattle.hex.specs.Hex.{decode_sized}
use Rattle.napt_config.specs.{Prefixes.{PrefixModel, TransportAddressModel, prefixes_have, are_prefixes_apart, private_networks}, Text.{address_of, prefix_of_text, transport_address_of_text}}
use Rattle.napt_config.specs.{Fault.{◌>>=◌, ◌>>◌, require_rule}, Rules.{Rules, contains_address, paired_with, paired_address, block_in, may_redirect, have_room, is_double}}
use Rattle.napt_config.specs.declared.settings.{Filter.{Filter, TheVariants.{Independent, Address, AddressPort}}, MappingRefresh.MappingRefresh}
use Rattle.napt_config.specs.declared.settings.{MappingRefresh.TheVariants.{Outbound, Both}, NumberAssignment.NumberAssignment, Seed.Seed, Timers.Timers, Redirect.Redirect}
use Rattle.napt_config.specs.declared.{settings.PortBlock.PortBlock, fault.ConfigFault.ConfigFault}
use Rattle.napt_config.specs.declared.fault.ConfigFault.TheVariants.{NotToml, UnknownKey, Missing, BadShape, TooMany, BadAddress, BadPrefix, BadNumber, BadWord, BadSeed, SeedUnused, DuplicateAddress, PoolInside, PrefixesOverlap, BlockTooLarge, PairWithBlock, HoldWithBlock, DuplicatePair, NotInPool, NotInside, RedirectInBlock, DuplicateRedirect, TimerTooShort}

-- ---- keys

-- Returns whether each key of the table is one of the names.
abbrev pub only_keys : List (List ℕ) → Members → Bool
only_keys names no_members = true
only_keys names (member key value rest) = list_any (λ name. bytes_eq name key) names && only_keys names rest

-- Returns whether each key of the table in a value is one of the names. A value of another type has no keys.
abbrev pub only_keys_in : List (List ℕ) → Data → Bool
only_keys_in names value = option_map_or (only_keys names) (as_table value) true

-- Returns whether each key of each table in a list is one of the names.
abbrev pub only_keys_in_each : List (List ℕ) → Items → Bool
only_keys_in_each names no_items = true
only_keys_in_each names (item entry rest) = only_keys_in names entry && only_keys_in_each names rest

abbrev pub top_keys : List (List ℕ)
top_keys = codes "pool" ∷ codes "inside" ∷ codes "filter" ∷ codes "refresh" ∷ codes "parity"
    ∷ codes "numbers" ∷ codes "seed" ∷ codes "timers" ∷ codes "hold" ∷ codes "ring" ∷ codes "quota" ∷ codes "block"
    ∷ codes "pair" ∷ codes "redirect" ∷ []

abbrev pub timer_keys : List (List ℕ)
timer_keys = codes "udp" ∷ codes "tcp-established" ∷ codes "tcp-transitory" ∷ codes "icmp" ∷ []

abbrev pub pair_keys : List (List ℕ)
pair_keys = codes "host" ∷ codes "external" ∷ []

abbrev pub redirect_keys : List (List ℕ)
redirect_keys = codes "protocol" ∷ codes "inside" ∷ codes "external" ∷ []

-- Returns whether each key of each table in the array in a value is one of the names. A value of another type has no
-- keys.
abbrev pub only_keys_in_list : List (List ℕ) → Data → Bool
only_keys_in_list names value = option_map_or (only_keys_in_each names) (as_array value) true

-- Returns whether `knows` is true of the value at a key. An absent key has only known keys.
abbrev pub knows_at : List ℕ → (Data → Bool) → Members → Bool
knows_at key knows table = option_map_or knows (get_member key table) true

-- Returns whether each key is known, including the keys in `timers` and in each entry of `pair` and `redirect`.
unfoldable pub knows_all_keys : Members → Bool
knows_all_keys table = ((only_keys top_keys table && knows_at (codes "timers") (only_keys_in timer_keys) table)
    && knows_at (codes "pair") (only_keys_in_list pair_keys) table)
    && knows_at (codes "redirect") (only_keys_in_list redirect_keys) table

-- ---- values

-- The number of entries in a list.
abbrev pub item_count : Items → ℕ
item_count no_items = 0
item_count (item entry rest) = 1 + item_count rest

-- The value at a key that must be present.
abbrev pub required : List ℕ → Members → Result Data ConfigFault
required key table = ok_or (get_member key table) Missing

-- What the value at a key reads as, or the default if the key is absent.
abbrev pub optional : {A : Type 0} → List ℕ → A → (Data → Result A ConfigFault) → Members → Result A ConfigFault
optional key default reading table = option_map_or reading (get_member key table) (Ok default)

abbrev pub text_in : Data → Result (List ℕ) ConfigFault
text_in value = ok_or (as_str value) BadShape

abbrev pub number_in : Data → Result ℤ ConfigFault
number_in value = ok_or (as_integer value) BadShape

abbrev pub list_in : Data → Result Items ConfigFault
list_in value = ok_or (as_array value) BadShape

abbrev pub table_in : Data → Result Members ConfigFault
table_in value = ok_or (as_table value) BadShape

-- The meaning of a word, given the words that are allowed with their meanings, or none for another word.
abbrev pub word_meaning : {A : Type 0} → List (List ℕ × A) → List ℕ → Option A
word_meaning [] word = None
word_meaning (known ∷ others) word = if bytes_eq word known.0 then Some known.1 else word_meaning others word

unfoldable pub word_at_key : {A : Type 0} → List (List ℕ × A) → Data → Result A ConfigFault
word_at_key words value = do
  word ← text_in value
  ok_or (word_meaning words word) BadWord

-- The number, if it is from `least` to `most`.
abbrev pub number_between : ℕ → ℕ → ℤ → Option ℕ
number_between least most (pos n) = if nat_le least n && nat_le n most then Some n else None
number_between least most (negsuc n) = None

unfoldable pub number_at_key : ℕ → ℕ → Data → Result ℕ ConfigFault
number_at_key least most value = do
  number ← number_in value
  ok_or (number_between least most number) BadNumber

-- A way to read the entries of a list, in which each entry adds to the result of those before it.
abbrev pub EntryReader : Type 0 → Type 0
EntryReader A = (A → Data → Result A ConfigFault) → A → Items → Result A ConfigFault

-- Reads all entries, in order.
abbrev pub each_in_order : {A : Type 0} → EntryReader A
each_in_order with_entry so_far no_items = Ok so_far
each_in_order with_entry so_far (item entry rest) = with_entry so_far entry >>= λ now. each_in_order with_entry now rest

-- Reads the first entry alone, if there is one: no memory is allocated before it is read.
abbrev pub first_in_order : {A : Type 0} → EntryReader A
first_in_order with_entry so_far no_items = Ok so_far
first_in_order with_entry so_far (item entry rest) = with_entry so_far entry

-- The list in a value, which may have at most `most` entries.
unfoldable pub list_up_to : ℕ → Data → Result Items ConfigFault
list_up_to most value = do
  entries ← list_in value
  require_rule (nat_le (item_count entries) most) TooMany
  Ok entries

-- The list at a required key, which must have 1 to 16 entries.
unfoldable pub short_list : List ℕ → Members → Result Items ConfigFault
short_list key table = do
  value ← required key table
  entries ← list_up_to 16 value
  require_rule (nat_lt 0 (item_count entries)) Missing
  Ok entries

-- ---- pool

unfoldable pub with_address : List ℕ → Data → Result (List ℕ) ConfigFault
with_address pool entry = do
  text ← text_in entry
  address ← ok_or (address_of text) BadAddress
  require_rule (not (contains_address pool address)) DuplicateAddress
  Ok (pool ++ address ∷ [])

unfoldable pub pool_in : EntryReader (List ℕ) → Members → Result (List ℕ) ConfigFault
pool_in walk table = do
  entries ← short_list (codes "pool") table
  walk with_address [] entries

-- ---- inside

unfoldable pub with_prefix : List PrefixModel → Data → Result (List PrefixModel) ConfigFault
with_prefix inside entry = do
  text ← text_in entry
  network ← ok_or (prefix_of_text text) BadPrefix
  Ok (inside ++ network ∷ [])

unfoldable pub prefixes_in : EntryReader (List PrefixModel) → Members → Result (List PrefixModel) ConfigFault
prefixes_in walk table = do
  entries ← short_list (codes "inside") table
  walk with_prefix [] entries

unfoldable pub inside_in : List ℕ → Members → Result (List PrefixModel) ConfigFault
inside_in pool table = do
  inside ← prefixes_in each_in_order table
  require_rule (not (list_any (prefixes_have inside) pool)) PoolInside
  Ok inside

-- ---- filter, refresh, parity, numbers

unfoldable pub filter_in : Members → Result Filter ConfigFault
filter_in table = optional (codes "filter") Independent (word_at_key ((codes "independent", Independent)
    ∷ (codes "address", Address) ∷ (codes "address-port", AddressPort) ∷ [])) table

unfoldable pub refresh_in : Members → Result MappingRefresh ConfigFault
refresh_in table =
    optional (codes "refresh") Outbound (word_at_key ((codes "outbound", Outbound) ∷ (codes "both", Both) ∷ [])) table

unfoldable pub keeps_parity_in : Members → Result Bool ConfigFault
keeps_parity_in table =
    optional (codes "parity") true (word_at_key ((codes "kept", true) ∷ (codes "free", false) ∷ [])) table

unfoldable pub is_random_in : Members → Result Bool ConfigFault
is_random_in table =
    optional (codes "numbers") false (word_at_key ((codes "random", true) ∷ (codes "preserved", false) ∷ [])) table

-- ---- seed

-- The seed of 16 bytes that 32 hexadecimal digits spell, or none for another text.
abbrev pub seed_of : List ℕ → Option Seed
seed_of text = option_map (λ bytes. record { bytes = bytes }) (result_ok (decode_sized text 16))

unfoldable pub seed_at : Data → Result (Option Seed) ConfigFault
seed_at value = do
  text ← text_in value
  seed ← ok_or (seed_of text) BadSeed
  Ok (Some seed)

-- The seed, which random numbers require and other numbers must not have.
unfoldable pub seed_in : Bool → Members → Result (Option Seed) ConfigFault
seed_in true table = do
  value ← required (codes "seed") table
  seed_at value
seed_in false table = do
  require_rule (not (is_some (get_member (codes "seed") table))) SeedUnused
  Ok None

unfoldable pub choosing_in : Members → Result NumberAssignment ConfigFault
choosing_in table = do
  keeps_parity ← keeps_parity_in table
  is_random ← is_random_in table
  seed ← seed_in is_random table
  Ok (record { keeps_parity = keeps_parity; seed = seed })

-- ---- timers

unfoldable pub timer_at : ℕ → Data → Result ℕ ConfigFault
timer_at least value = do
  seconds ← number_at_key 0 1_000_000_000 value
  require_rule (nat_le least seconds) TimerTooShort
  Ok seconds

unfoldable pub timers_at : Data → Result Timers ConfigFault
timers_at value = do
  keys ← table_in value
  udp ← optional (codes "udp") 300 (timer_at 120) keys
  established ← optional (codes "tcp-established") 7440 (timer_at 7440) keys
  transitory ← optional (codes "tcp-transitory") 240 (timer_at 240) keys
  icmp ← optional (codes "icmp") 60 (timer_at 60) keys
  Ok (record { udp = udp; established = established; transitory = transitory; icmp = icmp; hold = 0 })

-- The timers of a configuration that sets none, in seconds.
abbrev pub default_timers : Timers
default_timers = record { udp = 300; established = 7440; transitory = 240; icmp = 60; hold = 0 }

unfoldable pub idle_timers_in : Members → Result Timers ConfigFault
idle_timers_in table = optional (codes "timers") default_timers timers_at table

-- The idle timers and the hold, which is not a key of `timers`.
unfoldable pub timers_in : Members → Result Timers ConfigFault
timers_in table = do
  timers ← idle_timers_in table
  hold ← optional (codes "hold") 0 (timer_at 0) table
  Ok (record timers { hold = hold })

-- ---- ring

unfoldable pub ring_in : Members → Result ℕ ConfigFault
ring_in table = optional (codes "ring") 64 (number_at_key 1 4096) table

-- ---- quota

unfoldable pub quota_at : Data → Result (Option ℕ) ConfigFault
quota_at value = do
  bindings ← number_at_key 1 65535 value
  Ok (Some bindings)

unfoldable pub quota_in : Members → Result (Option ℕ) ConfigFault
quota_in table = optional (codes "quota") None quota_at table

-- ---- block

-- The number of external numbers in a block, which must be even.
unfoldable pub block_size_at : Data → Result ℕ ConfigFault
block_size_at value = do
  size ← number_at_key 64 32256 value
  require_rule (size % 2 == 0) BadNumber
  Ok size

unfoldable pub block_size : List ℕ → List PrefixModel → ℕ → Members → Data → Result (Option ℕ) ConfigFault
block_size pool inside hold table value = do
  size ← block_size_at value
  require_rule (are_prefixes_apart inside) PrefixesOverlap
  require_rule (have_room size inside (length pool)) BlockTooLarge
  require_rule (not (is_some (get_member (codes "pair") table))) PairWithBlock
  require_rule (hold == 0) HoldWithBlock
  Ok (Some size)

unfoldable pub block_size_in : List ℕ → List PrefixModel → ℕ → Members → Result (Option ℕ) ConfigFault
block_size_in pool inside hold table = optional (codes "block") None (block_size pool inside hold table) table

-- ---- pair

-- The address at a required key.
unfoldable pub address_in : List ℕ → Members → Result ℕ ConfigFault
address_in key table = do
  value ← required key table
  text ← text_in value
  ok_or (address_of text) BadAddress

unfoldable pub with_pair : List ℕ → List PrefixModel → List (ℕ × ℕ) → Data → Result (List (ℕ × ℕ)) ConfigFault
with_pair pool inside pairs entry = do
  keys ← table_in entry
  host ← address_in (codes "host") keys
  require_rule (prefixes_have inside host) NotInside
  external ← address_in (codes "external") keys
  require_rule (contains_address pool external) NotInPool
  require_rule (not (is_some (paired_with pairs host))) DuplicatePair
  Ok (insert_entry nat_cmp pairs host external)

unfoldable pub pairs_at : EntryReader (List (ℕ × ℕ)) → List ℕ → List PrefixModel → Data →
    Result (List (ℕ × ℕ)) ConfigFault
pairs_at walk pool inside value = do
  entries ← list_up_to 256 value
  walk (with_pair pool inside) [] entries

unfoldable pub pairs_in : EntryReader (List (ℕ × ℕ)) → List ℕ → List PrefixModel → Members →
    Result (List (ℕ × ℕ)) ConfigFault
pairs_in walk pool inside table = optional (codes "pair") [] (pairs_at walk pool inside) table

-- ---- redirect

-- Returns whether the protocol of an entry is TCP; otherwise it is UDP.
unfoldable pub is_tcp_in : Members → Result Bool ConfigFault
is_tcp_in keys = do
  value ← required (codes "protocol") keys
  word_at_key ((codes "tcp", true) ∷ (codes "udp", false) ∷ []) value

-- The transport address at a required key.
unfoldable pub transport_address_in : List ℕ → Members → Result TransportAddressModel ConfigFault
transport_address_in key keys = do
  value ← required key keys
  text ← text_in value
  ok_or (transport_address_of_text text) BadAddress

-- The port at a required key, which must not be 0.
unfoldable pub port_in : List ℕ → Members → Result ℕ ConfigFault
port_in key keys = do
  value ← required key keys
  number_at_key 1 65535 value

unfoldable pub redirect_in : List PrefixModel → (ℕ → Option PortBlock) → Data → Result Redirect ConfigFault
redirect_in inside block entry = do
  keys ← table_in entry
  tcp ← is_tcp_in keys
  host ← transport_address_in (codes "inside") keys
  require_rule (prefixes_have inside host.address) NotInside
  external ← port_in (codes "external") keys
  require_rule (may_redirect (block host.address) external) RedirectInBlock
  Ok (record { tcp = tcp; address = host.address; port = host.port; external = external })

-- Returns whether the later redirect is a double of one of the earlier ones.
unfoldable pub have_double_redirect : (ℕ → ℕ) → List Redirect → Redirect → Bool
have_double_redirect pair earlier later = list_any (λ redirect. is_double pair redirect later) earlier

unfoldable pub with_redirect : List PrefixModel → (ℕ → ℕ) → (ℕ → Option PortBlock) → List Redirect → Data
    → Result (List Redirect) ConfigFault
with_redirect inside pair block redirects entry = do
  redirect ← redirect_in inside block entry
  require_rule (not (have_double_redirect pair redirects redirect)) DuplicateRedirect
  Ok (redirects ++ redirect ∷ [])

unfoldable pub redirects_at : EntryReader (List Redirect) → List PrefixModel → (ℕ → ℕ) → (ℕ → Option PortBlock) → Data
    → Result (List Redirect) ConfigFault
redirects_at walk inside pair block value = do
  entries ← list_up_to 256 value
  walk (with_redirect inside pair block) [] entries

-- The redirects, where `pair` gives the external address of a host and `block` gives its block.
unfoldable pub redirects_in : EntryReader (List Redirect) → List PrefixModel → (ℕ → ℕ) → (ℕ → Option PortBlock) →
    Members
    → Result (List Redirect) ConfigFault
redirects_in walk inside pair block table = optional (codes "redirect") [] (redirects_at walk inside pair block) table

-- ---- the whole

-- What a table configures.
unfoldable pub configured : Members → Result Rules ConfigFault
configured table = do
  require_rule (knows_all_keys table) UnknownKey
  pool ← pool_in each_in_order table
  inside ← inside_in pool table
  filter ← filter_in table
  refresh ← refresh_in table
  choosing ← choosing_in table
  timers ← timers_in table
  ring ← ring_in table
  quota ← quota_in table
  block ← block_size_in pool inside timers.hold table
  pairs ← pairs_in each_in_order pool inside table
  redirects ← redirects_in each_in_order inside (paired_address block inside pool pairs)
      (block_in block inside (length pool))
      table
  Ok (record {
    pool = pool;
    inside = inside;
    filter = filter;
    refresh = refresh;
    choosing = choosing;
    timers = timers;
    ring = ring;
    quota = quota;
    block = block;
    pairs = pairs;
    redirects = redirects;
  })

-- What is read of a table before any memory is allocated.
unfoldable pub read_first : Members → Result (List ℕ) ConfigFault
read_first table = do
  require_rule (knows_all_keys table) UnknownKey
  pool_in first_in_order table

-- The table in a text, or none if the text is not TOML in UTF-8.
unfoldable pub document_of : List ℕ → Option Members
document_of text = if is_utf8 text then parse_document text else None

-- What a text configures.
unfoldable pub configuration_of : List ℕ → Result Rules ConfigFault
configuration_of text = do
  table ← ok_or (document_of text) NotToml
  configured table

-- ---- the configuration without a text

-- The pool is 203.0.113.1, the private networks are inside, and everything else has its default.
abbrev pub built_in : Rules
built_in = record {
  pool = 0xCB007101 ∷ [];
  inside = private_networks;
  filter = Independent;
  refresh = Outbound;
  choosing = record { keeps_parity = true; seed = None };
  timers = default_timers;
  ring = 64;
  quota = None;
  block = None;
  pairs = [];
  redirects = [];
}

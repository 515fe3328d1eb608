-- The bindings that a table returns for a saved state are alike to those of its list.
use Rattle.std.proofs.Common.{◌≡◌, ℕ, ◌≤◌, Bool, true, false, ◌||◌, cond, All, List, [], ◌∷◌, map, filter, find, Option, Some, refl, sym, ◌∙◌, ap, subst, arith}
use Rattle.std.{specs.{List.IsDistinct, List.Sorted.{IsPermutation, IsNonDecreasingBy}, Map.{lookup, keys_of, values_of}, Option.option_map}}
use Rattle.std.proofs.lemmas.{Map.{lookup-none, Entries.{none_past_head}, Keys.IsDistinct-tail}, List.Elements.{All-head, All-tail, All-filter}}
use Rattle.napt_wire.specs.declared.{Endpoint.Endpoint, Protocol.Protocol}
use Rattle.napt_config.specs.declared.settings.Timers.{Timers}
use Rattle.napt_rules.specs.declared.{Flow.Flow, Row.Row}
use Rattle.napt_rules.specs.Prelude.{Binding, Each, has_number, is_tcp, is_live_flow, live_flows, is_live, with_live_flows, purge, hold_ago, live_and_held, row, rank, IsPaired, flows_share, AreFlowsOwn, AreAlike, AreBindingsLeft}
use Rattle.napt_binding.specs.Slots.{AreDistinct, NoneUsedAfter}
use Rattle.napt_table.specs.{declared.bindings.keys.ExternalNumberKey.ExternalNumberKey, HeldLists.seen_binding, Keys.{key_eq, external_key}}
use Rattle.napt_table.specs.{BindingIndexes.{held_at, IsNamed, IsUsedBy, AreUsedUpTo}, TableModels.{list_of, KeepsItsList}, declared.table.Table.TheInside.Inside}
use Rattle.napt_table.proofs.{AlikeLists.{AllOnce, At, once_less, once_mapped, find_mapped, same_found}, ListedRows.each_entry, SeenBindings.{find_seen}}
use Rattle.napt_table.proofs.{TableSteps.{show_now}, Keys.{key_is, key_differs, key_equiv}}
use Rattle.napt_laws.proofs.{Endpoints.{once_number, has_it, has_protocol, number_of_it}, UniqueSearches.{Once, none_passes}, Lists.each_weaker, SeenElements.ago_later}
use Rattle.napt_laws.proofs.{AlikeLists.{alike_moved, alike_then, alike_taken}, Permutations.each_moved, FreshBindings.{IsFresh, fresh_purged, purge_fresh}, Purges.each_purged}

-- STORED BINDINGS, one entry after another

module _ (address : ℕ) where
  -- The binding of an entry is at the address, with the protocol and number of its key.
  abbrev IsEntry : ExternalNumberKey × Binding → Type 0
  IsEntry e = (e.1.row.protocol ≡ e.0.protocol) × (e.1.row.external ≡ record { address = address; number = e.0.number })

  module _ (q : Protocol) (n : ℕ) where
    abbrev key : ExternalNumberKey
    key = external_key q n

    abbrev test : Binding → Bool
    test b = has_number address q n b.row

    test_is : (e : ExternalNumberKey × Binding) → IsEntry e → test e.1 ≡ key_eq key e.0
    test_is e is = elim (key_eq key e.0) as (λ v. key_eq key e.0 ≡ v → test e.1 ≡ v) [
      | true ↦ λ t.
          let k : key ≡ e.0 = key_is key e.0 t in
          has_it address q n e.1.row (ap (λ (x : ExternalNumberKey). x.protocol) k ∙ sym is.0)
          (ap (λ (x : Endpoint). x.address) is.1)
          (ap (λ (x : Endpoint). x.number) is.1 ∙ sym (ap (λ (x : ExternalNumberKey). x.number) k))
      | false ↦ λ t. elim (test e.1) as (λ v. test e.1 ≡ v → v ≡ false) [
        | true ↦ λ h.
            let p : q ≡ e.0.protocol = has_protocol address q n e.1.row h ∙ is.0 in
            let m : n ≡ e.0.number =
            sym (number_of_it address q n e.1.row h) ∙ ap (λ (x : Endpoint). x.number) is.1 in
            let k : key ≡ e.0 = λ i. record { number = m i; protocol = p i } in
            absurd (key_differs key e.0 t k)
        | false ↦ λ h. refl
      ] refl
    ] refl

    find_values : (es : List (ExternalNumberKey × Binding)) → Each IsEntry es → find test (values_of es)
        ≡ lookup (key_eq key) es
    find_values [] each = refl
    find_values (e ∷ es) each =
        (λ i. cond (test_is e each.0 i) (Some e.1) (find_values es each.1 i))

    once_values : (es : List (ExternalNumberKey × Binding)) → Each IsEntry es → IsDistinct key_eq (keys_of es) →
        Once test (values_of es)
    once_values [] each distinct = tt
    once_values (e ∷ es) each distinct = (
      λ h. none_passes test (values_of es) (find_values es each.1 ∙ lookup-none (key_eq key) es
          (none_past_head key_equiv key e es distinct (sym (test_is e each.0) ∙ h))),
      once_values es each.1 (IsDistinct-tail key_eq e.0 (keys_of es) distinct),
    )

each_value : (P : Binding → Type 0) (es : List (ExternalNumberKey × Binding)) → Each (λ e. P e.1) es →
    Each P (values_of es)
each_value P [] h = tt
each_value P (e ∷ es) h = (h.0, each_value P es h.1)

each_mapped : {X Y : Type 0} (P : Y → Type 0) (f : X → Y) (xs : List X) → Each (λ x. P (f x)) xs → Each P (map f xs)
each_mapped P f [] h = tt
each_mapped P f (x ∷ xs) h = (h.0, each_mapped P f xs h.1)

each_under : {X Y : Type 0} (P : Y → Type 0) (f : X → Y) (xs : List X) → Each P (map f xs) → Each (λ x. P (f x)) xs
each_under P f [] h = tt
each_under P f (x ∷ xs) h = (h.0, each_under P f xs h.1)

each_of_all : {X : Type 0} (P : X → Type 0) (xs : List X) → All P xs → Each P xs
each_of_all P [] h = tt
each_of_all P (x ∷ xs) h = (All-head P x xs h, each_of_all P xs (All-tail P x xs h))

single_flows : (flows : List Flow) → AreDistinct flows → flows_share flows ≡ false
single_flows [] h = refl
single_flows (flow ∷ flows) h = ap (λ v. v || flows_share flows) h.0 ∙ single_flows flows h.1

each_both : {X : Type 0} (P Q R : X → Type 0) → ((x : X) → P x → Q x → R x) → (xs : List X) → Each P xs → Each Q xs →
    Each R xs
each_both P Q R f [] h g = tt
each_both P Q R f (x ∷ xs) h g = (f x h.0 g.0, each_both P Q R f xs h.1 g.1)

used_kept : (timers : Timers) (t at : ℕ) (protocol : Protocol) (flows : List Flow) → NoneUsedAfter flows at →
    NoneUsedAfter (live_flows timers t protocol flows) at
used_kept timers t at protocol flows h = elim (is_tcp protocol) as (λ v.
    NoneUsedAfter (cond v (filter (is_live_flow timers t) flows) flows) at)
    [ true ↦ All-filter (is_live_flow timers t) (λ (x : Flow). x.last ≤ at) flows h | false ↦ h ]

own_flows : (at now : ℕ) → at ≤ now → (b : Binding) → IsUsedBy at b → AreDistinct b.flows → AreFlowsOwn now b.flows
own_flows at now le b used distinct = record {
  by = each_weaker (λ f. f.last ≤ at) (λ f. f.last ≤ now) (λ f before. omega (arith, le, before)) b.flows
      (each_of_all (λ (f : Flow). f.last ≤ at) b.flows used.0);
  single = single_flows b.flows distinct;
}

-- A PURGE

module _ (timers : Timers) (t address : ℕ) (list : List Binding) (once : AllOnce address row list)
    (at : Each (At address row) list) where
  purge_once : AllOnce address row (purge timers t list)
  purge_once q n = once_mapped (λ b. has_number address q n b.row) (with_live_flows timers t)
      (filter (is_live timers t) list)
      (once_less (λ b. has_number address q n b.row) (is_live timers t) list (once q n))

  purge_at : Each (At address row) (purge timers t list)
  purge_at = each_purged (At address row) timers t (λ b is. is) list at

  rows_once : AllOnce {X = Row} address (λ r. r) (map row (purge timers t list))
  rows_once q n = once_mapped (has_number address q n) row (purge timers t list) (purge_once q n)

  rows_at : Each (At {X = Row} address (λ r. r)) (map row (purge timers t list))
  rows_at = each_mapped (At {X = Row} address (λ r. r)) row (purge timers t list) purge_at

  rows_found : (q : Protocol) (n : ℕ) → find (has_number address q n) (map row (purge timers t list))
      ≡ option_map row (seen_binding timers t (find (λ b. has_number address q n b.row) list))
  rows_found q n = find_mapped (has_number address q n) row (purge timers t list)
      ∙ ap (option_map row) (find_seen timers t address q n list (once q n))

-- THE TABLE

module _ (table : Inside) (is : KeepsItsList table) (now : ℕ) (later : table.bindings.at ≤ now)
    (named : IsNamed table.bindings.held) (unique : IsDistinct key_eq (keys_of table.bindings.held.entries)) where
  abbrev timers : Timers
  timers = table.bindings.timers

  abbrev address : ℕ
  address = table.bindings.held.address

  abbrev values : List Binding
  values = values_of table.bindings.held.entries

  entries : Each (IsEntry address) table.bindings.held.entries
  entries = each_entry (IsEntry address) table.bindings.held.entries unique (λ k b h.
      (named.protocol_is k b h, named.external_is k b h))

  values_once : AllOnce address row values
  values_once q n = once_values address q n table.bindings.held.entries entries unique

  values_at : Each (At address row) values
  values_at = each_value (At address row) table.bindings.held.entries
      (each_weaker (IsEntry address) (λ e. At address row e.1) (λ e its. ap (λ (x : Endpoint). x.address) its.1)
      table.bindings.held.entries entries)

  list_once : AllOnce address row (list_of table)
  list_once q n = once_number address q n (list_of table) is.state.sound.apart

  list_at : Each (At address row) (list_of table)
  list_at = each_under (λ (r : Row). r.external.address ≡ address) row (list_of table)
      (each_weaker (IsPaired (λ host. address)) (λ (r : Row). r.external.address ≡ address) (λ r its. its.paired)
      (map row (list_of table)) is.state.sound.each)

  held_found : (q : Protocol) (n : ℕ) → find (λ b. has_number address q n b.row) values
      ≡ held_at table.bindings.held q n
  held_found q n = find_values address q n table.bindings.held.entries entries

  held_alike : AreAlike timers now (list_of table) values
  held_alike = record {
    live = same_found address row (purge timers now (list_of table)) (purge timers now values)
        (purge_once timers now address (list_of table) list_once list_at)
        (purge_once timers now address values values_once values_at)
        (purge_at timers now address (list_of table) list_once list_at)
        (purge_at timers now address values values_once values_at)
        (λ q n. show_now table is now later q n ∙ sym (find_seen timers now address q n values (values_once q n)
        ∙ ap (seen_binding timers now) (held_found q n)));
    held = λ t from.
        let soon = ago_later timers table.bindings.at now later in
        same_found {X = Row} address (λ r. r) (map row (purge timers t (list_of table)))
        (map row (purge timers t values))
        (rows_once timers t address (list_of table) list_once list_at)
        (rows_once timers t address values values_once values_at)
        (rows_at timers t address (list_of table) list_once list_at)
        (rows_at timers t address values values_once values_at)
        (λ q n. rows_found timers t address (list_of table) list_once list_at q n
        ∙ (is.keeps.held q n t (omega (arith, soon, from))
        ∙ sym (rows_found timers t address values values_once values_at q n
        ∙ ap (λ (o : Option Binding). option_map row (seen_binding timers t o)) (held_found q n))));
  }

  module _ (used : AreUsedUpTo table.bindings.at table.bindings.held) (made sorted : List Binding)
      (made_is : made ≡ live_and_held timers now values) (distinct : All (λ b. AreDistinct b.flows) made)
      (moved : IsPermutation made sorted) (order : IsNonDecreasingBy (λ b. rank b.row) sorted) where
    values_used : Each (IsUsedBy table.bindings.at) values
    values_used = each_value (IsUsedBy table.bindings.at) table.bindings.held.entries
        (each_entry (λ e. IsUsedBy table.bindings.at e.1) table.bindings.held.entries unique used)

    sorted_used : Each (IsUsedBy table.bindings.at) sorted
    sorted_used = each_moved (IsUsedBy table.bindings.at) made sorted moved
        (subst (Each (IsUsedBy table.bindings.at)) (sym made_is)
        (each_purged (IsUsedBy table.bindings.at) timers (hold_ago timers now) (λ b its. (
          used_kept timers (hold_ago timers now) table.bindings.at b.row.protocol b.flows its.0,
          its.1,
        )) values values_used))

    pub left_is : AreBindingsLeft timers now (live_and_held timers now (list_of table)) sorted
    left_is = record {
      alike = alike_then timers now (live_and_held timers now (list_of table)) made sorted
          (subst (AreAlike timers now (live_and_held timers now (list_of table))) (sym made_is)
          (alike_taken timers now (list_of table) values held_alike))
          (alike_moved timers now made sorted moved);
      taken = purge_fresh timers (hold_ago timers now) sorted
          (each_moved (IsFresh timers (hold_ago timers now)) made sorted moved
          (subst (Each (IsFresh timers (hold_ago timers now))) (sym made_is)
          (fresh_purged timers (hold_ago timers now) values)));
      last = each_weaker (IsUsedBy table.bindings.at) (λ b. b.last ≤ now)
          (λ b its. let last : b.last ≤ table.bindings.at = its.1 in omega arith) sorted sorted_used;
      flows = each_both (IsUsedBy table.bindings.at) (λ b. AreDistinct b.flows) (λ b. AreFlowsOwn now b.flows)
          (own_flows table.bindings.at now later) sorted sorted_used
          (each_moved (λ b. AreDistinct b.flows) made sorted moved
          (each_of_all (λ (b : Binding). AreDistinct b.flows) made distinct));
      order = order;
    }

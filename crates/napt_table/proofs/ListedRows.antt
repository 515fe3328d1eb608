-- The sorted rows of the stored bindings are the rows of the list.
use Rattle.std.proofs.Common.{◌≡◌, ℕ, ◌+◌, ◌-◌, ◌*◌, ◌<◌, ◌≤◌, Bool, true, false, not, ◌&&◌, cond, All, List, [], ◌∷◌, map, filter, Option, Some, None, refl, sym, ◌∙◌, ap, arith, eqb, eqb-true}
use Rattle.std.specs.{Prelude.{find, nat_lt}, List.IsDistinct, Map.{lookup, keys_of, values_of}, Option.option_map}
use Rattle.std.proofs.lemmas.{Bool.{and_from, and_parts, eq-eqb, Decides.nat_tests}, Map.{lookup-none, Entries.{lookup_head, lookup_tail, none_past_head}}}
use Rattle.std.proofs.lemmas.{Map.Keys.IsDistinct-tail, List.Elements.{filter_agree, All-head, All-tail}}
use Rattle.napt_wire.specs.declared.{Endpoint.Endpoint, Protocol.{Protocol, TheVariants.{Icmp, Tcp, Udp}}}
use Rattle.napt_config.specs.declared.settings.Timers.{Timers}
use Rattle.napt_rules.specs.Prelude.{Binding, Each, same_protocol, has_number, is_live, with_live_flows, row, protocol_rank, rank, sorted_rows, rows, IsPaired}
use Rattle.napt_rules.specs.declared.Row.{Row}
use Rattle.napt_table.specs.{declared.bindings.keys.ExternalNumberKey.ExternalNumberKey, HeldLists.seen_binding, Keys.{key_eq, external_key}, HeldRows.{held_rows, HasPortNumber, AreListable}}
use Rattle.napt_table.specs.{BindingIndexes.{held_at, IsNamed}, TableModels.{list_of, KeepsItsList}, declared.table.Table.TheInside.Inside}
use Rattle.napt_table.proofs.{TableSteps.{live, live_sound, show_now}, Keys.{key_is, key_itself, key_differs, key_equiv}}
use Rattle.napt_laws.proofs.{Endpoints.{once_number, protocol_is, same_itself}, UniqueSearches.Once, Lists.find_nowhere}
use Rattle.napt_laws.proofs.Orders.{same_rank, same_rank_is, in_order_alike}

-- FILTERS

module _ {X : Type 0} where
  -- An optional element as a list of one element or none.
  abbrev pub few : Option X → List X
  few None = []
  few (Some x) = x ∷ []

  -- Where no element is big, tests that agree on the others pass the same elements.
  filter_small : (big s t : X → Bool) → ((x : X) → big x ≡ false → s x ≡ t x) → (xs : List X) → filter big xs ≡ [] →
      filter s xs ≡ filter t xs
  filter_small big s t agree [] none = refl
  filter_small big s t agree (x ∷ xs) none =
      elim (big x) as (λ v. big x ≡ v → cond v (x ∷ filter big xs) (filter big xs) ≡ [] → filter s (x ∷ xs)
      ≡ filter t (x ∷ xs)) [
        | true ↦ λ e h. cc
        | false ↦ λ e h.
            ap (λ v. cond v (x ∷ filter s xs) (filter s xs)) (agree x e)
            ∙ ap (λ (l : List X). cond (t x) (x ∷ l) l) (filter_small big s t agree xs h)
      ] refl none

  filter_swap : (s t : X → Bool) (xs : List X) → filter s (filter t xs) ≡ filter t (filter s xs)
  filter_swap s t [] = refl
  filter_swap s t (x ∷ xs) = elim (s x) as (λ v. s x ≡ v → filter s (cond (t x) (x ∷ filter t xs) (filter t xs))
      ≡ filter t (cond v (x ∷ filter s xs) (filter s xs))) [
        | true ↦ λ e. elim (t x) as (λ w. t x ≡ w → filter s (cond w (x ∷ filter t xs) (filter t xs))
            ≡ cond w (x ∷ filter t (filter s xs)) (filter t (filter s xs))) [
              | true ↦ λ f. ap (λ v. cond v (x ∷ filter s (filter t xs)) (filter s (filter t xs))) e
                  ∙ ap (λ (l : List X). x ∷ l) (filter_swap s t xs)
              | false ↦ λ f. filter_swap s t xs
            ] refl
        | false ↦ λ e. elim (t x) as (λ w. filter s (cond w (x ∷ filter t xs) (filter t xs)) ≡ filter t (filter s xs)) [
          | true ↦ ap (λ v. cond v (x ∷ filter s (filter t xs)) (filter s (filter t xs))) e ∙ filter_swap s t xs
          | false ↦ filter_swap s t xs
        ]
      ] refl

-- ROWS WITH ONE EXTERNAL NUMBER

abbrev pub is_row : Protocol → ℕ → Row → Bool
is_row protocol number row = same_protocol protocol row.protocol && eqb row.external.number number

is_row_itself : (r : Row) → is_row r.protocol r.external.number r ≡ true
is_row_itself r =
    ap (λ v. v && eqb r.external.number r.external.number) (same_itself r.protocol)
    ∙ eq-eqb r.external.number r.external.number refl

-- The external number does not fit in 16 bits.
abbrev is_big : Row → Bool
is_big r = not (nat_lt r.external.number 65536)

none_big : (rows : List Row) → All HasPortNumber rows → filter is_big rows ≡ []
none_big [] small = refl
none_big (r ∷ rows) small =
    let first : r.external.number < 65536 = All-head HasPortNumber r rows small in
    let fits : is_big r ≡ false = grind (arith, nat_tests) in
    ap (λ v. cond v (r ∷ filter is_big rows) (filter is_big rows)) fits
    ∙ none_big rows (All-tail HasPortNumber r rows small)

-- The ranks of ICMP are its numbers, those of TCP and UDP are above them; a larger number has no such rank.
rank_icmp : (n m : ℕ) (q : Protocol) → n < 65536 → not (nat_lt m 65536) ≡ false → eqb n (protocol_rank q * 65536 + m)
    ≡ (same_protocol Icmp q && eqb m n)
rank_icmp n m Icmp lt small = grind (arith, nat_tests)
rank_icmp n m Tcp lt small = grind (arith, nat_tests)
rank_icmp n m Udp lt small = grind (arith, nat_tests)

rank_tcp : (n m : ℕ) (q : Protocol) → n < 65536 → not (nat_lt m 65536) ≡ false →
    eqb (65536 + n) (protocol_rank q * 65536 + m) ≡ (same_protocol Tcp q && eqb m n)
rank_tcp n m Icmp lt small = grind (arith, nat_tests)
rank_tcp n m Tcp lt small = grind (arith, nat_tests)
rank_tcp n m Udp lt small = grind (arith, nat_tests)

rank_udp : (n m : ℕ) (q : Protocol) → n < 65536 → not (nat_lt m 65536) ≡ false →
    eqb (131072 + n) (protocol_rank q * 65536 + m) ≡ (same_protocol Udp q && eqb m n)
rank_udp n m Icmp lt small = grind (arith, nat_tests)
rank_udp n m Tcp lt small = grind (arith, nat_tests)
rank_udp n m Udp lt small = grind (arith, nat_tests)

rank_beyond : (n m : ℕ) (q : Protocol) → 196608 ≤ n → not (nat_lt m 65536) ≡ false → eqb n (protocol_rank q * 65536 + m)
    ≡ (same_protocol Icmp q && eqb m n)
rank_beyond n m Icmp le small = grind (arith, nat_tests)
rank_beyond n m Tcp le small = grind (arith, nat_tests)
rank_beyond n m Udp le small = grind (arith, nat_tests)

module _ (xs ys : List Row) (alike : (p : Protocol) (n : ℕ) → filter (is_row p n) xs ≡ filter (is_row p n) ys) where
  -- If `ys` has no big row then `xs` has none, as both have the same rows at each number.
  none_big_alike : filter is_big ys ≡ [] → filter is_big xs ≡ []
  none_big_alike none = elim (filter is_big xs) as (λ l. filter is_big xs ≡ l → l ≡ []) [
    | [] ↦ λ e. refl
    | r ∷ rest ↦ λ e.
        let t : Row → Bool = is_row r.protocol r.external.number in
        let empty : filter t (filter is_big xs) ≡ [] =
        filter_swap t is_big xs ∙ (ap (filter is_big) (alike r.protocol r.external.number)
        ∙ (filter_swap is_big t ys ∙ ap (filter t) none)) in
        let first : filter t (filter is_big xs) ≡ r ∷ filter t rest =
        ap (filter t) e ∙ ap (λ v. cond v (r ∷ filter t rest) (filter t rest)) (is_row_itself r) in
        cc
  ] refl

  -- They have the same rows at each rank, where no number is big.
  module _ (none : filter is_big ys ≡ []) where
    at_rank : (test : Row → Bool) (p : Protocol) (n : ℕ) → ((r : Row) → is_big r ≡ false → test r ≡ is_row p n r) →
        filter test xs ≡ filter test ys
    at_rank test p n agree =
        filter_small is_big test (is_row p n) agree xs (none_big_alike none)
        ∙ (alike p n ∙ sym (filter_small is_big test (is_row p n) agree ys none))

    rank_alike : (n : ℕ) → filter (λ r. eqb n (rank r)) xs ≡ filter (λ r. eqb n (rank r)) ys
    rank_alike n = elim (nat_lt n 65536) as (λ v. nat_lt n 65536 ≡ v → filter (λ r. eqb n (rank r)) xs
        ≡ filter (λ r. eqb n (rank r)) ys) [
          | true ↦ λ e.
              let lt : n < 65536 = grind (arith, nat_tests) in
              at_rank (λ r. eqb n (rank r)) Icmp n (λ r small. rank_icmp n r.external.number r.protocol lt small)
          | false ↦ λ e. elim (nat_lt n 131072) as (λ v. nat_lt n 131072 ≡ v → filter (λ r. eqb n (rank r)) xs
              ≡ filter (λ r. eqb n (rank r)) ys) [
                | true ↦ λ f.
                    let lt : n - 65536 < 65536 = grind (arith, nat_tests) in
                    let is : 65536 + (n - 65536) ≡ n = grind (arith, nat_tests) in
                    at_rank (λ r. eqb n (rank r)) Tcp (n - 65536) (λ r small. ap (λ (m : ℕ). eqb m (rank r)) (sym is)
                    ∙ rank_tcp (n - 65536) r.external.number r.protocol lt small)
                | false ↦ λ f. elim (nat_lt n 196608) as (λ v. nat_lt n 196608 ≡ v → filter (λ r. eqb n (rank r)) xs
                    ≡ filter (λ r. eqb n (rank r)) ys) [
                      | true ↦ λ g.
                          let lt : n - 131072 < 65536 = grind (arith, nat_tests) in
                          let is : 131072 + (n - 131072) ≡ n = grind (arith, nat_tests) in
                          at_rank (λ r. eqb n (rank r)) Udp (n - 131072) (λ r small.
                          ap (λ (m : ℕ). eqb m (rank r)) (sym is)
                          ∙ rank_udp (n - 131072) r.external.number r.protocol lt small)
                      | false ↦ λ g.
                          let le : 196608 ≤ n = grind (arith, nat_tests) in
                          at_rank (λ r. eqb n (rank r)) Icmp n (λ r small.
                          rank_beyond n r.external.number r.protocol le small)
                    ] refl
              ] refl
        ] refl

    in_order_same : sorted_rows xs ≡ sorted_rows ys
    in_order_same = in_order_alike xs ys (λ x.
        filter_agree (same_rank x) (λ r. eqb (rank x) (rank r)) (same_rank_is x) xs
        ∙ (rank_alike (rank x) ∙ sym (filter_agree (same_rank x) (λ r. eqb (rank x) (rank r)) (same_rank_is x) ys)))

-- THE LIST

module _ (timers : Timers) (now address : ℕ) (p : Protocol) (n : ℕ) where
  list_rows : (list : List Binding) → Each (IsPaired (λ host. address)) (map row list) →
      Once (λ b. has_number address p n b.row) list →
      filter (is_row p n) (map row list) ≡ few (option_map row (find (λ b. has_number address p n b.row) list))
  list_rows [] each once = refl
  list_rows (b ∷ list) each once =
      let same : is_row p n (row b) ≡ has_number address p n b.row =
      sym (ap (λ v. v && is_row p n (row b)) (eq-eqb b.row.external.address address each.0.paired)) in
      let rest : List Row = filter (is_row p n) (map row list) in
      ap (λ v. cond v (row b ∷ rest) rest) same
      ∙ elim (has_number address p n b.row) as (λ v. has_number address p n b.row ≡ v → cond v (row b ∷ rest) rest
      ≡ few (option_map row (cond v (Some b) (find (λ b. has_number address p n b.row) list)))) [
        | true ↦ λ e. ap (λ (l : List Row). row b ∷ l) (list_rows list each.1 once.1
            ∙ ap (λ (o : Option Binding). few (option_map row o)) (find_nowhere (λ b. has_number address p n b.row) list
            (once.0 e)))
        | false ↦ λ e. list_rows list each.1 once.1
      ] refl

-- THE STORED BINDINGS

pub each_entry : (P : ExternalNumberKey × Binding → Type 0) (es : List (ExternalNumberKey × Binding)) →
    IsDistinct key_eq (keys_of es) →
    ((k : ExternalNumberKey) (b : Binding) → lookup (key_eq k) es ≡ Some b → P (k, b)) → Each P es
each_entry P [] distinct holds = tt
each_entry P (e ∷ es) distinct holds = (
  holds e.0 e.1 (lookup_head (key_eq e.0) e es (key_itself e.0)),
  each_entry P es (IsDistinct-tail key_eq e.0 (keys_of es) distinct) (λ k b h.
      elim (key_eq k e.0) as (λ v. key_eq k e.0 ≡ v → P (k, b)) [
        | true ↦ λ t. let none : lookup (key_eq k) es ≡ None =
            lookup-none (key_eq k) es (none_past_head key_equiv k e es distinct t) in let clash : None ≡ Some b =
            sym none ∙ h in cc
        | false ↦ λ t. holds k b (lookup_tail (key_eq k) e es t ∙ h)
      ] refl),
)

-- The binding of an entry has the protocol and number of its key.
abbrev IsEntry : ExternalNumberKey × Binding → Type 0
IsEntry e = (e.1.row.protocol ≡ e.0.protocol) × (e.1.row.external.number ≡ e.0.number)

module _ (timers : Timers) (now : ℕ) (p : Protocol) (n : ℕ) where
  abbrev key : ExternalNumberKey
  key = external_key p n

  abbrev told : Option Binding → List Row
  told o = few (option_map row (seen_binding timers now o))

  entry_here : (e : ExternalNumberKey × Binding) → IsEntry e → key_eq key e.0 ≡ true → is_row p n (row e.1) ≡ true
  entry_here e is t =
      let k : key ≡ e.0 = key_is key e.0 t in
      let q : p ≡ e.1.row.protocol = ap (λ (x : ExternalNumberKey). x.protocol) k ∙ sym is.0 in
      let m : e.1.row.external.number ≡ n = is.1 ∙ sym (ap (λ (x : ExternalNumberKey). x.number) k) in
      and_from (same_protocol p e.1.row.protocol) (eqb e.1.row.external.number n)
      (ap (same_protocol p) (sym q) ∙ same_itself p) (eq-eqb e.1.row.external.number n m)

  entry_away : (e : ExternalNumberKey × Binding) → IsEntry e → key_eq key e.0 ≡ false → is_row p n (row e.1) ≡ false
  entry_away e is t = elim (is_row p n (row e.1)) as (λ v. is_row p n (row e.1) ≡ v → v ≡ false) [
    | true ↦ λ h.
        let parts = and_parts (same_protocol p e.1.row.protocol) (eqb e.1.row.external.number n) h in
        let q : p ≡ e.0.protocol = protocol_is p e.1.row.protocol parts.0 ∙ is.0 in
        let m : n ≡ e.0.number = sym (eqb-true e.1.row.external.number n parts.1) ∙ is.1 in
        let k : key ≡ e.0 = λ i. record { number = m i; protocol = q i } in
        absurd (key_differs key e.0 t k)
    | false ↦ λ h. refl
  ] refl

  entry_rows : (es : List (ExternalNumberKey × Binding)) → Each IsEntry es → IsDistinct key_eq (keys_of es) →
      filter (is_row p n) (map row (filter (is_live timers now) (values_of es))) ≡ told (lookup (key_eq key) es)
  entry_rows [] each distinct = refl
  entry_rows (e ∷ es) each distinct =
      let rest : List Row = filter (is_row p n) (map row (filter (is_live timers now) (values_of es))) in
      let again : rest ≡ told (lookup (key_eq key) es) =
      entry_rows es each.1 (IsDistinct-tail key_eq e.0 (keys_of es) distinct) in
      elim (key_eq key e.0) as (λ v. key_eq key e.0 ≡ v →
      filter (is_row p n) (map row (cond (is_live timers now e.1) (e.1 ∷ filter (is_live timers now) (values_of es))
      (filter (is_live timers now) (values_of es)))) ≡ told (cond v (Some e.1) (lookup (key_eq key) es))) [
        | true ↦ λ k.
            let none : lookup (key_eq key) es ≡ None =
            lookup-none (key_eq key) es (none_past_head key_equiv key e es distinct k) in
            let empty : rest ≡ [] = again ∙ ap told none in
            elim (is_live timers now e.1) as (λ v.
            filter (is_row p n)
            (map row (cond v (e.1 ∷ filter (is_live timers now) (values_of es))
            (filter (is_live timers now) (values_of es))))
            ≡ few (option_map row (cond v (Some (with_live_flows timers now e.1)) None))) [
              | true ↦ ap (λ v. cond v (row e.1 ∷ rest) rest) (entry_here e each.0 k)
                  ∙ ap (λ (l : List Row). row e.1 ∷ l) empty
              | false ↦ empty
            ]
        | false ↦ λ k.
            elim (is_live timers now e.1) as (λ v.
            filter (is_row p n)
            (map row (cond v (e.1 ∷ filter (is_live timers now) (values_of es))
            (filter (is_live timers now) (values_of es)))) ≡ told (lookup (key_eq key) es)) [
              | true ↦ ap (λ v. cond v (row e.1 ∷ rest) rest) (entry_away e each.0 k) ∙ again
              | false ↦ again
            ]
      ] refl

-- THE TABLE

module _ (table : Inside) (is : KeepsItsList table) (now : ℕ) (later : table.bindings.at ≤ now)
    (named : IsNamed table.bindings.held) (read : AreListable table.bindings.timers now table.bindings.held) where
  abbrev pub made : List Row
  made = held_rows table.bindings.timers now table.bindings.held

  -- The rows that are visible at a number of a protocol: one, or none.
  abbrev seen_at : Protocol → ℕ → List Row
  seen_at p n = few (option_map row (seen_binding table.bindings.timers now (held_at table.bindings.held p n)))

  made_told : (p : Protocol) (n : ℕ) → filter (is_row p n) made ≡ seen_at p n
  made_told p n = entry_rows table.bindings.timers now p n table.bindings.held.entries
      (each_entry IsEntry table.bindings.held.entries read.unique (λ k b h.
      (named.protocol_is k b h, ap (λ (x : Endpoint). x.number) (named.external_is k b h)))) read.unique

  list_told : (p : Protocol) (n : ℕ) → filter (is_row p n) (map row (live table is now later)) ≡ seen_at p n
  list_told p n =
      let sound = live_sound table is now later in
      list_rows table.bindings.timers now table.bindings.held.address p n (live table is now later) sound.each
      (once_number table.bindings.held.address p n (live table is now later) sound.apart)
      ∙ ap (λ (o : Option Binding). few (option_map row o)) (show_now table is now later p n)

  -- The sorted rows are those of the list.
  pub made_in_order : sorted_rows made ≡ rows table.bindings.timers now (list_of table)
  made_in_order =
      sym (in_order_same (map row (live table is now later)) made (λ p n. list_told p n ∙ sym (made_told p n))
      (none_big made read.small))

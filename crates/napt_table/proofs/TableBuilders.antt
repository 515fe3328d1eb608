-- A table at its start: each binding of its list is stored.
use Rattle.std.proofs.Common.{◌≡◌, ◌≢◌, ℕ, zero, suc, ◌+◌, ◌<◌, ◌≤◌, Bool, true, false, ◌||◌, cond, List, [], ◌∷◌, ◌++◌, length, get_or, take, map, filter, Option, Some, None, refl, sym, ◌∙◌, ap, subst, arith, eqb}
use Rattle.std.{specs.{Prelude.find, List.list_any, Option.option_map}, proofs.lemmas.Bool.{eq-eqb, or_parts, true≢false, Decides.nat_tests}}
use Rattle.std.proofs.lemmas.List.{map_more, append-nil, take_all, Elements.filter-append}
use Rattle.napt_wire.specs.declared.{Protocol.Protocol, Endpoint.Endpoint}
use Rattle.napt_config.specs.{Rules.{Rules, RulesInvariant, AreRedirectsSingle, is_double, pair_of}, declared.settings.{Redirect.Redirect, Timers.Timers}}
use Rattle.napt_rules.specs.Prelude.{Binding, is_at, bindings_at, is_of_inside, has_number, redirect_binding, opening, row, AreBindingsApart}
use Rattle.napt_table.specs.{declared.bindings.keys.ExternalNumberKey.ExternalNumberKey, Keys.{key_eq, external_key, key_of}, HeldLists.seen_binding, Beginnings.AreHeld}
use Rattle.napt_table.specs.{BindingIndexes.{BindingIndexModel, held_binding, IsNamed, HasNoInside}, Bindings.ListAgrees, TableModels.{list_of, table_model, KeepsItsList}, Tables.IsTable, declared.table.Table.TheInside.Inside}
use Rattle.napt_table.proofs.{Keys.{by_key, at_key, past_key}, SeenBindings.find_purged}
use Rattle.napt_laws.proofs.{UniqueSearches.{Once, find_pushed, find_passed_over, any_found, none_passes}, OpeningList.apart_redirects}
use Rattle.napt_laws.proofs.{Endpoints.{has_it, inside_it, has_protocol, number_of_it, once_number, once_inside}, StepsSound.apart_kept}

-- THE REDIRECTS SO FAR

any_front : {X : Type 0} (t : X → Bool) (k : ℕ) (xs : List X) → list_any t xs ≡ false → list_any t (take k xs) ≡ false
any_front t zero xs h = refl
any_front t (suc k) [] h = refl
any_front t (suc k) (x ∷ xs) h =
    let parts : (t x ≡ false) × (list_any t xs ≡ false) = or_parts _ _ h in
    ap (λ v. v || list_any t (take k xs)) parts.0 ∙ any_front t k xs parts.1

single_front : (pair : ℕ → ℕ) (k : ℕ) (redirects : List Redirect) → AreRedirectsSingle pair redirects →
    AreRedirectsSingle pair (take k redirects)
single_front pair zero redirects single = tt
single_front pair (suc k) [] single = tt
single_front pair (suc k) (r ∷ redirects) single = (
  any_front (is_double pair r) k redirects single.0,
  single_front pair k redirects single.1,
)

-- The bindings at the address that the first k redirects give.
abbrev pub begun : Rules → ℕ → ℕ → List Binding
begun rules address k = bindings_at address (map (redirect_binding (pair_of rules)) (take k rules.redirects))

module _ (rules : Rules) (address k : ℕ) where
  pub begun_apart : RulesInvariant rules → AreBindingsApart (map row (begun rules address k))
  begun_apart keeps =
      apart_kept (λ b. is_at address b.row) (map (redirect_binding (pair_of rules)) (take k rules.redirects))
      (apart_redirects (pair_of rules) (take k rules.redirects)
      (single_front (pair_of rules) k rules.redirects keeps.single))

  module _ (redirect other : Redirect) (below : k < length rules.redirects) (is : redirect
      ≡ get_or rules.redirects k other) where
    abbrev next : Binding
    next = redirect_binding (pair_of rules) redirect

    begun_more : begun rules address (k + 1) ≡ begun rules address k ++ cond (is_at address next.row) (next ∷ []) []
    begun_more =
        ap (filter (λ b. is_at address b.row)) (map_more (redirect_binding (pair_of rules)) rules.redirects k other
        below)
        ∙ (filter-append (λ b. is_at address b.row) (map (redirect_binding (pair_of rules)) (take k rules.redirects))
        (redirect_binding (pair_of rules) (get_or rules.redirects k other) ∷ [])
        ∙ ap (λ (r : Redirect). begun rules address k ++ filter (λ b. is_at address b.row)
        (redirect_binding (pair_of rules) r ∷ []))
        (sym is))

    -- A redirect of another address adds no binding.
    pub begun_same : pair_of rules redirect.address ≢ address → begun rules address (k + 1) ≡ begun rules address k
    begun_same apart =
        let lacks : eqb (pair_of rules redirect.address) address ≡ false = grind (arith, nat_tests) in
        begun_more ∙ (ap (λ v. begun rules address k ++ cond v (next ∷ []) []) lacks
        ∙ append-nil (begun rules address k))

    -- A redirect of this address adds its binding.
    pub begun_pushed : pair_of rules redirect.address ≡ address →
        begun rules address (k + 1) ≡ begun rules address k ++ redirect_binding (λ host. address) redirect ∷ []
    begun_pushed here =
        begun_more
        ∙ (ap (λ v. begun rules address k ++ cond v (next ∷ []) [])
        (eq-eqb (pair_of rules redirect.address) address here)
        ∙ ap (λ (a : ℕ). begun rules address k ++ redirect_binding (λ host. a) redirect ∷ []) here)

-- A NEW BINDING

module _ {X : Type 0} (t : X → Bool) (y : X) (passes : t y ≡ true) where
  any_last : (xs : List X) → list_any t (xs ++ y ∷ []) ≡ true
  any_last [] = ap (λ v. v || false) passes
  any_last (x ∷ xs) = let rest : list_any t (xs ++ y ∷ []) ≡ true = any_last xs in grind (arith, rest)

  -- No earlier element passes the test, if at most one of all does.
  pub none_earlier : (xs : List X) → Once t (xs ++ y ∷ []) → find t xs ≡ None
  none_earlier [] once = refl
  none_earlier (x ∷ xs) once = elim (t x) as (λ v. t x ≡ v → cond v (Some x) (find t xs) ≡ None) [
    | true ↦ λ e. absurd (true≢false (sym (any_last xs) ∙ once.0 e))
    | false ↦ λ e. none_earlier xs once.1
  ] refl

module _ (address : ℕ) (list : List Binding) (fresh : Binding) (at : fresh.row.external.address ≡ address) where
  lacks : (q : Protocol) (n : ℕ) → external_key q n ≢ key_of fresh → has_number address q n fresh.row ≡ false
  lacks q n d = elim (has_number address q n fresh.row) as (λ v. has_number address q n fresh.row ≡ v → v ≡ false) [
    | true ↦ λ h.
        let m : n ≡ fresh.row.external.number = sym (number_of_it address q n fresh.row h) in
        let p : q ≡ fresh.row.protocol = has_protocol address q n fresh.row h in
        let e : external_key q n ≡ key_of fresh = λ i. record { number = m i; protocol = p i } in
        absurd (d e)
    | false ↦ λ h. refl
  ] refl

  module _ (apart : AreBindingsApart (map row (list ++ fresh ∷ []))) where
    its_number : has_number address fresh.row.protocol fresh.row.external.number fresh.row ≡ true
    its_number = has_it address fresh.row.protocol fresh.row.external.number fresh.row refl at refl

    free_number : find (λ b. has_number address fresh.row.protocol fresh.row.external.number b.row) list ≡ None
    free_number = none_earlier (λ b. has_number address fresh.row.protocol fresh.row.external.number b.row) fresh
        its_number list (once_number address fresh.row.protocol fresh.row.external.number (list ++ fresh ∷ []) apart)

    absent_inside : find (λ b. is_of_inside address fresh.row.protocol fresh.row.inside b.row) list ≡ None
    absent_inside = none_earlier (λ b. is_of_inside address fresh.row.protocol fresh.row.inside b.row) fresh
        (inside_it address fresh.row.protocol fresh.row.inside fresh.row refl at refl) list
        (once_inside address fresh.row.protocol fresh.row.inside (list ++ fresh ∷ []) apart)

    module _ (old : BindingIndexModel) (named : IsNamed old) (its : old.address ≡ address)
        (are : AreHeld address old list) where
      -- Neither its number nor its inside endpoint is taken.
      pub free : held_binding old (key_of fresh) ≡ None
      free = are fresh.row.protocol fresh.row.external.number ∙ free_number

      pub absent : HasNoInside old fresh.row.protocol fresh.row.inside
      absent m b h e =
          let there : find (λ b. has_number address fresh.row.protocol m b.row) list ≡ Some b =
          sym (are fresh.row.protocol m) ∙ h in
          let same : fresh.row.protocol ≡ b.row.protocol =
          sym (named.protocol_is (external_key fresh.row.protocol m) b h) in
          let here : b.row.external.address ≡ address =
          ap (λ (x : Endpoint). x.address) (named.external_is (external_key fresh.row.protocol m) b h) ∙ its in
          let passes : is_of_inside address fresh.row.protocol fresh.row.inside b.row ≡ true =
          inside_it address fresh.row.protocol fresh.row.inside b.row same here (sym e) in
          true≢false (sym (any_found (λ b. has_number address fresh.row.protocol m b.row)
          (λ b. is_of_inside address fresh.row.protocol fresh.row.inside b.row) list b there passes)
          ∙ none_passes (λ b. is_of_inside address fresh.row.protocol fresh.row.inside b.row) list absent_inside)

      -- It is stored as the others are.
      pub held_more : (new : BindingIndexModel) →
          ((k : ExternalNumberKey) → held_binding new k
          ≡ cond (key_eq (key_of fresh) k) (Some fresh) (held_binding old k)) →
          AreHeld address new (list ++ fresh ∷ [])
      held_more new holds q n =
          by_key (key_of fresh) (external_key q n) (λ k. held_binding new k
          ≡ find (λ b. has_number address k.protocol k.number b.row) (list ++ fresh ∷ []))
          (holds (key_of fresh)
          ∙ (at_key (key_of fresh) (Some fresh) (held_binding old (key_of fresh))
          ∙ sym (find_pushed (λ b. has_number address fresh.row.protocol fresh.row.external.number b.row) list fresh
          free_number ∙ ap (λ v. cond v (Some fresh) None) its_number)))
          (λ d. holds (external_key q n)
          ∙ (past_key (key_of fresh) (Some fresh) (held_binding old (external_key q n)) (external_key q n) d
          ∙ (are q n ∙ sym (find_passed_over (λ b. has_number address q n b.row) list fresh (lacks q n d)))))

-- No binding is stored, and the list is empty.
pub none_held : (address : ℕ) (all : BindingIndexModel) → ((key : ExternalNumberKey) → held_binding all key ≡ None) →
    AreHeld address all []
none_held address all none q n = none (external_key q n)

-- THE TABLE

-- The stored bindings agree with the list if they are those of the list.
pub begun_keep : (timers : Timers) (at address : ℕ) (all : BindingIndexModel) (list : List Binding) →
    AreBindingsApart (map row list) →
    AreHeld address all list → ListAgrees timers at address all list
begun_keep timers at address all list apart are = record {
  live = λ q n. find_purged timers at address q n list apart ∙ ap (seen_binding timers at) (sym (are q n));
  held = λ q n t from. ap (λ (o : Option Binding). option_map row (seen_binding timers t o)) (sym (are q n));
}

-- All redirects are stored.
pub all_begun : (rules : Rules) (address k : ℕ) → length rules.redirects ≤ k → begun rules address k
    ≡ bindings_at address (opening rules)
all_begun rules address k end = ap (λ (rs : List Redirect). bindings_at address
    (map (redirect_binding (pair_of rules)) rs))
    (take_all k rules.redirects end)

pub begun_keeps_its_list : (table : Inside) (list : List Binding) → list_of table ≡ list →
    IsTable (record (table_model table) { list = list }) →
    AreHeld table.bindings.held.address table.bindings.held list →
    KeepsItsList table
begun_keeps_its_list table list is state are = record {
  state = subst IsTable (λ i. record (table_model table) { list = sym is i }) state;
  keeps = subst (ListAgrees table.bindings.timers table.bindings.at table.bindings.held.address table.bindings.held)
      (sym is)
      (begun_keep table.bindings.timers table.bindings.at table.bindings.held.address table.bindings.held list
      state.sound.apart are);
}

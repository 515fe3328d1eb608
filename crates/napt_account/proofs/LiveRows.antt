-- The bindings of a state that are live under a configuration: the redirects, and the others of the state.
use Rattle.std.proofs.Common.{◌≡◌, ℕ, ◌+◌, ◌*◌, ◌<◌, Bool, true, false, not, cond, List, [], ◌∷◌, ◌++◌, length, get_or, take, drop, map, filter, refl, sym, ◌∙◌, ap, subst, arith}
use Rattle.std.proofs.lemmas.List.{append_assoc, take_more, take-append-drop}
use Rattle.napt_config.specs.{Rules.{Rules, RulesInvariant, pair_of}, declared.settings.{Redirect.Redirect, Timers.Timers}}
use Rattle.napt_rules.specs.Prelude.{Binding, Each, IsBindingOwn, State, TakesState, flows_share, hold_ago, is_live, dynamic_bindings, opening, purge, redirect_binding, ns_per_second, with_redirects, with_live_flows}
use Rattle.napt_laws.proofs.{Lists.{each_weaker, filter_map, filter_swap}, SeenElements.ago_before, OwnBindings.owned_taken, Purges.purge_purge, TakenStates.all}
use Rattle.napt_table.specs.{declared.TimedRow.TimedRow, TimedRows.timed_row}
use Rattle.napt_account.proofs.Lists.{filter_joined, map_joined}

abbrev pub is_loose : Binding → Bool
is_loose b = not b.row.fixed

-- The bindings other than redirects.
abbrev pub live_of : Timers → ℕ → List Binding → List Binding
live_of timers now list = purge timers now (filter is_loose list)

pub purge_joined : (timers : Timers) (now : ℕ) (xs ys : List Binding) → purge timers now (xs ++ ys)
    ≡ purge timers now xs ++ purge timers now ys
purge_joined timers now xs ys = ap (map (with_live_flows timers now)) (filter_joined (is_live timers now) xs ys)
    ∙ map_joined (with_live_flows timers now) (filter (is_live timers now) xs) (filter (is_live timers now) ys)

live_joined : (timers : Timers) (now : ℕ) (xs ys : List Binding) → live_of timers now (xs ++ ys)
    ≡ live_of timers now xs ++ live_of timers now ys
live_joined timers now xs ys = ap (purge timers now) (filter_joined is_loose xs ys)
    ∙ purge_joined timers now (filter is_loose xs) (filter is_loose ys)

timed_opening : (timers : Timers) (now : ℕ) (pair : ℕ → ℕ) (rs : List Redirect) →
    map (timed_row timers) (purge timers now (map (redirect_binding pair) rs))
    ≡ map (timed_row timers) (map (redirect_binding pair) rs)
timed_opening timers now pair [] = refl
timed_opening timers now pair (r ∷ rs) =
    ap (λ (ts : List TimedRow). timed_row timers (redirect_binding pair r) ∷ ts) (timed_opening timers now pair rs)

module _ (rules : Rules) (state : State) where
  abbrev timers : Timers
  timers = rules.timers

  abbrev now : ℕ
  now = state.clock

  loose_live : purge timers now (dynamic_bindings rules state) ≡ live_of timers now state.list
  loose_live =
      let ago : ℕ = hold_ago timers now in
      ap (purge timers now) (filter_map is_loose (with_live_flows timers ago) (filter (is_live timers ago) state.list)
      (λ b. refl) ∙ ap (map (with_live_flows timers ago)) (filter_swap is_loose (is_live timers ago) state.list))
      ∙ purge_purge timers ago now (ago_before timers now) (filter is_loose state.list)

  -- The redirects, and then the first bindings of the state.
  abbrev pub live_to : ℕ → List TimedRow
  live_to k = map (timed_row timers) (opening rules) ++ map (timed_row timers) (live_of timers now (take k state.list))

  pub live_all : map (timed_row timers) (purge timers now (with_redirects rules state).list)
      ≡ map (timed_row timers) (opening rules) ++ map (timed_row timers) (live_of timers now state.list)
  live_all = ap (map (timed_row timers)) (purge_joined timers now (opening rules) (dynamic_bindings rules state))
      ∙ (map_joined (timed_row timers) (purge timers now (opening rules))
      (purge timers now (dynamic_bindings rules state))
      ∙ (ap (λ (ts : List TimedRow). ts ++ map (timed_row timers) (purge timers now (dynamic_bindings rules state)))
      (timed_opening timers now (pair_of rules) rules.redirects)
      ∙ ap (λ (bs : List Binding). map (timed_row timers) (opening rules) ++ map (timed_row timers) bs) loose_live))

  live_own : RulesInvariant rules → TakesState rules state → Each (λ b. b.row.fixed ≡ false → IsBindingOwn rules now b)
      (live_of timers now state.list)
  live_own keeps takes =
      let then : ℕ = now + timers.hold * ns_per_second in
      let back : hold_ago timers then ≡ now = omega arith in
      subst (Each (λ b. b.row.fixed ≡ false → IsBindingOwn rules now b))
      (ap (λ (n : ℕ). purge timers n (dynamic_bindings rules state)) back ∙ loose_live)
      (owned_taken rules now then (dynamic_bindings rules state)
      (each_weaker (IsBindingOwn rules now) (λ b. b.row.fixed ≡ false → IsBindingOwn rules now b) (λ b own is. own)
      (dynamic_bindings rules state) (all rules keeps state takes).owned))

  each_last : {X : Type 0} (P : X → Type 0) (xs ys : List X) → Each P (xs ++ ys) → Each P ys
  each_last P [] ys h = h
  each_last P (x ∷ xs) ys h = each_last P xs ys h.1

  each_first : {X : Type 0} (P : X → Type 0) (xs ys : List X) → Each P (xs ++ ys) → Each P xs
  each_first P [] ys h = tt
  each_first P (x ∷ xs) ys h = (h.0, each_first P xs ys h.1)

  module _ (k : ℕ) (b : Binding) (below : k < length state.list) (is : get_or state.list k b ≡ b) where
    list_next : take (k + 1) state.list ≡ take k state.list ++ b ∷ []
    list_next = take_more state.list k b below ∙ ap (λ (x : Binding). take k state.list ++ x ∷ []) is

    pub live_next : live_to (k + 1) ≡ live_to k ++ map (timed_row timers) (live_of timers now (b ∷ []))
    live_next =
        let first : List TimedRow = map (timed_row timers) (opening rules) in
        ap (λ (bs : List Binding). first ++ map (timed_row timers) (live_of timers now bs)) list_next
        ∙ (ap (λ (bs : List Binding). first ++ map (timed_row timers) bs)
        (live_joined timers now (take k state.list) (b ∷ []))
        ∙ (ap (λ (ts : List TimedRow). first ++ ts)
        (map_joined (timed_row timers) (live_of timers now (take k state.list))
        (live_of timers now (b ∷ [])))
        ∙ sym (append_assoc first (map (timed_row timers) (live_of timers now (take k state.list)))
        (map (timed_row timers) (live_of timers now (b ∷ []))))))

    pub next_single : RulesInvariant rules → TakesState rules state → b.row.fixed ≡ false →
        is_live timers now b ≡ true →
        flows_share (with_live_flows timers now b).flows ≡ false
    next_single keeps takes unfixed live =
        let Own : Binding → Type 0 = λ b. b.row.fixed ≡ false → IsBindingOwn rules now b in
        let whole : live_of timers now state.list ≡ (live_of timers now (take k state.list)
        ++ live_of timers now (b ∷ [])) ++ live_of timers now (drop (k + 1) state.list) =
        ap (live_of timers now) (sym (take-append-drop (k + 1) state.list))
        ∙ (live_joined timers now (take (k + 1) state.list) (drop (k + 1) state.list)
        ∙ ap (λ (bs : List Binding). bs ++ live_of timers now (drop (k + 1) state.list))
        (ap (live_of timers now) list_next ∙ live_joined timers now (take k state.list) (b ∷ []))) in
        let one : live_of timers now (b ∷ []) ≡ with_live_flows timers now b ∷ [] =
        ap (λ v. purge timers now (cond (not v) (b ∷ []) [])) unfixed
        ∙ ap (λ v. map (with_live_flows timers now) (cond v (b ∷ []) [])) live in
        ((subst (Each Own) one (each_last Own (live_of timers now (take k state.list)) (live_of timers now (b ∷ []))
        (each_first Own _ (live_of timers now (drop (k + 1) state.list))
        (subst (Each Own) whole (live_own keeps takes))))).0 unfixed).flows.single

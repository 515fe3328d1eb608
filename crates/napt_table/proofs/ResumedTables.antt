-- The bindings that a table restores from a saved state, one after another.
use Rattle.std.proofs.Common.{◌≡◌, ℕ, ◌+◌, ◌<◌, ◌≤◌, Bool, true, false, not, cond, List, [], ◌∷◌, ◌++◌, length, get_or, take, drop, map, filter, Some, refl, sym, ◌∙◌, ap, subst, arith}
use Rattle.std.proofs.lemmas.{Bool.{or_parts, eq-eqb}, Option.same_Some, List.{take_more, take_all, take-append-drop, append_assoc, map-append, Elements.{filter-append, All-nil, All-cons}}}
use Rattle.napt_config.specs.{Rules.{Rules, RulesInvariant, pair_of}, declared.settings.Timers.Timers}
use Rattle.napt_rules.specs.declared.{Flow.Flow, Row.Row}
use Rattle.napt_rules.specs.Prelude.{Each, Binding, bindings_at, is_at, is_live, with_live_flows, purge, hold_ago, live_and_held, row, AreBindingsApart, AreRowsApart, AreFlowsOwn, IsBindingOwn, opening, State, dynamic_bindings, with_redirects, TakesState, flows_share}
use Rattle.napt_rules.proofs.Life.{live_same}
use Rattle.napt_binding.specs.Slots.{AreDistinct, NoneUsedAfter}
use Rattle.napt_table.specs.{Beginnings.state_bindings_at, HeldLists.seen_binding, BindingIndexes.IsUsedBy, Tables.{IsTable, resumed_table}}
use Rattle.napt_table.proofs.SeenBindings.{seen_is}
use Rattle.napt_laws.proofs.{Lists.{filter_swap, filter_map, each_less, each_weaker}, Purges.of_purge, SeenElements.taken_twice}
use Rattle.napt_laws.proofs.{OpeningList.{sound_at, redirects_stay}, TakenStates.{all, state_sound}}

-- ONE BINDING

distinct_flows : (flows : List Flow) → flows_share flows ≡ false → AreDistinct flows
distinct_flows [] h = tt
distinct_flows (flow ∷ flows) h = let parts = or_parts _ _ h in (parts.0, distinct_flows flows parts.1)

used_flows : (at : ℕ) (flows : List Flow) → Each (λ f. f.last ≤ at) flows → NoneUsedAfter flows at
used_flows at [] h = All-nil (λ (f : Flow). f.last ≤ at)
used_flows at (flow ∷ flows) h = All-cons (λ (f : Flow). f.last ≤ at) flow flows h.0 (used_flows at flows h.1)

module _ (timers : Timers) (at address : ℕ) (b : Binding) where
  abbrev ago : ℕ
  ago = hold_ago timers at

  abbrev one : List Binding
  one = state_bindings_at timers at address (b ∷ [])

  module _ (loose : b.row.fixed ≡ false) (here : b.row.external.address ≡ address) where
    module _ (live : is_live timers ago b ≡ true) where
      pub one_is : one ≡ with_live_flows timers ago b ∷ []
      one_is =
          ap (λ v. bindings_at address (filter (λ b. not b.row.fixed)
          (map (with_live_flows timers ago) (cond v (b ∷ []) []))))
          live
          ∙ (ap (λ v. bindings_at address (cond (not v) (with_live_flows timers ago b ∷ []) [])) loose
          ∙ ap (λ v. cond v (with_live_flows timers ago b ∷ []) []) (eq-eqb b.row.external.address address here))

      pub one_distinct : Each (λ x. AreFlowsOwn at x.flows) one → AreDistinct (with_live_flows timers ago b).flows
      one_distinct own = distinct_flows _ (subst (Each (λ x. AreFlowsOwn at x.flows)) one_is own).0.single

    -- The binding that is visible.
    module _ (x : Binding) (is : seen_binding timers ago (Some b) ≡ Some x) where
      b_lives : is_live timers ago b ≡ true
      b_lives = let s = seen_is timers ago (Some b) x is in
          subst (λ (y : Binding). is_live timers ago y ≡ true) (sym (same_Some b s.0 s.1)) s.2

      pub x_is : with_live_flows timers ago b ≡ x
      x_is = let s = seen_is timers ago (Some b) x is in
          ap (with_live_flows timers ago) (same_Some b s.0 s.1) ∙ s.3

      pub seen_lives : is_live timers ago x ≡ true
      seen_lives = ap (is_live timers ago) (sym x_is) ∙ (live_same timers ago ago (omega arith) b ∙ b_lives)

      pub seen_used : Each (λ x. AreFlowsOwn at x.flows) one → Each (λ x. x.last ≤ at) one → IsUsedBy at x
      seen_used own last = subst (IsUsedBy at) x_is (
        used_flows at _ (subst (Each (λ x. AreFlowsOwn at x.flows)) (one_is b_lives) own).0.by,
        (subst (Each (λ x. x.last ≤ at)) (one_is b_lives) last).0,
      )

-- ALL BINDINGS OF THE STATE

taken_up_append : (timers : Timers) (at address : ℕ) (xs ys : List Binding) →
    state_bindings_at timers at address (xs ++ ys)
    ≡ state_bindings_at timers at address xs ++ state_bindings_at timers at address ys
taken_up_append timers at address xs ys =
    let ago : ℕ = hold_ago timers at in
    let loose : Binding → Bool = λ b. not b.row.fixed in
    ap (λ l. bindings_at address (filter loose (map (with_live_flows timers ago) l)))
    (filter-append (is_live timers ago) xs ys)
    ∙ (ap (λ l. bindings_at address (filter loose l))
    (map-append (with_live_flows timers ago) (filter (is_live timers ago) xs)
    (filter (is_live timers ago) ys))
    ∙ (ap (bindings_at address) (filter-append loose (live_and_held timers at xs) (live_and_held timers at ys))
    ∙ filter-append (λ b. is_at address b.row) (filter loose (live_and_held timers at xs))
    (filter loose (live_and_held timers at ys))))

each_parts : {X : Type 0} (P : X → Type 0) (xs ys : List X) → Each P (xs ++ ys) → Each P xs × Each P ys
each_parts P [] ys h = (tt, h)
each_parts P (x ∷ xs) ys h = let rest = each_parts P xs ys h.1 in ((h.0, rest.0), rest.1)

apart_front : (xs ys : List Row) → AreBindingsApart (xs ++ ys) → AreBindingsApart xs
apart_front [] ys h = tt
apart_front (x ∷ xs) ys h = ((each_parts (AreRowsApart x) xs ys h.0).0, apart_front xs ys h.1)

-- A purge does not change the restored bindings.
taken_up_twice : (timers : Timers) (at address : ℕ) (list : List Binding) →
    live_and_held timers at (state_bindings_at timers at address list) ≡ state_bindings_at timers at address list
taken_up_twice timers at address list =
    let ago : ℕ = hold_ago timers at in
    let loose : Binding → Bool = λ b. not b.row.fixed in
    let all : List Binding = live_and_held timers at list in
    sym (of_purge timers ago address (filter loose all))
    ∙ ap (bindings_at address) (ap (map (with_live_flows timers ago)) (filter_swap (is_live timers ago) loose all)
    ∙ (sym (filter_map loose (with_live_flows timers ago) (filter (is_live timers ago) all) (λ b. refl))
    ∙ ap (filter loose) (taken_twice timers at list)))

purge_append : (timers : Timers) (now : ℕ) (xs ys : List Binding) → purge timers now (xs ++ ys)
    ≡ purge timers now xs ++ purge timers now ys
purge_append timers now xs ys =
    ap (map (with_live_flows timers now)) (filter-append (is_live timers now) xs ys)
    ∙ map-append (with_live_flows timers now) (filter (is_live timers now) xs) (filter (is_live timers now) ys)

module _ (rules : Rules) (address : ℕ) (state : State) where
  -- The redirects, and then the first k bindings of the state.
  abbrev pub begun_to : ℕ → List Binding
  begun_to k = bindings_at address (opening rules)
      ++ state_bindings_at rules.timers state.clock address (take k state.list)

  pub all_begun_to : (k : ℕ) → length state.list ≤ k → begun_to k ≡ (resumed_table rules address state).list
  all_begun_to k end =
      ap (λ l. bindings_at address (opening rules) ++ state_bindings_at rules.timers state.clock address l)
      (take_all k state.list end)
      ∙ sym (filter-append (λ b. is_at address b.row) (opening rules) (dynamic_bindings rules state))

  module _ (k : ℕ) (d : Binding) (below : k < length state.list) where
    abbrev next : List Binding
    next = state_bindings_at rules.timers state.clock address (get_or state.list k d ∷ [])

    pub begun_next : begun_to k ++ next ≡ begun_to (k + 1)
    begun_next =
        append_assoc (bindings_at address (opening rules))
        (state_bindings_at rules.timers state.clock address (take k state.list)) next
        ∙ ap (λ l. bindings_at address (opening rules) ++ l)
        (sym (ap (state_bindings_at rules.timers state.clock address) (take_more state.list k d below)
        ∙ taken_up_append rules.timers state.clock address (take k state.list) (get_or state.list k d ∷ [])))

    module _ (keeps : RulesInvariant rules) (takes : TakesState rules state) where
      pub next_apart : AreBindingsApart (map row (begun_to k ++ next))
      next_apart =
          let rest : List Binding = state_bindings_at rules.timers state.clock address (drop (k + 1) state.list) in
          let whole : begun_to (k + 1) ++ rest ≡ (resumed_table rules address state).list =
          append_assoc (bindings_at address (opening rules))
          (state_bindings_at rules.timers state.clock address (take (k + 1) state.list)) rest
          ∙ (ap (λ l. bindings_at address (opening rules) ++ l)
          (sym (taken_up_append rules.timers state.clock address (take (k + 1) state.list) (drop (k + 1) state.list))
          ∙ ap (state_bindings_at rules.timers state.clock address) (take-append-drop (k + 1) state.list))
          ∙ sym (filter-append (λ b. is_at address b.row) (opening rules) (dynamic_bindings rules state))) in
          let apart = (sound_at (pair_of rules) address (with_redirects rules state).list
          (state_sound rules keeps state takes)).apart in
          subst (λ l. AreBindingsApart (map row l)) (sym begun_next)
          (apart_front (map row (begun_to (k + 1))) (map row rest)
          (subst AreBindingsApart (ap (map row) (sym whole) ∙ map-append row (begun_to (k + 1)) rest) apart))

      next_own : Each (IsBindingOwn rules state.clock) next
      next_own =
          let own : Each (IsBindingOwn rules state.clock)
          (state_bindings_at rules.timers state.clock address state.list) =
          each_less (IsBindingOwn rules state.clock) (λ b. is_at address b.row) (dynamic_bindings rules state)
          (all rules keeps state takes).owned in
          let last = each_parts (IsBindingOwn rules state.clock)
          (state_bindings_at rules.timers state.clock address (take (k + 1) state.list))
          (state_bindings_at rules.timers state.clock address (drop (k + 1) state.list))
          (subst (Each (IsBindingOwn rules state.clock))
          (sym (ap (state_bindings_at rules.timers state.clock address) (take-append-drop (k + 1) state.list))
          ∙ taken_up_append rules.timers state.clock address (take (k + 1) state.list) (drop (k + 1) state.list))
          own) in
          (each_parts (IsBindingOwn rules state.clock)
          (state_bindings_at rules.timers state.clock address (take k state.list)) next
          (subst (Each (IsBindingOwn rules state.clock))
          (ap (state_bindings_at rules.timers state.clock address) (take_more state.list k d below)
          ∙ taken_up_append rules.timers state.clock address (take k state.list) (get_or state.list k d ∷ []))
          last.0)).1

      pub next_last : Each (λ b. b.last ≤ state.clock) next
      next_last = each_weaker (IsBindingOwn rules state.clock) (λ b. b.last ≤ state.clock) (λ b own. own.last) next
          next_own

      pub next_flows : Each (λ b. AreFlowsOwn state.clock b.flows) next
      next_flows = each_weaker (IsBindingOwn rules state.clock) (λ b. AreFlowsOwn state.clock b.flows)
          (λ b own. own.flows) next
          next_own

  pub resumed_is_table : RulesInvariant rules → TakesState rules state → IsTable (resumed_table rules address state)
  resumed_is_table keeps takes =
      let ago : ℕ = hold_ago rules.timers state.clock in
      let apart : (resumed_table rules address state).list ≡ bindings_at address (opening rules)
      ++ state_bindings_at rules.timers state.clock address state.list =
      filter-append (λ b. is_at address b.row) (opening rules) (dynamic_bindings rules state) in
      record {
        timers = keeps.timers;
        sound = sound_at (pair_of rules) address (with_redirects rules state).list
            (state_sound rules keeps state takes);
        taken = ap (purge rules.timers ago) apart
            ∙ (purge_append rules.timers ago (bindings_at address (opening rules))
            (state_bindings_at rules.timers state.clock address state.list)
            ∙ ((λ i. redirects_stay rules.timers ago (pair_of rules) address rules.redirects i
            ++ taken_up_twice rules.timers state.clock address state.list i) ∙ sym apart));
      }

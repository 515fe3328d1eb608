-- A state that is saved one address after another is alike to the original, is accepted if that is, and runs alike.
use Rattle.std.proofs.Common.{◌≡◌, ℕ, zero, suc, ◌^◌, ◌<◌, ◌≤◌, Bool, true, false, not, ◌||◌, cond, List, [], ◌∷◌, ◌++◌, map, filter, flat_map, length, Some, None, get_or, refl, sym, ◌∙◌, ap, subst, arith, eqb-true, slice_get, ◌==◌}
use Rattle.std.{specs.List.{list_any, Sorted.IsPermutation}, proofs.lemmas.{Bool.{or_parts, Decides.nat_tests}, List.{length-map, Elements.filter-append}, Option.{same_Some, slice_get_within, slice_get-get_or}}}
use Rattle.std.proofs.lemmas.List.Sorted.{IsPermutation-refl, IsPermutation-sym, IsPermutation-trans, IsPermutation-cons, IsPermutation-middle, IsPermutation-append_right}
use Rattle.napt_config.specs.declared.settings.Timers.{Timers}
use Rattle.napt_config.specs.Rules.{contains_address}
use Rattle.napt_config.proofs.Pools.{paired_in_pool}
use Rattle.napt_rules.specs.Prelude.{Binding, Each, bindings_at, is_at, hold_ago, live_and_held, row, opening, dynamic_bindings, with_redirects, last_clock, RunResult, State, effect_from, next_state, run_result_from, act_behind, run_then, Arrival, LegAct, IsPaired, IsSound, IsInItsBlock, misfit_in, TakesState, AreFlowsOwn, IsBindingOwn, AreAlike, AreBindingsLeft, IsStateInOrder, AlikeRunGoesOn, RunGoesOn, OrderedStatesAreAlike, OrderedStatesAreTaken, SavedRunGoesOn, SavedRunsGoOn, PacketsCarryNumbers, is_inside, Rules, RulesInvariant, pair_of}
use Rattle.napt_rules.{specs.declared.{Row.Row, Outcome.Outcome}, proofs.Lists.each_filter}
use Rattle.napt_laws.proofs.{Lists.{each_weaker, each_less, each_append, each_both, each_mapped, filter_swap}, UniqueSearches.Once, SeenElements.taken_twice, Purges.of_purge, StepsSound.purge_stays_sound, HeldNumbers.each_rows}
use Rattle.napt_laws.proofs.{Permutations.{each_moved, apart_moved}, AlikeLists.{purge_joined, purge_some, alike_moved, alike_then, alike_some, alike_both, alike_taken}, OneMoreInput.clock_on, ContinuedRuns.runs_go_on, RunsAlike.alike_go_on}
use Rattle.napt_laws.proofs.{TakenStates.{all, state_sound, taken_sound}, OwnStates.{all_fit, own_states_stay, own_states_are_taken}}

-- A LIST, SPLIT BY ADDRESS

-- The address of the row is one of these, at one place.
abbrev IsOneOf : List ℕ → Row → Type 0
IsOneOf pool r = Once (λ address. is_at address r) pool × (list_any (λ address. is_at address r) pool ≡ true)

abbrev split : List ℕ → List Binding → List Binding
split pool list = flat_map (λ address. bindings_at address list) pool

nothing_split : (pool : List ℕ) → split pool [] ≡ []
nothing_split [] = refl
nothing_split (address ∷ pool) = nothing_split pool

split_without : (pool : List ℕ) (b : Binding) (list : List Binding) →
    list_any (λ address. is_at address b.row) pool ≡ false → split pool (b ∷ list) ≡ split pool list
split_without [] b list none = refl
split_without (address ∷ pool) b list none =
    let parts = or_parts _ _ none in
    ap (λ v. cond v (b ∷ bindings_at address list) (bindings_at address list) ++ split pool (b ∷ list)) parts.0
    ∙ ap (λ (l : List Binding). bindings_at address list ++ l) (split_without pool b list parts.1)

split_with : (pool : List ℕ) (b : Binding) (list : List Binding) → IsOneOf pool b.row →
    IsPermutation (b ∷ split pool list) (split pool (b ∷ list))
split_with [] b list one = cc
split_with (address ∷ pool) b list one =
    elim (is_at address b.row) as (λ v. is_at address b.row ≡ v →
    (v || list_any (λ a. is_at a b.row) pool) ≡ true →
    IsPermutation (b ∷ split (address ∷ pool) list)
    (cond v (b ∷ bindings_at address list) (bindings_at address list) ++ split pool (b ∷ list))) [
      | true ↦ λ e is.
          subst (λ (l : List Binding). IsPermutation (b ∷ split (address ∷ pool) list)
          ((b ∷ bindings_at address list) ++ l))
          (sym (split_without pool b list (one.0.0 e))) (IsPermutation-refl _)
      | false ↦ λ e is.
          IsPermutation-trans _ _ _
          (IsPermutation-sym _ _ (IsPermutation-middle (bindings_at address list) b (split pool list)))
          (IsPermutation-append_right (bindings_at address list) _ _ (split_with pool b list (one.0.1, is)))
    ] refl one.1

all_split : (pool : List ℕ) (list : List Binding) → Each (λ b. IsOneOf pool b.row) list →
    IsPermutation list (split pool list)
all_split pool [] each = subst (IsPermutation []) (sym (nothing_split pool)) (IsPermutation-refl [])
all_split pool (b ∷ list) each =
    IsPermutation-trans _ _ _ (IsPermutation-cons b _ _ (all_split pool list each.1)) (split_with pool b list each.0)

-- The parts are alike to the bindings of their addresses.
module _ (timers : Timers) (now : ℕ) (list : List Binding) where
  abbrev AreParts : List ℕ → List (List Binding) → Type 0
  AreParts pool parts = (place address : ℕ) (part : List Binding) → slice_get pool place ≡ Some address →
      slice_get parts place ≡ Some part → AreAlike timers now (bindings_at address list) part

  parts_alike : (pool : List ℕ) (parts : List (List Binding)) → length parts ≡ length pool → AreParts pool parts →
      AreAlike timers now (split pool list) (flat_map (λ part. part) parts)
  parts_alike [] [] long each = alike_moved timers now [] [] (IsPermutation-refl [])
  parts_alike [] (part ∷ parts) long each = absurd (omega arith)
  parts_alike (address ∷ pool) [] long each = absurd (omega arith)
  parts_alike (address ∷ pool) (part ∷ parts) long each =
      alike_both timers now _ _ _ _ (each 0 address part refl refl)
      (parts_alike pool parts (omega arith) (λ place a p at is. each (suc place) a p at is))

  joined_alike : (pool : List ℕ) → Each (λ b. IsOneOf pool b.row) list → (parts : List (List Binding)) →
      length parts ≡ length pool → AreParts pool parts → AreAlike timers now list (flat_map (λ part. part) parts)
  joined_alike pool one parts long each =
      alike_then timers now list (split pool list) _ (alike_moved timers now list _ (all_split pool list one))
      (parts_alike pool parts long each)

-- THE POOL

no_place : (x : ℕ) (pool : List ℕ) → ((j : ℕ) → j < length pool → get_or pool j 0 ≡ x → ⊥) →
    list_any (λ a. x == a) pool ≡ false
no_place x [] apart = refl
no_place x (a ∷ pool) apart = elim (x == a) as (λ v. (x == a) ≡ v → (v || list_any (λ a. x == a) pool) ≡ false) [
  | true ↦ λ e. absurd (apart 0 (omega arith) (sym (eqb-true x a e)))
  | false ↦ λ e. no_place x pool (λ j lt. apart (suc j) (omega arith))
] refl

once_place : (x : ℕ) (pool : List ℕ) → ((i j : ℕ) → i < length pool → j < length pool →
    get_or pool i 0 ≡ get_or pool j 0 → i ≡ j) → Once (λ a. x == a) pool
once_place x [] distinct = tt
once_place x (a ∷ pool) distinct = (
  λ e. no_place x pool (λ j lt same. let is : 0 ≡ suc j =
      distinct 0 (suc j) (omega arith) (omega arith) (sym (eqb-true x a e) ∙ sym same) in absurd (omega arith)),
  once_place x pool (λ i j p q same. let is : suc i ≡ suc j =
      distinct (suc i) (suc j) (omega arith) (omega arith) same in omega arith),
)

some_place : (x : ℕ) (pool : List ℕ) → contains_address pool x ≡ true → list_any (λ a. x == a) pool ≡ true
some_place x [] h = h
some_place x (a ∷ pool) h = grind (arith, nat_tests, some_place x pool)

in_pool : (rules : Rules) → RulesInvariant rules → (r : Row) → IsPaired (pair_of rules) r → IsOneOf rules.pool r
in_pool rules keeps r is = (
  once_place r.external.address rules.pool keeps.pool.distinct,
  some_place r.external.address rules.pool (subst (λ (x : ℕ). contains_address rules.pool x ≡ true) (sym is.paired)
      (paired_in_pool rules.block rules.inside rules.pool rules.pairs r.inside.address keeps.pool.some
      keeps.pairs.externals)),
)

all_in_pool : (rules : Rules) → RulesInvariant rules → (list : List Binding) →
    Each (IsPaired (pair_of rules)) (map row list) → Each (λ b. IsOneOf rules.pool b.row) list
all_in_pool rules keeps list each =
    each_rows (IsOneOf rules.pool) list (each_weaker _ (IsOneOf rules.pool) (in_pool rules keeps) (map row list) each)

pub ordered_are_alike : OrderedStatesAreAlike
ordered_are_alike rules keeps state ordered sound order =
    subst (AreAlike rules.timers state.clock state.list) (sym order.list)
    (joined_alike rules.timers state.clock state.list rules.pool (all_in_pool rules keeps state.list sound.each)
    order.parts order.many (λ place address part at is. (order.each place address part at is).alike))

-- THE SAVED STATE IS TAKEN

module _ (timers : Timers) (now : ℕ) where
  -- Parts whose bindings are all live or held are together live or held.
  parts_taken : (parts : List (List Binding)) → ((i : ℕ) (part : List Binding) → slice_get parts i ≡ Some part →
      live_and_held timers now part ≡ part) →
      live_and_held timers now (flat_map (λ part. part) parts) ≡ flat_map (λ part. part) parts
  parts_taken [] each = refl
  parts_taken (part ∷ parts) each =
      purge_joined timers (hold_ago timers now) part (flat_map (λ part. part) parts)
      ∙ (ap (λ (l : List Binding). l ++ live_and_held timers now (flat_map (λ part. part) parts)) (each 0 part refl)
      ∙ ap (λ (l : List Binding). part ++ l) (parts_taken parts (λ i p is. each (suc i) p is)))

each_joined : (P : Binding → Type 0) (parts : List (List Binding)) → ((i : ℕ) (part : List Binding) →
    slice_get parts i ≡ Some part → Each P part) → Each P (flat_map (λ part. part) parts)
each_joined P [] each = tt
each_joined P (part ∷ parts) each =
    each_append P part (flat_map (λ part. part) parts) (each 0 part refl)
    (each_joined P parts (λ i p is. each (suc i) p is))

filter_joined : (p : Binding → Bool) (parts : List (List Binding)) →
    flat_map (λ part. part) (map (filter p) parts) ≡ filter p (flat_map (λ part. part) parts)
filter_joined p [] = refl
filter_joined p (part ∷ parts) =
    ap (λ (l : List Binding). filter p part ++ l) (filter_joined p parts)
    ∙ sym (filter-append p part (flat_map (λ part. part) parts))

-- A part of a filtered list of parts is a filtered part.
part_of : (p : Binding → Bool) (parts : List (List Binding)) (i : ℕ) (part : List Binding) →
    slice_get (map (filter p) parts) i ≡ Some part →
    (whole : List Binding) × (slice_get parts i ≡ Some whole) × (filter p whole ≡ part)
part_of p [] i part is = cc
part_of p (first ∷ parts) zero part is = (first, refl, same_Some (filter p first) part is)
part_of p (first ∷ parts) (suc i) part is = part_of p parts i part is

module _ (rules : Rules) (keeps : RulesInvariant rules) (state ordered : State)
    (order : IsStateInOrder rules state ordered) where
  abbrev now : ℕ
  now = state.clock

  abbrev is_loose : Binding → Bool
  is_loose b = not b.row.fixed

  -- The part at a place is that of some address of the pool.
  here : (i : ℕ) (part : List Binding) → slice_get order.parts i ≡ Some part → (address : ℕ)
      × AreBindingsLeft rules.timers now (bindings_at address state.list) part
  here i part is =
      let within = slice_get_within order.parts i part is in
      let many = order.many in
      let address : ℕ = get_or rules.pool i 0 in
      (address, order.each i address part (slice_get-get_or rules.pool i 0 (omega arith)) is)

  ordered_taken : live_and_held rules.timers now ordered.list ≡ ordered.list
  ordered_taken = rw order.list (parts_taken rules.timers now order.parts (λ i part is. (here i part is).1.taken))

  ordered_own : Each (λ b. (b.last ≤ now) × AreFlowsOwn now b.flows) ordered.list
  ordered_own = rw order.list (each_joined (λ b. (b.last ≤ now) × AreFlowsOwn now b.flows) order.parts (λ i part is.
      let left = (here i part is).1 in each_both (λ b. b.last ≤ now)
      (λ b. AreFlowsOwn now b.flows) part left.last left.flows))

  loose_is : dynamic_bindings rules ordered ≡ filter is_loose ordered.list
  loose_is = ap (filter is_loose)
      (ap (λ (t : ℕ). live_and_held rules.timers t ordered.list) order.clock ∙ ordered_taken)

  loose_there : (address : ℕ) → filter is_loose (live_and_held rules.timers now (bindings_at address state.list))
      ≡ bindings_at address (dynamic_bindings rules state)
  loose_there address =
      ap (filter is_loose) (sym (of_purge rules.timers (hold_ago rules.timers now) address state.list))
      ∙ filter_swap is_loose (λ b. is_at address b.row) (live_and_held rules.timers now state.list)

  loose_alike : Each (IsPaired (pair_of rules)) (map row (dynamic_bindings rules state)) →
      AreAlike rules.timers now (dynamic_bindings rules state) (dynamic_bindings rules ordered)
  loose_alike paired =
      subst (AreAlike rules.timers now (dynamic_bindings rules state))
      (filter_joined is_loose order.parts ∙ (ap (filter is_loose) (sym order.list) ∙ sym loose_is))
      (joined_alike rules.timers now (dynamic_bindings rules state) rules.pool
      (all_in_pool rules keeps (dynamic_bindings rules state) paired) (map (filter is_loose) order.parts)
      (length-map order.parts (filter is_loose) ∙ order.many)
      (λ place address part at is.
      let (whole, there, some) = part_of is_loose order.parts place part is in
      let left = order.each place address whole at there in
      subst (AreAlike rules.timers now (bindings_at address (dynamic_bindings rules state))) some
      (subst (λ (l : List Binding). AreAlike rules.timers now l (filter is_loose whole)) (loose_there address)
      (alike_some rules.timers now (λ r. not r.fixed) _ _
      (subst (AreAlike rules.timers now (live_and_held rules.timers now (bindings_at address state.list))) left.taken
      (alike_taken rules.timers now _ _ left.alike))))))

  loose_twice : (list : List Binding) → live_and_held rules.timers now list ≡ list →
      live_and_held rules.timers now (filter is_loose list) ≡ filter is_loose list
  loose_twice list same = purge_some rules.timers (λ r. not r.fixed) (hold_ago rules.timers now) list
      ∙ ap (filter is_loose) same

  loose_rows : Each (IsPaired (pair_of rules)) (map row (dynamic_bindings rules state)) →
      IsPermutation (map row (dynamic_bindings rules state)) (map row (dynamic_bindings rules ordered))
  loose_rows paired =
      subst (λ (l : List Binding). IsPermutation (map row l) (map row (dynamic_bindings rules ordered)))
      (loose_twice _ (taken_twice rules.timers now state.list))
      (subst (λ (l : List Binding). IsPermutation (map row
      (live_and_held rules.timers now (dynamic_bindings rules state))) (map row l))
      (ap (live_and_held rules.timers now) loose_is ∙ (loose_twice _ ordered_taken ∙ sym loose_is))
      ((loose_alike paired).held (hold_ago rules.timers now) (omega arith)))

  ordered_is_taken : TakesState rules state → TakesState rules ordered
  ordered_is_taken takes =
      let was = all rules keeps state takes in
      let rows = loose_rows was.paired in
      let hosts : Each (λ b. is_inside rules b.row.inside.address ≡ true) (dynamic_bindings rules ordered) =
      each_rows (λ r. is_inside rules r.inside.address ≡ true) (dynamic_bindings rules ordered)
      (each_moved (λ r. is_inside rules r.inside.address ≡ true) _ _ rows
      (each_mapped (λ r. is_inside rules r.inside.address ≡ true) row (dynamic_bindings rules state)
      (each_weaker (IsBindingOwn rules now) (λ b. is_inside rules b.row.inside.address ≡ true) (λ b own. own.host) _
      was.owned))) in
      let own : Each (λ b. (b.last ≤ now) × AreFlowsOwn now b.flows) (dynamic_bindings rules ordered) =
      rw loose_is (each_less (λ b. (b.last ≤ now) × AreFlowsOwn now b.flows) is_loose ordered.list ordered_own) in
      subst (λ (t : ℕ). misfit_in rules t (dynamic_bindings rules ordered) ≡ None) (sym order.clock)
      (all_fit rules now (dynamic_bindings rules ordered) (rw loose_is (each_filter is_loose ordered.list))
      (each_weaker _ (λ b. b.row.fixed ≡ false → IsBindingOwn rules now b)
      (λ b h loose. record { host = h.0; last = h.1.0; flows = h.1.1 }) _
      (each_both _ _ (dynamic_bindings rules ordered) hosts own))
      (each_moved (IsPaired (pair_of rules)) _ _ rows was.paired)
      (each_moved (IsInItsBlock rules) _ _ rows was.blocks)
      (apart_moved _ _ (IsPermutation-append_right (map row (opening rules)) _ _ rows) was.apart))

pub ordered_are_taken : OrderedStatesAreTaken
ordered_are_taken rules keeps state ordered takes order = ordered_is_taken rules keeps state ordered order takes

-- THE RUN GOES ON

module _ (carry : PacketsCarryNumbers) (rules : Rules) (keeps : RulesInvariant rules) (state saved : State)
    (takes : TakesState rules state) (first rest : List Arrival)
    (order : IsStateInOrder rules (next_state rules (with_redirects rules state) first) saved) where
  abbrev left : State
  left = next_state rules (with_redirects rules state) first

  left_taken : TakesState rules left
  left_taken = (own_states_are_taken carry rules).1 keeps state takes first

  saved_taken : TakesState rules saved
  saved_taken = ordered_are_taken rules keeps left saved left_taken order

  left_sound : IsSound (pair_of rules) left.list
  left_sound = purge_stays_sound (pair_of rules) rules.timers (hold_ago rules.timers left.clock) _
      (taken_sound carry rules keeps state takes first)

  under_alike : AreAlike rules.timers left.clock left.list (with_redirects rules saved).list
  under_alike =
      subst (λ (s : State). AreAlike rules.timers left.clock s.list (with_redirects rules saved).list)
      ((own_states_stay rules).1 state first)
      (alike_both rules.timers left.clock (opening rules) (opening rules) _ _
      (alike_moved rules.timers left.clock _ _ (IsPermutation-refl (opening rules)))
      (loose_alike rules keeps left saved order (all rules keeps left left_taken).paired))

  same : AlikeRunGoesOn rules left (with_redirects rules saved) rest
  same = alike_go_on carry rules keeps left (with_redirects rules saved) left_sound
      (state_sound rules keeps saved saved_taken)
      order.clock under_alike rest

  whole : RunGoesOn rules (with_redirects rules state) first rest
  whole = runs_go_on rules (with_redirects rules state) first rest

  goes_on_saved : SavedRunGoesOn rules (with_redirects rules state) saved first rest
  goes_on_saved = record {
    taken = saved_taken;
    outcomes = ap (λ (r : RunResult). r.outcomes) whole.ran
        ∙ ap (λ (os : List Outcome). (effect_from rules (with_redirects rules state) first).outcomes ++ os)
        (sym same.outcomes);
    acts = whole.acts ∙ ap (λ (acts : List LegAct). (effect_from rules (with_redirects rules state) first).acts
        ++ map (act_behind (length first)) acts) (sym same.acts);
    ran = λ small. whole.ran ∙ ap (run_then (run_result_from rules (with_redirects rules state) first))
        (sym (same.ran (subst (Each (λ r. r.external.number < 2 ^ 16))
        (ap (λ (r : RunResult). r.bindings) whole.ran) small)));
    left = subst (λ (t : ℕ). AreAlike rules.timers t
        (next_state rules (with_redirects rules state) (first ++ rest)).list
        (next_state rules (with_redirects rules saved) rest).list) (sym (clock_on state.clock first rest))
        (subst (λ (s : State). AreAlike rules.timers (last_clock left.clock rest) s.list
        (next_state rules (with_redirects rules saved) rest).list) (sym whole.left) same.left);
  }

pub saved_runs_go_on : PacketsCarryNumbers → SavedRunsGoOn
saved_runs_go_on carry rules keeps state saved takes first rest order =
    goes_on_saved carry rules keeps state saved takes first rest order

-- The log with which a run begins at a state: its entries are those of the live bindings, and their numbers rise.
use Rattle.std.proofs.lemmas.{Grind.common_steps, Bool.Decides.nat_tests, Bool.{and_parts, true≢false}}
use Rattle.std.proofs.Common.{◌≡◌, ◌≢◌, ℕ, suc, ◌+◌, ◌≤◌, ◌^◌, inl, inr, ◌==◌, Bool, true, false, not, ◌||◌, cond, List, [], ◌∷◌, ◌++◌, length, map, filter, Option, Some, None, refl, sym, ◌∙◌, ap, subst, arith, append-nil}
use Rattle.std.specs.{Prelude.{nat_le, nat_lt}, List.{list_any, Sorted.{IsPermutation, IsSortedByKey}}, Ordering.nat_cmp}
use Rattle.std.proofs.lemmas.List.{length-map, Sorted.{IsPermutation-append_left, IsPermutation-append_right, IsPermutation-filter_both, IsPermutation-map, IsPermutation-middle, IsPermutation-refl, IsPermutation-sym, IsPermutation-trans}}
use Rattle.napt_config.specs.Rules.{AreTimers, Rules, RulesInvariant, pair_of}
use Rattle.napt_rules.specs.{declared.Row.Row, Prelude.{Binding, Each, State, TakesState, Timers, is_live, opening, purge, redirect_binding, row, same_endpoint, same_protocol, with_live_flows, with_redirects}}
use Rattle.napt_rules.proofs.Lists.{filter_all}
use Rattle.napt_laws.proofs.{Endpoints.{end_is, protocol_is}, Lists.each_weaker}
use Rattle.napt_binding.{specs.Ends.{end_of, is_before}, proofs.FirstEnds.{end_without_dead, ends_are_first}}
use Rattle.napt_table.specs.{declared.TimedRow.TimedRow, TimedRows.timed_row}
use Rattle.napt_account.specs.declared.{account.Account.Account, log.{Entry.Entry, LogEntry.LogEntry}}
use Rattle.napt_account.specs.{Attribution.has_ends, Log.{LogModel, first_entry, numbered_from, shares, unused_entry}, LogBuilders.IsStart, LogParts.{IsNumbered, NumbersAscend, is_open}}
use Rattle.napt_account.specs.{LogStarts.{NumbersDiffer, SavedLogStateModel, are_accounts, are_apart, accounted, continued_entries, empty_state, has_entry, has_redirect, in_order_of_number, StartedLogsAreOfTheirStates, StartedLogsBeginAnew, is_account, is_saved_log_state, log_started, most_saved, new_entries, no_saved_log, placed_by_number, resumed_end, resumed_entries, resumed_entry, unlisted_rows}, OpenEntries.{Has, entry_key, external_eq}, ResumedLogRuns.{IsLogOf, timed_by}}
use Rattle.napt_account.proofs.EndOrderings.{Along, Differ, differ_filter, each_has, filter_has, has_each, has_filter, has_left, has_parts}
use Rattle.napt_account.proofs.{Entries.shares_itself, DistinctKeys.{keyed_along, live_keyed, log_keyed, share, share_flip}, Lists.{each_mapped, map_joined, map_twice}, LiveRows.{is_loose, live_all, live_of}, EntryNumbers.{differ_moved, within_from}, OpenEntries.{any_has, external_itself, key_shares}, AscendingNumbers.{rises_from, sorted_rising}}
use Rattle.napt_account.proofs.SortedLists.{has_back, has_moved}

-- IN ORDER OF NUMBER

placed_moves : (l : LogEntry) (xs : List LogEntry) → IsPermutation (placed_by_number l xs) (l ∷ xs)
placed_moves l [] = IsPermutation-refl (l ∷ [])
placed_moves l (y ∷ ys) = elim (nat_lt l.number y.number) as (λ v. IsPermutation (cond v (l ∷ y ∷ ys)
    (y ∷ placed_by_number l ys)) (l ∷ y ∷ ys)) [
      | true ↦ IsPermutation-refl (l ∷ y ∷ ys)
      | false ↦ IsPermutation-trans _ _ _
          (IsPermutation-append_right (y ∷ []) (placed_by_number l ys) (l ∷ ys) (placed_moves l ys))
          (IsPermutation-middle (y ∷ []) l ys)
    ]

pub order_moves : (xs : List LogEntry) → IsPermutation (in_order_of_number xs) xs
order_moves [] = IsPermutation-refl []
order_moves (l ∷ xs) = IsPermutation-trans _ _ _ (placed_moves l (in_order_of_number xs))
    (IsPermutation-append_right (l ∷ []) (in_order_of_number xs) xs (order_moves xs))

rises_placed : (n : ℕ) (l : LogEntry) (xs : List LogEntry) → NumbersAscend n xs → Each (λ y. l.number ≢ y.number) xs →
    n ≤ l.number → NumbersAscend n (placed_by_number l xs)
rises_placed n l [] rises differ le = (le, tt)
rises_placed n l (y ∷ ys) rises differ le = elim (nat_lt l.number y.number) as (λ v. nat_lt l.number y.number ≡ v →
    NumbersAscend n (cond v (l ∷ y ∷ ys) (y ∷ placed_by_number l ys))) [
      | true ↦ λ lt. (le, ((grind (arith, nat_tests, lt)), rises.1))
      | false ↦ λ ge. (
        rises.0,
        rises_placed (y.number + 1) l ys rises.1 differ.1
            (let apart = differ.0 in grind (arith, common_steps, nat_tests, ge, apart)),
      )
    ] refl

pub order_rises : (n : ℕ) (xs : List LogEntry) → Differ xs → Each (λ l. n ≤ l.number) xs →
    NumbersAscend n (in_order_of_number xs)
order_rises n [] differ above = tt
order_rises n (l ∷ xs) differ above = rises_placed n l (in_order_of_number xs) (order_rises n xs differ.1 above.1)
    (has_each (λ y. l.number ≢ y.number) (in_order_of_number xs) (λ y there.
    each_has (λ z. l.number ≢ z.number) xs y differ.0 (has_moved (in_order_of_number xs) xs (order_moves xs) y there)))
    above.0

pub to_differ : (xs : List LogEntry) → NumbersDiffer xs → Differ xs
to_differ [] h = tt
to_differ (x ∷ xs) h = (h.0, to_differ xs h.1)

pub of_differ : (xs : List LogEntry) → Differ xs → NumbersDiffer xs
of_differ [] h = tt
of_differ (x ∷ xs) h = (h.0, of_differ xs h.1)

above_none : (xs : List LogEntry) → Each (λ l. 0 ≤ l.number) xs
above_none [] = tt
above_none (x ∷ xs) = (omega arith, above_none xs)

-- Sorted by number, they are in order.
pub order_is : (xs ys : List LogEntry) → IsPermutation xs ys → NumbersDiffer xs →
    IsSortedByKey (λ l. l.number) nat_cmp ys → ys ≡ in_order_of_number xs
order_is xs ys moves differ sorted = sorted_rising 0 ys (in_order_of_number xs) sorted
    (differ_moved xs ys moves (to_differ xs differ)) (order_rises 0 xs (to_differ xs differ) (above_none xs))
    (λ l h. has_back (in_order_of_number xs) xs (order_moves xs) l (has_back xs ys moves l h))
    (λ l h. has_moved xs ys moves l (has_moved (in_order_of_number xs) xs (order_moves xs) l h))

-- ACCOUNTS THAT A STATE MAY KEEP

abbrev pub Kept : Type 0
Kept = Binding × Account

abbrev AreApart : Kept → Kept → Type 0
AreApart earlier later = are_apart later earlier ≡ true

module _ (made clock : ℕ) where
  record Keeps (before ks : List Kept) : Type 0 where
    pub each : Each (λ k. is_account made clock k.1 ≡ true) ks
    pub apart : Along AreApart ks
    pub those : Each (λ k. Each (λ o. are_apart k o ≡ true) before) ks

  none_any : (k : Kept) (before : List Kept) → not (list_any (λ o. not (are_apart k o)) before) ≡ true →
      Each (λ o. are_apart k o ≡ true) before
  none_any k [] h = tt
  none_any k (o ∷ before) h = elim (are_apart k o) as (λ v. are_apart k o ≡ v →
      not (not v || list_any (λ o. not (are_apart k o)) before) ≡ true → Each (λ o. are_apart k o ≡ true) (o ∷ before)) [
        | true ↦ λ e g. (e, none_any k before g)
        | false ↦ λ e g. cc
      ] refl h

  each_end : {X : Type 0} (P : X → Type 0) (xs : List X) (x : X) → Each P (xs ++ x ∷ []) → P x
  each_end P [] x h = h.0
  each_end P (y ∷ xs) x h = each_end P xs x h.1

  each_front : {X : Type 0} (P : X → Type 0) (xs : List X) (x : X) → Each P (xs ++ x ∷ []) → Each P xs
  each_front P [] x h = tt
  each_front P (y ∷ xs) x h = (h.0, each_front P xs x h.1)

  keeps_all : (before ks : List Kept) → are_accounts made clock before ks ≡ true → Keeps before ks
  keeps_all before [] h = record { each = tt; apart = tt; those = tt }
  keeps_all before (k ∷ ks) h =
      let p = and_parts (is_account made clock k.1) _ h in
      let q = and_parts (not (list_any (λ o. not (are_apart k o)) before)) _ p.1 in
      let rest = keeps_all (before ++ k ∷ []) ks q.1 in
      record {
        each = (p.0, rest.each);
        apart = (
          each_weaker (λ j. Each (λ o. are_apart j o ≡ true) (before ++ k ∷ [])) (λ j. AreApart k j)
              (λ j e. each_end (λ o. are_apart j o ≡ true) before k e) ks rest.those,
          rest.apart,
        );
        those = (
          none_any k before q.0,
          each_weaker (λ j. Each (λ o. are_apart j o ≡ true) (before ++ k ∷ []))
              (λ j. Each (λ o. are_apart j o ≡ true) before)
              (λ j e. each_front (λ o. are_apart j o ≡ true) before k e) ks rest.those,
        );
      }

apart_numbers : (j k : Kept) → are_apart j k ≡ true → k.1.number ≢ j.1.number
apart_numbers j k h = λ e. grind (arith, common_steps, nat_tests, h, e)

apart_keys : (j k : Kept) → are_apart j k ≡ true → share k.0.row j.0.row ≡ false
apart_keys j k h = share_flip k.0.row j.0.row ∙ not_or (j.1.number == k.1.number) (share j.0.row k.0.row) h
  where
    not_or : (a b : Bool) → not (a || b) ≡ true → b ≡ false
    not_or true b h = cc
    not_or false true h = cc
    not_or false false h = refl

-- The images of elements that are apart are apart.
pub along_mapped : {X Y : Type 0} (R : X → X → Type 0) (S : Y → Y → Type 0) (f : X → Y) →
    ((x y : X) → R x y → S (f x) (f y)) → (xs : List X) → Along R xs → Along S (map f xs)
along_mapped R S f g [] h = tt
along_mapped R S f g (x ∷ xs) h = (
  each_mapped (S (f x)) f xs (each_weaker (R x) (λ y. S (f x) (f y)) (λ y r. g x y r) xs h.0),
  along_mapped R S f g xs h.1,
)

pub along_filter : {X : Type 0} (R : X → X → Type 0) (p : X → Bool) (xs : List X) → Along R xs → Along R (filter p xs)
along_filter R p [] h = tt
along_filter R p (x ∷ xs) h = elim (p x) as (λ v. Along R (cond v (x ∷ filter p xs) (filter p xs))) [
  | true ↦ (
    has_each (R x) (filter p xs) (λ y there. each_has (R x) xs y h.0 (filter_has p xs y there).0),
    along_filter R p xs h.1,
  )
  | false ↦ along_filter R p xs h.1
]

pub has_mapped : {X Y : Type 0} (f : X → Y) (xs : List X) (x : X) → Has xs x → Has (map f xs) (f x)
has_mapped f [] x h = absurd h
has_mapped f (y ∷ xs) x (inl is) = inl (ap f is)
has_mapped f (y ∷ xs) x (inr h) = inr (has_mapped f xs x h)

pub record IsSeen {X Y : Type 0} (f : X → Y) (xs : List X) (y : Y) : Type 0 where
  pub x : X
  pub has : Has xs x
  pub is : f x ≡ y

pub mapped_has : {X Y : Type 0} (f : X → Y) (xs : List X) (y : Y) → Has (map f xs) y → IsSeen f xs y
mapped_has f [] y h = absurd h
mapped_has f (x ∷ xs) y (inl is) = record { x = x; has = inl refl; is = is }
mapped_has f (x ∷ xs) y (inr h) = let r = mapped_has f xs y h in record { x = r.x; has = inr r.has; is = r.is }

pub record IsFound {X : Type 0} (p : X → Bool) (xs : List X) : Type 0 where
  pub x : X
  pub has : Has xs x
  pub is : p x ≡ true

pub any_is : {X : Type 0} (p : X → Bool) (xs : List X) → list_any p xs ≡ true → IsFound p xs
any_is p [] h = cc
any_is p (x ∷ xs) h = elim (p x) as (λ v. p x ≡ v → (v || list_any p xs) ≡ true → IsFound p (x ∷ xs)) [
  | true ↦ λ e g. record { x = x; has = inl refl; is = e }
  | false ↦ λ e g. let r = any_is p xs g in record { x = r.x; has = inr r.has; is = r.is }
] refl h

pub has_behind : {X : Type 0} (xs ys : List X) (x : X) → Has ys x → Has (xs ++ ys) x
has_behind [] ys x h = h
has_behind (y ∷ xs) ys x h = inr (has_behind xs ys x h)

-- LISTS WITH THE SAME ELEMENTS

record IsSplit {X : Type 0} (xs : List X) (x : X) : Type 0 where
  pub front : List X
  pub back : List X
  pub is : xs ≡ front ++ x ∷ back

split_at : {X : Type 0} (xs : List X) (x : X) → Has xs x → IsSplit xs x
split_at [] x h = absurd h
split_at (y ∷ xs) x (inl is) = record { front = []; back = xs; is = ap (λ z. z ∷ xs) is }
split_at (y ∷ xs) x (inr h) = let s = split_at xs x h in
    record { front = y ∷ s.front; back = s.back; is = ap (λ (l : List _). y ∷ l) s.is }

module _ {X : Type 0} (R : X → X → Type 0) (flip : (x y : X) → R x y → R y x) (never : (x : X) → R x x → ⊥) where
  along_without : (front back : List X) (x : X) → Along R (front ++ x ∷ back) → Along R (front ++ back)
  along_without [] back x h = h.1
  along_without (y ∷ front) back x h = (
    has_each (R y) (front ++ back) (λ z there. elim (has_parts front back z there) [
      | inl here ↦ each_has (R y) (front ++ x ∷ back) z h.0 (has_left front (x ∷ back) z here)
      | inr behind ↦ each_has (R y) (front ++ x ∷ back) z h.0 (has_behind front (x ∷ back) z (inr behind))
    ]),
    along_without front back x h.1,
  )

  -- An element is none of the others.
  others_differ : (front back : List X) (x : X) → Along R (front ++ x ∷ back) → (z : X) → Has (front ++ back) z → R x z
  others_differ [] back x h z there = each_has (R x) back z h.0 there
  others_differ (y ∷ front) back x h z (inl is) = flip z x (subst (λ w. R w x) is
      (each_has (R y) (front ++ x ∷ back) x h.0 (has_behind front (x ∷ back) x (inl refl))))
  others_differ (y ∷ front) back x h z (inr there) = others_differ front back x h.1 z there

  pub same_moves : (xs ys : List X) → Along R xs → Along R ys → ((x : X) → Has xs x → Has ys x) →
      ((x : X) → Has ys x → Has xs x) → IsPermutation xs ys
  same_moves [] [] s t f g = IsPermutation-refl []
  same_moves [] (y ∷ ys) s t f g = absurd (g y (inl refl))
  same_moves (x ∷ xs) ys s t f g =
      let p = split_at ys x (f x (inl refl)) in
      let t2 : Along R (p.front ++ x ∷ p.back) = subst (Along R) p.is t in
      let into : (z : X) → Has xs z → Has (p.front ++ p.back) z = λ z there.
      elim (has_parts p.front (x ∷ p.back) z (subst (λ (l : List X). Has l z) p.is (f z (inr there)))) [
        | inl here ↦ has_left p.front p.back z here
        | inr also ↦ elim also [
          | inl is ↦ absurd (never x (subst (R x) (sym is) (each_has (R x) xs z s.0 there)))
          | inr behind ↦ has_behind p.front p.back z behind
        ]
      ] in
      let back : (z : X) → Has (p.front ++ p.back) z → Has xs z = λ z there.
      let all : Has ys z = subst (λ (l : List X). Has l z) (sym p.is) (elim (has_parts p.front p.back z there) [
        | inl here ↦ has_left p.front (x ∷ p.back) z here
        | inr behind ↦ has_behind p.front (x ∷ p.back) z (inr behind)
      ]) in
      elim (g z all) [
        | inl is ↦ absurd (never x (subst (R x) (sym is) (others_differ p.front p.back x t2 z there)))
        | inr here ↦ here
      ] in
      subst (IsPermutation (x ∷ xs)) (sym p.is) (IsPermutation-trans _ _ _
      (IsPermutation-append_right (x ∷ []) xs (p.front ++ p.back)
      (same_moves xs (p.front ++ p.back) s.1 (along_without p.front p.back x t2) into back))
      (IsPermutation-sym _ _ (IsPermutation-middle p.front x p.back)))

-- In a list whose elements are apart, each is the only one that is not apart from itself.
pub only_one : {X : Type 0} (R : X → X → Type 0) (xs : List X) → Along R xs → (x y : X) → Has xs x → Has xs y →
    (R x y → ⊥) → (R y x → ⊥) → x ≡ y
only_one R [] h x y p q f g = absurd p
only_one R (z ∷ xs) h x y (inl a) (inl b) f g = sym a ∙ b
only_one R (z ∷ xs) h x y (inl a) (inr b) f g = absurd (f (subst (λ w. R w y) a (each_has (R z) xs y h.0 b)))
only_one R (z ∷ xs) h x y (inr a) (inl b) f g = absurd (g (subst (λ w. R w x) b (each_has (R z) xs x h.0 a)))
only_one R (z ∷ xs) h x y (inr a) (inr b) f g = only_one R xs h.1 x y a b f g

-- THE BINDINGS OF A STATE

accounted_has : (list : List Binding) (accounts : List (Option Account)) (k : Kept) → Has (accounted list accounts) k →
    Has list k.0
accounted_has [] accounts k h = absurd h
accounted_has (b ∷ list) [] k h = absurd h
accounted_has (b ∷ list) (None ∷ accounts) k h = inr (accounted_has list accounts k h)
accounted_has (b ∷ list) (Some a ∷ accounts) k (inl is) = inl (ap (λ (z : Kept). z.0) is)
accounted_has (b ∷ list) (Some a ∷ accounts) k (inr h) = inr (accounted_has list accounts k h)

-- A redirect with the endpoints of another is that one.
redirect_is : (r s : Row) → r.fixed ≡ true → s.fixed ≡ true → has_ends r.protocol r.inside r.external s ≡ true → s ≡ r
redirect_is r s rf sf h =
    let p = and_parts (same_protocol r.protocol s.protocol) _ h in
    let q = and_parts (same_endpoint r.inside s.inside) (same_endpoint r.external s.external) p.1 in
    let protocol = sym (protocol_is r.protocol s.protocol p.0) in
    let inside = sym (end_is r.inside s.inside q.0) in
    let external = sym (end_is r.external s.external q.1) in
    let fixed = sf ∙ sym rf in
    λ i. record { protocol = protocol i; inside = inside i; external = external i; fixed = fixed i }

module _ (rules : Rules) (t : AreTimers rules.timers) (state : State) where
  abbrev timers : Timers
  timers = rules.timers

  abbrev now : ℕ
  now = state.clock

  abbrev pub live : List TimedRow
  live = map (timed_row timers) (purge timers now (with_redirects rules state).list)

  abbrev pub openings : List TimedRow
  openings = map (timed_row timers) (opening rules)

  abbrev pub dynamics : List TimedRow
  dynamics = map (timed_row timers) (live_of timers now state.list)

  -- A redirect whose entry does not end at the clock is one of the configuration.
  fixed_up : (r : Row) → r.fixed ≡ true → is_before now (cond (has_redirect rules r) None (Some now)) ≡ true →
      (let timed : TimedRow = record { row = r; end = cond (has_redirect rules r) None (Some now) } in
      Has openings timed)
  fixed_up r fixed = elim (has_redirect rules r) as (λ v. has_redirect rules r ≡ v →
      is_before now (cond v None (Some now)) ≡ true →
      (let timed : TimedRow = record { row = r; end = cond v None (Some now) } in Has openings timed)) [
        | true ↦ λ e g.
            let f = any_is (λ b. has_ends r.protocol r.inside r.external (row b)) (opening rules) e in
            let o = mapped_has (redirect_binding (pair_of rules)) rules.redirects f.x f.has in
            let is_fixed : f.x.row.fixed ≡ true = ap (λ (b : Binding). b.row.fixed) (sym o.is) in
            let end : end_of timers f.x ≡ None = ap (end_of timers) (sym o.is) in
            let same : f.x.row ≡ r = redirect_is r f.x.row fixed is_fixed f.is in
            subst (Has openings) (λ i. record { row = same i; end = end i })
            (has_mapped (timed_row timers) (opening rules) f.x f.has)
        | false ↦ λ e g. absurd (never now g)
      ] refl
    where
      never : (n : ℕ) → nat_lt n n ≡ true → ⊥
      never n h = grind (arith, nat_tests)

  -- Any other binding that does not end by the clock is live.
  dynamic_up : (b : Binding) → Has state.list b → b.row.fixed ≡ false → is_before now (end_of timers b) ≡ true →
      Has dynamics (timed_row timers b)
  dynamic_up b h fixed opens =
      let alive : is_live timers now b ≡ true = ends_are_first timers t now b ∙ opens in
      let same : end_of timers (with_live_flows timers now b) ≡ end_of timers b =
      end_without_dead timers t now b alive in
      subst (Has dynamics) (λ i. record { row = b.row; end = same i })
      (has_mapped (timed_row timers) (live_of timers now state.list) (with_live_flows timers now b)
      (has_mapped (with_live_flows timers now) (filter (is_live timers now) (filter is_loose state.list)) b
      (has_filter (is_live timers now) (filter is_loose state.list) b
      (has_filter is_loose state.list b h (ap not fixed)) alive)))

  -- An entry that goes on is that of a live binding.
  row_up : (k : Kept) → Has state.list k.0 → is_open now (resumed_entry rules now k) ≡ true →
      Has live (timed_by (resumed_entry rules now k))
  row_up k h opens = subst (λ (l : List TimedRow). Has l (timed_by (resumed_entry rules now k)))
      (sym (live_all rules state))
      (by_fixed k.0.row.fixed refl)
    where
      by_fixed : (v : Bool) → k.0.row.fixed ≡ v → Has (openings ++ dynamics) (timed_by (resumed_entry rules now k))
      by_fixed true e =
          let end : resumed_end rules now k.0 ≡ cond (has_redirect rules k.0.row) None (Some now) =
          ap (λ v. cond v (cond (has_redirect rules k.0.row) None (Some now)) (end_of timers k.0)) e in
          has_left openings dynamics _ (subst (Has openings) (λ i. record { row = k.0.row; end = sym end i })
          (fixed_up k.0.row e (ap (is_before now) (sym end) ∙ opens)))
      by_fixed false e =
          let end : resumed_end rules now k.0 ≡ end_of timers k.0 =
          ap (λ v. cond v (cond (has_redirect rules k.0.row) None (Some now)) (end_of timers k.0)) e in
          has_behind openings dynamics _ (subst (Has dynamics) (λ i. record { row = k.0.row; end = sym end i })
          (dynamic_up k.0 h e (ap (is_before now) (sym end) ∙ opens)))

  -- A live binding does not end at the clock.
  live_opens : (timed : TimedRow) → Has live timed → is_before now timed.end ≡ true
  live_opens timed h = elim (has_parts openings dynamics timed
      (subst (λ (l : List TimedRow). Has l timed) (live_all rules state) h)) [
        | inl here ↦
            let b = mapped_has (timed_row timers) (opening rules) timed here in
            let o = mapped_has (redirect_binding (pair_of rules)) rules.redirects b.x b.has in
            subst (λ (u : TimedRow). is_before now u.end ≡ true) b.is
            (subst (λ (x : Binding). is_before now (end_of timers x) ≡ true) o.is refl)
        | inr behind ↦
            let b = mapped_has (timed_row timers) (live_of timers now state.list) timed behind in
            let x = mapped_has (with_live_flows timers now) (filter (is_live timers now) (filter is_loose state.list))
            b.x b.has in
            let alive = (filter_has (is_live timers now) (filter is_loose state.list) x.x x.has).1 in
            subst (λ (u : TimedRow). is_before now u.end ≡ true) b.is
            (subst (λ (y : Binding). is_before now (end_of timers y) ≡ true) x.is
            (ap (is_before now) (end_without_dead timers t now x.x alive)
            ∙ (sym (ends_are_first timers t now x.x) ∙ alive)))
      ]

-- THE ENTRIES OF THE LOG THAT BEGINS

module _ (rules : Rules) (keeps : RulesInvariant rules) (state : State) (takes : TakesState rules state)
    (saved : SavedLogStateModel) (valid : is_saved_log_state state saved ≡ true) where
  abbrev clock : ℕ
  clock = state.clock

  abbrev alive : List TimedRow
  alive = live rules keeps.timers state

  abbrev ks : List Kept
  ks = accounted state.list saved.accounts

  abbrev entries : List LogEntry
  entries = resumed_entries rules state saved

  abbrev opens : List LogEntry
  opens = filter (is_open clock) entries

  abbrev continued : List LogEntry
  continued = continued_entries rules state saved

  abbrev others : List TimedRow
  others = unlisted_rows rules state continued

  abbrev new : List LogEntry
  new = new_entries rules state saved

  abbrev log : LogModel
  log = log_started rules state saved

  few : saved.made ≤ most_saved
  few = let p = (and_parts (nat_le saved.made most_saved) (are_accounts saved.made state.clock [] ks) valid).0 in
      grind (arith, nat_tests)

  kept : Keeps saved.made clock [] ks
  kept = keeps_all saved.made clock [] ks
      (and_parts (nat_le saved.made most_saved) (are_accounts saved.made state.clock [] ks) valid).1

  entries_differ : Differ entries
  entries_differ = along_mapped AreApart (λ x y. x.number ≢ y.number) (resumed_entry rules clock)
      (λ k j h. apart_numbers j k h) ks kept.apart

  pub entries_numbers : NumbersDiffer entries
  entries_numbers = of_differ entries entries_differ

  opens_apart : Along (λ t u. share t.row u.row ≡ false) (map timed_by opens)
  opens_apart = along_mapped (λ x y. share x.entry.binding y.entry.binding ≡ false) (λ t u. share t.row u.row ≡ false)
      timed_by (λ x y h. h) opens
      (along_filter (λ x y. share x.entry.binding y.entry.binding ≡ false) (is_open clock) entries
      (along_mapped AreApart (λ x y. share x.entry.binding y.entry.binding ≡ false) (resumed_entry rules clock)
      (λ k j h. apart_keys j k h) ks kept.apart))

  alive_apart : Along (λ t u. share t.row u.row ≡ false) alive
  alive_apart = keyed_along (λ (t : TimedRow). t.row) alive (live_keyed rules keeps state takes)

  -- The values of an entry that are those of its account.
  each_account : (P : LogEntry → Type 0) → ((k : Kept) → is_account saved.made clock k.1 ≡ true →
      P (resumed_entry rules clock k)) → Each P entries
  each_account P f = each_mapped P (resumed_entry rules clock) ks
      (each_weaker (λ k. is_account saved.made clock k.1 ≡ true) (λ k. P (resumed_entry rules clock k)) f ks kept.each)

  each_continued : (P : LogEntry → Type 0) → Each P entries → Each P continued
  each_continued P h = has_each P continued (λ n there. each_has P entries n h
      (filter_has (is_open clock) entries n (has_moved continued opens (order_moves opens) n there)).0)

  -- An entry that goes on is that of a live binding.
  opens_live : (n : LogEntry) → Has opens n → Has alive (timed_by n)
  opens_live n h =
      let p = filter_has (is_open clock) entries n h in
      let k = mapped_has (resumed_entry rules clock) ks n p.0 in
      subst (λ (m : LogEntry). Has alive (timed_by m)) k.is (row_up rules keeps.timers state k.x
      (accounted_has state.list saved.accounts k.x k.has)
      (subst (λ (m : LogEntry). is_open clock m ≡ true) (sym k.is) p.1))

  listed_is : (timed : TimedRow) → Has (filter (has_entry continued) alive) timed → Has (map timed_by opens) timed
  listed_is timed h =
      let p = filter_has (has_entry continued) alive timed h in
      let f = any_is (λ n. shares timed.row n.entry.binding) continued p.1 in
      let there : Has opens f.x = has_moved continued opens (order_moves opens) f.x f.has in
      let same : share timed.row f.x.entry.binding ≡ true =
      ap (external_eq (entry_key timed.row)) (sym (key_shares timed.row f.x.entry.binding f.is))
      ∙ external_itself (entry_key timed.row) in
      let is : timed_by f.x ≡ timed = only_one (λ t u. share t.row u.row ≡ false) alive alive_apart (timed_by f.x) timed
      (opens_live f.x there) p.0
      (λ apart. true≢false (sym same ∙ (share_flip timed.row f.x.entry.binding ∙ apart)))
      (λ apart. true≢false (sym same ∙ apart)) in
      subst (Has (map timed_by opens)) is (has_mapped timed_by opens f.x there)

  is_listed : (timed : TimedRow) → Has (map timed_by opens) timed → Has (filter (has_entry continued) alive) timed
  is_listed timed h =
      let n = mapped_has timed_by opens timed h in
      has_filter (has_entry continued) alive timed
      (subst (Has alive) n.is (opens_live n.x n.has))
      (subst (λ (u : TimedRow). has_entry continued u ≡ true) n.is
      (any_has (λ m. shares n.x.entry.binding m.entry.binding) continued n.x
      (has_back continued opens (order_moves opens) n.x n.has) (shares_itself n.x.entry.binding)))

  new_rows : (n : ℕ) (ts : List TimedRow) →
      map timed_by (numbered_from n (map (λ timed. unused_entry timed.row clock timed.end) ts)) ≡ ts
  new_rows n [] = refl
  new_rows n (timed ∷ ts) = ap (λ (l : List TimedRow). timed ∷ l) (new_rows (n + 1) ts)

  rows : IsPermutation (map timed_by (continued ++ new)) alive
  rows =
      let listed : List TimedRow = filter (has_entry continued) alive in
      let moves : IsPermutation (map timed_by opens) listed =
      same_moves (λ t u. share t.row u.row ≡ false) (λ t u h. share_flip u.row t.row ∙ h)
      (λ t h. true≢false (sym (external_itself (entry_key t.row)) ∙ h)) (map timed_by opens) listed opens_apart
      (along_filter (λ t u. share t.row u.row ≡ false) (has_entry continued) alive alive_apart) is_listed listed_is in
      subst (λ (l : List TimedRow). IsPermutation l alive) (sym (map_joined timed_by continued new
      ∙ ap (λ (l : List TimedRow). map timed_by continued ++ l) (new_rows (saved.made + 1) others)))
      (IsPermutation-trans _ _ _ (IsPermutation-append_left others (map timed_by continued) (map timed_by opens)
      (IsPermutation-map timed_by continued opens (order_moves opens)))
      (IsPermutation-trans _ _ _ (IsPermutation-append_left others (map timed_by opens) listed moves)
      (IsPermutation-sym alive (listed ++ others)
      (IsPermutation-filter_both (has_entry continued) (λ timed. not (has_entry continued timed)) (λ timed. refl)
      alive))))

  all_open : Each (λ n. is_open clock n ≡ true) (continued ++ new)
  all_open = has_each (λ n. is_open clock n ≡ true) (continued ++ new) (λ n h.
      live_opens rules keeps.timers state (timed_by n)
      (has_moved (map timed_by (continued ++ new)) alive rows (timed_by n)
      (has_mapped timed_by (continued ++ new) n h)))

  each_joined : (P : LogEntry → Type 0) (xs ys : List LogEntry) → Each P xs → Each P ys → Each P (xs ++ ys)
  each_joined P [] ys h g = g
  each_joined P (x ∷ xs) ys h g = (h.0, each_joined P xs ys h.1 g)

  each_new : (P : LogEntry → Type 0) → ((n : ℕ) (timed : TimedRow) → (let l : LogEntry =
      record { number = n; entry = unused_entry timed.row clock timed.end } in P l)) → (n : ℕ) (ts : List TimedRow) →
      Each P (numbered_from n (map (λ timed. unused_entry timed.row clock timed.end) ts))
  each_new P f n [] = tt
  each_new P f n (timed ∷ ts) = (f n timed, each_new P f (n + 1) ts)

  new_many : (n : ℕ) (es : List Entry) → length (numbered_from n es) ≡ length es
  new_many n [] = refl
  new_many n (e ∷ es) = ap suc (new_many (n + 1) es)

  all_numbered : IsNumbered log
  all_numbered =
      let es : List Entry = map (λ timed. unused_entry timed.row clock timed.end) others in
      each_joined (λ n. n.number ≤ log.made) continued new
      (each_continued (λ n. n.number ≤ log.made) (each_account (λ n. n.number ≤ log.made) (λ k h.
      let within : k.1.number ≤ saved.made = number_within k.1 h in omega (arith, within))))
      (within_from (saved.made + 1) log.made es
      (let many = new_many (saved.made + 1) es in omega (arith, many)))
    where
      number_within : (a : Account) → is_account saved.made clock a ≡ true → a.number ≤ saved.made
      number_within a h = grind (arith, common_steps, nat_tests, h)

  rises_joined : (n m : ℕ) (xs ys : List LogEntry) → NumbersAscend n xs → Each (λ l. l.number ≤ m) xs →
      NumbersAscend (m + 1) ys →
      n ≤ m + 1 → NumbersAscend n (xs ++ ys)
  rises_joined n m [] [] h e g le = tt
  rises_joined n m [] (y ∷ ys) h e g le = ((let first = g.0 in omega (arith, first, le)), g.1)
  rises_joined n m (x ∷ xs) ys h e g le = (
    h.0,
    rises_joined (x.number + 1) m xs ys h.1 e.1 g (let most = e.0 in omega (arith, most)),
  )

  pub all_rise : NumbersAscend 1 log.entries
  all_rise = rises_joined 1 saved.made continued new
      (order_rises 1 opens (differ_filter (is_open clock) entries entries_differ)
      (has_each (λ n. 1 ≤ n.number) opens (λ n h. each_has (λ n. 1 ≤ n.number) entries n
      (each_account (λ n. 1 ≤ n.number) (λ k h. first_number k.1 h)) (filter_has (is_open clock) entries n h).0)))
      (each_continued (λ n. n.number ≤ saved.made) (each_account (λ n. n.number ≤ saved.made)
      (λ k h. last_number k.1 h)))
      (rises_from (saved.made + 1) (map (λ timed. unused_entry timed.row clock timed.end) others)) (omega arith)
    where
      first_number : (a : Account) → is_account saved.made clock a ≡ true → 1 ≤ a.number
      first_number a h = grind (arith, common_steps, nat_tests, h)

      last_number : (a : Account) → is_account saved.made clock a ≡ true → a.number ≤ saved.made
      last_number a h = grind (arith, common_steps, nat_tests, h)

  pub is_of : IsLogOf rules (with_redirects rules state) log
  is_of = record {
    kept = (let same = filter_all (is_open clock) (continued ++ new) all_open in
        λ i. record { made = log.made; entries = same i; shortages = [] });
    numbered = all_numbered;
    made = each_joined (λ n. n.entry.made ≤ clock) continued new
        (each_continued (λ n. n.entry.made ≤ clock) (each_account (λ n. n.entry.made ≤ clock) (λ k h. made_then k.1 h)))
        (each_new (λ n. n.entry.made ≤ clock) (λ n timed. omega arith) (saved.made + 1) others);
    rows = rows;
  }
    where
      made_then : (a : Account) → is_account saved.made clock a ≡ true → a.made ≤ clock
      made_then a h = grind (arith, common_steps, nat_tests, h)

  -- A builder can therefore begin with it.
  pub is_start : length alive ≤ 2 ^ 61 → IsStart clock log
  is_start most = record {
    kept = is_of.kept;
    numbered = all_numbered;
    rises = all_rise;
    keyed = log_keyed rules keeps state takes log is_of;
    made = (let first = few in
        let many = new_many (saved.made + 1) (map (λ timed. unused_entry timed.row clock timed.end) others) in
        let same = length-map others (λ timed. unused_entry timed.row clock timed.end) in
        let fewer = filter_fewer (λ timed. not (has_entry continued timed)) alive in
        omega (arith, first, many, same, fewer, most));
    packets = each_joined (λ n. (n.entry.sent ≤ 2 ^ 61) × (n.entry.received ≤ 2 ^ 61)) continued new
        (each_continued (λ n. (n.entry.sent ≤ 2 ^ 61) × (n.entry.received ≤ 2 ^ 61))
        (each_account (λ n. (n.entry.sent ≤ 2 ^ 61) × (n.entry.received ≤ 2 ^ 61)) (λ k h. few_packets k.1 h)))
        (each_new (λ n. (n.entry.sent ≤ 2 ^ 61) × (n.entry.received ≤ 2 ^ 61))
        (λ n timed. (omega arith, omega arith)) (saved.made + 1) others);
  }
    where
      few_packets : (a : Account) → is_account saved.made clock a ≡ true → (a.sent ≤ 2 ^ 61) × (a.received ≤ 2 ^ 61)
      few_packets a h = (grind (arith, common_steps, nat_tests, h), grind (arith, common_steps, nat_tests, h))

      filter_fewer : (p : TimedRow → Bool) (xs : List TimedRow) → length (filter p xs) ≤ length xs
      filter_fewer p [] = omega arith
      filter_fewer p (x ∷ xs) = let rest = filter_fewer p xs in elim (p x) as (λ v.
          length (cond v (x ∷ filter p xs) (filter p xs)) ≤ length (x ∷ xs))
          [ true ↦ omega (arith, rest) | false ↦ omega (arith, rest) ]

pub states_have_logs : StartedLogsAreOfTheirStates
states_have_logs rules keeps state takes saved valid =
    (is_of rules keeps state takes saved valid, all_rise rules keeps state takes saved valid)

-- A RUN THAT BEGINS ANEW

all_unlisted : (ts : List TimedRow) → filter (λ timed. not (has_entry [] timed)) ts ≡ ts
all_unlisted [] = refl
all_unlisted (timed ∷ ts) = ap (λ (l : List TimedRow). timed ∷ l) (all_unlisted ts)

pub logs_begin_anew : StartedLogsBeginAnew
logs_begin_anew rules =
    let first : List Binding = purge rules.timers 0 (opening rules) in
    let new : List LogEntry = numbered_from 1 (map (first_entry rules.timers 0) first) in
    let rows : new_entries rules empty_state no_saved_log ≡ new =
    ap (λ (ts : List TimedRow). numbered_from 1 (map (λ timed. unused_entry timed.row 0 timed.end) ts))
    (all_unlisted (map (timed_row rules.timers) (purge rules.timers 0 (opening rules ++ [])))
    ∙ ap (λ (list : List Binding). map (timed_row rules.timers) (purge rules.timers 0 list))
    (append-nil (opening rules)))
    ∙ ap (numbered_from 1) (map_twice (λ (timed : TimedRow). unused_entry timed.row 0 timed.end)
    (timed_row rules.timers)
    first) in
    λ i. record {
      made = 0 + (ap length rows ∙ many 1 (map (first_entry rules.timers 0) first)) i;
      entries = rows i;
      shortages = [];
    }
  where
    many : (n : ℕ) (es : List Entry) → length (numbered_from n es) ≡ length es
    many n [] = refl
    many n (e ∷ es) = ap suc (many (n + 1) es)

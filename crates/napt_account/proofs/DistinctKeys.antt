-- Rows of which no two have the same protocol and external endpoint.
use Rattle.std.proofs.Common.{◌≡◌, ℕ, ◌<◌, zero, suc, inl, inr, Bool, true, false, List, [], ◌∷◌, length, map, take, get_or, refl, sym, ap, subst, arith}
use Rattle.std.specs.List.{AllByRecursion, IsDistinct, Sorted.IsPermutation}
use Rattle.std.proofs.lemmas.{List.Sorted.{IsPermutation-map, IsPermutation-sym}, Map.Keys.IsDistinct-IsPermutation}
use Rattle.napt_rules.specs.{declared.Row.Row, Prelude.{Binding, Each, RulesInvariant, Rules, State, TakesState, is_live, purge, row, with_redirects}}
use Rattle.napt_laws.proofs.TakenStates.{state_sound}
use Rattle.napt_table.specs.{declared.TimedRow.TimedRow, TimedRows.timed_row}
use Rattle.napt_account.specs.declared.open_entries.EntryKey.{EntryKey}
use Rattle.napt_account.specs.{Log.LogModel, OpenEntries.{AreKeyed, Has, external_eq, entry_key}, ResumedLogRuns.{IsLogOf, timed_by}}
use Rattle.napt_account.proofs.{Entries.{apart_differ, rows_purge}, EndOrderings.Along, Lists.map_twice, BindingChanges.{AllDiffer, Differ, differ_kept}, OpenEntries.{external_flip, external_is}}

abbrev pub share : Row → Row → Bool
share a b = external_eq (entry_key a) (entry_key b)

pub share_flip : (a b : Row) → share a b ≡ share b a
share_flip a b = external_flip (entry_key a) (entry_key b)

pub keyed_moved : (xs ys : List Row) → IsPermutation xs ys → AreKeyed ys → AreKeyed xs
keyed_moved xs ys moves = IsDistinct-IsPermutation share share_flip ys xs (IsPermutation-sym xs ys moves)

-- An earlier row and a later one have different keys.
pub keyed_before : {X : Type 0} (row : X → Row) (xs : List X) → AreKeyed (map row xs) → (k : ℕ) (d : X) →
    k < length xs → (x : X) → Has (take k xs) x → share (row x) (row (get_or xs k d)) ≡ false
unfolding IsDistinct
keyed_before row [] keyed k d lt x h = absurd (omega (arith, lt))
keyed_before row (y ∷ xs) keyed zero d lt x h = absurd h
keyed_before row (y ∷ xs) keyed (suc k) d lt x (inl is) =
    subst (λ z. share (row z) (row (get_or xs k d)) ≡ false) is (behind xs keyed.0 k (omega (arith, lt)))
  where
    behind : (zs : List _) → AllByRecursion (λ r. share (row y) r ≡ false) (map row zs) → (k : ℕ) → k < length zs →
        share (row y) (row (get_or zs k d)) ≡ false
    behind [] h k lt = absurd (omega (arith, lt))
    behind (z ∷ zs) h zero lt = h.0
    behind (z ∷ zs) h (suc k) lt = behind zs h.1 k (omega (arith, lt))
keyed_before row (y ∷ xs) keyed (suc k) d lt x (inr h) = keyed_before row xs keyed.1 k d (omega (arith, lt)) x h

-- THE LIVE BINDINGS OF A STATE THAT A CONFIGURATION TAKES

not_shared : (r s : Row) → Differ r s → share r s ≡ false
not_shared r s differ = elim (share r s) as (λ v. share r s ≡ v → v ≡ false) [
  | true ↦ λ is.
      let same : entry_key r ≡ entry_key s = external_is (entry_key r) (entry_key s) is in
      absurd (differ (ap (λ (k : EntryKey). k.protocol) same)
      (λ i. record { address = (same i).address; number = (same i).number }))
  | false ↦ λ is. refl
] refl

keyed_each : (r : Row) (rs : List Row) → Each (Differ r) rs → AllByRecursion (λ s. share r s ≡ false) rs
keyed_each r [] h = tt
keyed_each r (s ∷ rs) h = (not_shared r s h.0, keyed_each r rs h.1)

pub differ_keyed : (rs : List Row) → AllDiffer rs → AreKeyed rs
unfolding IsDistinct
differ_keyed [] h = tt
differ_keyed (r ∷ rs) h = (keyed_each r rs h.0, differ_keyed rs h.1)

pub live_keyed : (rules : Rules) → RulesInvariant rules → (state : State) → TakesState rules state →
    AreKeyed (map (λ t. t.row) (map (timed_row rules.timers)
    (purge rules.timers state.clock (with_redirects rules state).list)))
live_keyed rules keeps state takes =
    let list : List Binding = (with_redirects rules state).list in
    let live : List Binding = purge rules.timers state.clock list in
    let differ : AllDiffer (map row live) = subst AllDiffer (sym (rows_purge rules.timers state.clock list))
    (differ_kept (is_live rules.timers state.clock) list
    (apart_differ (map row list) (state_sound rules keeps state takes).apart)) in
    subst AreKeyed (sym (map_twice (λ (t : TimedRow). t.row) (timed_row rules.timers) live))
    (differ_keyed (map row live) differ)

-- The entries of a log of such a state have distinct keys, too.
pub log_keyed : (rules : Rules) → RulesInvariant rules → (state : State) → TakesState rules state →
    (log : LogModel) →
    IsLogOf rules (with_redirects rules state) log → AreKeyed (map (λ l. l.entry.binding) log.entries)
log_keyed rules keeps state takes log is =
    subst AreKeyed (map_twice (λ (t : TimedRow). t.row) timed_by log.entries)
    (keyed_moved (map (λ t. t.row) (map timed_by log.entries)) _
    (IsPermutation-map (λ (t : TimedRow). t.row) _ _ is.rows) (live_keyed rules keeps state takes))

-- The keys of a list are apart.
pub keyed_along : {X : Type 0} (row : X → Row) (xs : List X) → AreKeyed (map row xs) →
    Along (λ x y. share (row x) (row y) ≡ false) xs
unfolding IsDistinct
keyed_along row [] k = tt
keyed_along row (x ∷ xs) k = (apart_each x xs k.0, keyed_along row xs k.1)
  where
    apart_each : (x : _) (ys : List _) →
        AllByRecursion (λ r. share (row x) r ≡ false) (map row ys) → Each (λ y. share (row x) (row y) ≡ false) ys
    apart_each x [] h = tt
    apart_each x (y ∷ ys) h = (h.0, apart_each x ys h.1)

-- Ended entries are removed, and lists are in order of end.
use Rattle.std.proofs.lemmas.{Grind.common_steps, Bool.Decides.nat_tests}
use Rattle.std.proofs.Common.{◌≡◌, ◌≢◌, ℕ, ◌<◌, ◌^◌, ◌⊎◌, inl, inr, Bool, true, false, cond, unwrap_or, List, [], ◌∷◌, ◌++◌, map, Option, Some, None, refl, sym, ◌∙◌, ap, subst, arith}
use Rattle.std.specs.{Prelude.{filter, not}, Ordering.nat_cmp, List.{AllByRecursion, IsDistinct, Sorted.{IsPermutation, IsSortedByKey}}}
use Rattle.std.{specs.{Map.{lookup, keys_of, values_of}, Ordering.is_lt, HashMap.IsUnique}, proofs.lemmas.Bool.{and_parts, and_from, eq-eqb}}
use Rattle.std.proofs.lemmas.{Map.Keys.IsDistinct-IsPermutation, Option.same_Some}
use Rattle.napt_rules.specs.Prelude.{Each}
use Rattle.napt_account.specs.declared.{log.LogEntry.LogEntry, open_entries.{DueEntry.DueEntry, EntryKey.EntryKey, OpenEntry.OpenEntry, OpenEntries.OpenEntries}}
use Rattle.napt_account.specs.OpenEntries.{entry_key, end_key_of, end_key, external_eq, end_cmp, open_at, entry_at, is_queued, entry_is_at, all_entries, Has, IsIndexed, OpenEntriesShow}
use Rattle.napt_account.specs.{Log.LogModel, LogParts.{is_open, ends_within, ends_first, in_order_of_end}}
use Rattle.napt_account.proofs.EndOrderings.{Differ, InOrder, differ_filter, each_has, has_each, has_left, has_parts, has_filter, filter_has, first_then, is_order}
use Rattle.napt_account.proofs.{AscendingNumbers.{rises_differ, rises_filter, same_number, sorted_rising}, SortedLists.{has_back, has_moved, sorted_turn}}
use Rattle.napt_account.proofs.OpenEntries.{due_of, external_is, external_itself, external_flip, under, entry_open, open_entry}

-- A LIST THAT IS SORTED

-- Returns whether two entries have one endpoint.
abbrev share : LogEntry → LogEntry → Bool
share l m = external_eq (entry_key l.entry.binding) (entry_key m.entry.binding)

-- An entry that is not after another one is before it.
not_behind : (a b : Option ℕ) (m n : ℕ) (l o : LogEntry) → l.entry.end ≡ a → o.entry.end ≡ b → l.number ≡ m →
    o.number ≡ n → m ≢ n → is_lt (end_cmp (end_key_of b n) (end_key_of a m)) ≡ false → ends_first l o ≡ true
not_behind a b m n l o h k g j p q = grind (arith, common_steps, nat_tests)

sorted_order : (xs : List LogEntry) → IsSortedByKey end_key end_cmp xs → Differ xs → InOrder xs
sorted_order = sorted_turn end_key end_cmp ends_first (λ x y. x.number ≢ y.number)
    (λ x y. not_behind x.entry.end y.entry.end x.number y.number x y refl refl refl refl)
    (λ x y z. first_then x.entry.end y.entry.end z.entry.end x.number y.number z.number)

-- DISTINCT ENDPOINTS

recursion_each : {X : Type 0} (P : X → Type 0) (xs : List X) → AllByRecursion P xs → Each P xs
recursion_each P [] h = tt
recursion_each P (x ∷ xs) h = (h.0, recursion_each P xs h.1)

each_weaker : {X : Type 0} (P Q : X → Type 0) → ((x : X) → P x → Q x) → (xs : List X) → Each P xs → Each Q xs
each_weaker P Q f [] h = tt
each_weaker P Q f (x ∷ xs) h = (f x h.0, each_weaker P Q f xs h.1)

-- Each entry is at its endpoint.
abbrev pub AreThere : OpenEntries → List LogEntry → Type 0
AreThere all xs = (l : LogEntry) → Has xs l → entry_at all (entry_key l.entry.binding) ≡ Some l

-- No two entries have one endpoint.
abbrev pub Apart : List LogEntry → Type 0
Apart = IsDistinct share

apart_differ : (now most : ℕ) (log : LogModel) (all : OpenEntries) → OpenEntriesShow now most log all →
    (xs : List LogEntry) →
    AreThere all xs → Apart xs → Differ xs
unfolding IsDistinct
apart_differ now most log all shows [] there apart = tt
apart_differ now most log all shows (x ∷ xs) there apart = (
  has_each (λ y. x.number ≢ y.number) xs (λ y h same.
      let is : x ≡ y = same_number log.entries (rises_differ 1 log.entries shows.rises) x y
      (shows.there (entry_key x.entry.binding) x (there x (inl refl)))
      (shows.there (entry_key y.entry.binding) y (there y (inr h))) same in
      let never : true ≡ false = sym (external_itself (entry_key x.entry.binding))
      ∙ (ap (λ (l : LogEntry). share x l) is
      ∙ each_has (λ l. share x l ≡ false) xs y (recursion_each (λ l. share x l ≡ false) xs apart.0) h) in cc),
  apart_differ now most log all shows xs (λ l h. there l (inr h)) apart.1,
)

module _ (now most : ℕ) (log : LogModel) (all : OpenEntries) (shows : OpenEntriesShow now most log all)
    (xs ys : List LogEntry)
    (moves : IsPermutation xs ys) (there : AreThere all xs) (apart : Apart xs) where
  pub moved_differ : Differ ys
  moved_differ = apart_differ now most log all shows ys (λ l h. there l (has_back xs ys moves l h))
      (IsDistinct-IsPermutation share (λ l m. external_flip (entry_key l.entry.binding)
      (entry_key m.entry.binding)) xs ys moves apart)

  -- Sorted entries are the list in order of end that has the same elements.
  pub sorted_is : IsSortedByKey end_key end_cmp ys → (zs : List LogEntry) → Differ zs →
      ((l : LogEntry) → Has xs l → Has zs l) → ((l : LogEntry) → Has zs l → Has xs l) → ys ≡ in_order_of_end zs
  sorted_is sorted zs differ f g = is_order ys zs (sorted_order ys sorted moved_differ) differ
      (λ l h. f l (has_back xs ys moves l h)) (λ l h. has_moved xs ys moves l (g l h))

-- WHAT IS KEPT

abbrev of_open : OpenEntry → LogEntry
of_open o = o.numbered

-- An entry that is found is in the list.
found_has : (test : EntryKey → Bool) (es : List (EntryKey × OpenEntry)) (o : OpenEntry) → lookup test es ≡ Some o →
    Has (map of_open (values_of es)) o.numbered
found_has test [] o h = cc
found_has test (e ∷ es) o h = elim (test e.0) as (λ v. cond v (Some e.1) (lookup test es) ≡ Some o →
    (e.1.numbered ≡ o.numbered) ⊎ Has (map of_open (values_of es)) o.numbered)
    [ true ↦ λ g. inl (ap of_open (same_Some e.1 o g)) | false ↦ λ g. inr (found_has test es o g) ] h

value_at : (P : EntryKey → LogEntry → Type 0) (es : List (EntryKey × OpenEntry)) → Each (λ f. P f.0 f.1.numbered) es →
    (l : LogEntry) → Has (map of_open (values_of es)) l → (x : EntryKey) × P x l
value_at P [] each l h = absurd h
value_at P (e ∷ es) each l (inl is) = (e.0, subst (P e.0) is each.0)
value_at P (e ∷ es) each l (inr h) = value_at P es each.1 l h

-- Each entry of a list whose keys differ is found.
found_later : (e : EntryKey × OpenEntry) (all es : List (EntryKey × OpenEntry)) →
    AllByRecursion (λ k. external_eq e.0 k ≡ false) (keys_of es) →
    Each (λ f. lookup (external_eq f.0) all ≡ Some f.1) es →
    Each (λ f. lookup (external_eq f.0) (e ∷ all) ≡ Some f.1) es
found_later e all [] apart found = tt
found_later e all (f ∷ es) apart found =
    grind (arith, common_steps, nat_tests, external_flip, found_later e all es apart.1 found.1)

found_each : (es : List (EntryKey × OpenEntry)) → IsDistinct external_eq (keys_of es) →
    Each (λ f. lookup (external_eq f.0) es ≡ Some f.1) es
unfolding IsDistinct
found_each [] distinct = tt
found_each (e ∷ es) distinct = (
  ap (λ v. cond v (Some e.1) (lookup (external_eq e.0) es)) (external_itself e.0),
  found_later e es es distinct.0 (found_each es distinct.1),
)

values_apart : (e : EntryKey × OpenEntry) (es : List (EntryKey × OpenEntry)) →
    e.0 ≡ entry_key e.1.numbered.entry.binding →
    Each (λ f. f.0 ≡ entry_key f.1.numbered.entry.binding) es →
    AllByRecursion (λ k. external_eq e.0 k ≡ false) (keys_of es) →
    AllByRecursion (λ l. share e.1.numbered l ≡ false) (map of_open (values_of es))
values_apart e [] is placed apart = tt
values_apart e (f ∷ es) is placed apart = grind (arith, common_steps, nat_tests, values_apart e es is placed.1 apart.1)

kept_apart : (es : List (EntryKey × OpenEntry)) → IsDistinct external_eq (keys_of es) →
    Each (λ f. f.0 ≡ entry_key f.1.numbered.entry.binding) es → Apart (map of_open (values_of es))
unfolding IsDistinct
kept_apart [] distinct placed = tt
kept_apart (e ∷ es) distinct placed =
    (values_apart e es placed.0 placed.1 distinct.0, kept_apart es distinct.1 placed.1)

module _ (now most : ℕ) (log : LogModel) (all : OpenEntries) (shows : OpenEntriesShow now most log all)
    (unique : IsUnique external_eq all.by_external) where
  kept_each : Each (λ f. open_at all f.0 ≡ Some f.1) all.by_external.entries
  kept_each = found_each all.by_external.entries unique

  kept_at : (l : LogEntry) → Has (all_entries all) l → (x : EntryKey) × (entry_at all x ≡ Some l)
  kept_at = value_at (λ x l. entry_at all x ≡ Some l) all.by_external.entries
      (each_weaker (λ f. open_at all f.0 ≡ Some f.1) (λ f. entry_at all f.0 ≡ Some f.1.numbered)
      (λ f at. open_entry all f.0 f.1 at) all.by_external.entries kept_each)

  kept_there : AreThere all (all_entries all)
  kept_there l h = grind (arith, common_steps, kept_at, under)

  kept_has : (x : EntryKey) (l : LogEntry) → entry_at all x ≡ Some l → Has (all_entries all) l
  kept_has x l at =
      let o = entry_open all x l at in
      subst (Has (all_entries all)) o.2 (found_has (external_eq x) all.by_external.entries o.0 o.1)

  kept_alone : Apart (all_entries all)
  kept_alone = kept_apart all.by_external.entries unique
      (each_weaker (λ f. open_at all f.0 ≡ Some f.1) (λ f. f.0 ≡ entry_key f.1.numbered.entry.binding)
      (λ f at. (shows.indexed.placed f.0 f.1 at).0) all.by_external.entries kept_each)

  abbrev opens : List LogEntry
  opens = filter (is_open now) log.entries

  kept_open : (l : LogEntry) → Has (all_entries all) l → Has opens l
  kept_open l h = let at = kept_at l h in
      has_filter (is_open now) log.entries l (shows.there at.0 l at.1) (shows.unended at.0 l at.1)

  open_kept : (l : LogEntry) → Has opens l → Has (all_entries all) l
  open_kept l h = let p = filter_has (is_open now) log.entries l h in
      kept_has (entry_key l.entry.binding) l (shows.has l p.0 p.1)

  pub list_is : (xs : List LogEntry) → IsPermutation (all_entries all) xs → IsSortedByKey end_key end_cmp xs →
      xs ≡ in_order_of_end opens
  list_is xs moves sorted = sorted_is now most log all shows (all_entries all) xs moves kept_there kept_alone sorted
      opens
      (differ_filter (is_open now) log.entries (rises_differ 1 log.entries shows.rises)) kept_open open_kept

  -- The entries that are left, in order of number.
  pub left_is : (xs : List LogEntry) → IsPermutation (all_entries all) xs → IsSortedByKey (λ l. l.number) nat_cmp xs →
      xs ≡ opens
  left_is xs moves sorted = sorted_rising 1 xs opens sorted
      (moved_differ now most log all shows (all_entries all) xs moves kept_there kept_alone)
      (rises_filter (is_open now) 1 log.entries shows.rises)
      (λ l h. kept_open l (has_back (all_entries all) xs moves l h))
      (λ l h. has_moved (all_entries all) xs moves l (open_kept l h))

-- WHAT IS DUE

-- If no time in the queue has come, no entry has ended.
pub none_due : (now : ℕ) → now < 2 ^ 64 → (all : OpenEntries) → IsIndexed all →
    ((d : DueEntry) → is_queued all d ≡ true → now < d.at) → (x : EntryKey) (l : LogEntry) → entry_at all x ≡ Some l →
    is_open now l ≡ true
none_due now fits all indexed later x l at =
    let o = entry_open all x l at in
    let early = (indexed.placed x o.0 o.1).1 now in
    subst (λ (m : LogEntry). is_open now m ≡ true) o.2 (early (elim (o.0.due) as (λ (due : Option ℕ). o.0.due ≡ due →
    now < unwrap_or due (2 ^ 64)) [
      | None ↦ λ e. fits
      | Some time ↦ λ e. later (record { at = time; key = x })
          (indexed.queued (record { at = time; key = x })
          ∙ (ap (λ (v : Option OpenEntry). entry_is_at (due_of v) time) o.1
          ∙ (ap (λ due. entry_is_at due time) e ∙ eq-eqb time time refl)))
    ] refl))

-- WHAT HAS ENDED

has_last : (xs : List LogEntry) (l m : LogEntry) → l ≡ m → Has (xs ++ l ∷ []) m
has_last [] l m is = inl is
has_last (x ∷ xs) l m is = inr (has_last xs l m is)

-- Some of the first entries are left, and the others have ended.
pub record IsParted (now : ℕ) (first all : OpenEntries) (ended : List LogEntry) : Type 0 where
  pub indexed : IsIndexed all
  pub had : (x : EntryKey) (l : LogEntry) → entry_at all x ≡ Some l → entry_at first x ≡ Some l
  pub stays : (x : EntryKey) (l : LogEntry) → entry_at first x ≡ Some l →
      (entry_at all x ≡ Some l) ⊎ Has ended l
  pub gone : (l : LogEntry) → Has ended l → (is_open now l ≡ false)
      × (entry_at all (entry_key l.entry.binding) ≡ None)
  pub there : AreThere first ended
  pub apart : Apart ended

pub parted_none : (now : ℕ) (first : OpenEntries) → IsIndexed first → IsParted now first first []
unfolding IsDistinct
parted_none now first indexed = grind (arith, common_steps, nat_tests)

pub parted_same : (now : ℕ) (first old new : OpenEntries) (ended : List LogEntry) → IsParted now first old ended →
    IsIndexed new → ((x : EntryKey) → entry_at new x ≡ entry_at old x) → IsParted now first new ended
parted_same now first old new ended parted indexed same = grind (arith, common_steps, nat_tests)

apart_pushed : (xs : List LogEntry) (l : LogEntry) → Apart xs → ((m : LogEntry) → Has xs m → share m l ≡ false) →
    Apart (xs ++ l ∷ [])
unfolding IsDistinct
apart_pushed [] l apart new = (tt, tt)
apart_pushed (x ∷ xs) l apart new =
    grind (arith, common_steps, nat_tests, apart_pushed xs l apart.1 (λ m h. new m (inr h)))

module _ (now : ℕ) (first old new : OpenEntries) (ended more : List LogEntry) (parted : IsParted now first old ended)
    (key : EntryKey) (l : LogEntry) (at : entry_at old key ≡ Some l) (over : is_open now l ≡ false)
    (indexed : IsIndexed new)
    (left : (x : EntryKey) → entry_at new x ≡ cond (external_eq key x) None (entry_at old x))
    (pushed : more ≡ ended ++ l ∷ []) where
  its : key ≡ entry_key l.entry.binding
  its = under old parted.indexed key l at

  left_none : (x : EntryKey) → entry_at old x ≡ None → entry_at new x ≡ None
  left_none x none = grind (arith, common_steps)

  pushed_has : (m : LogEntry) → Has more m → Has ended m ⊎ (l ≡ m)
  pushed_has m h = grind (arith, common_steps, nat_tests, has_parts)

  pub parted_taken : IsParted now first new more
  parted_taken = record {
    indexed = indexed;
    had = λ x m there. parted.had x m (elim (external_eq key x) as (λ v. cond v None (entry_at old x) ≡ Some m →
        entry_at old x ≡ Some m) [ true ↦ λ h. cc | false ↦ λ h. h ] (sym (left x) ∙ there));
    stays = λ x m there. subst (λ (xs : List LogEntry). (entry_at new x ≡ Some m) ⊎ Has xs m) (sym pushed)
        (elim (parted.stays x m there) [
          | inl here ↦ elim (external_eq key x) as (λ v. external_eq key x ≡ v →
              (entry_at new x ≡ Some m) ⊎ Has (ended ++ l ∷ []) m) [
                | true ↦ λ e. inr (has_last ended l m (same_Some l m (sym at
                    ∙ (ap (entry_at old) (external_is key x e) ∙ here))))
                | false ↦ λ e. inl (left x ∙ (ap (λ v. cond v None (entry_at old x)) e ∙ here))
              ] refl
          | inr h ↦ inr (has_left ended (l ∷ []) m h)
        ]);
    gone = λ m h. elim (pushed_has m h) [
      | inl was ↦ let g = parted.gone m was in (g.0, left_none (entry_key m.entry.binding) g.1)
      | inr is ↦ subst (λ (k : LogEntry). (is_open now k ≡ false)
          × (entry_at new (entry_key k.entry.binding) ≡ None)) is (
            over,
            left (entry_key l.entry.binding)
                ∙ ap (λ v. cond v None (entry_at old (entry_key l.entry.binding)))
                (ap (external_eq key) (sym its) ∙ external_itself key),
          )
    ];
    there = λ m h. elim (pushed_has m h) [
      | inl was ↦ parted.there m was
      | inr is ↦ subst (λ (k : LogEntry). entry_at first (entry_key k.entry.binding) ≡ Some k) is
          (parted.had (entry_key l.entry.binding) l (ap (entry_at old) (sym its) ∙ at))
    ];
    apart = subst Apart (sym pushed) (apart_pushed ended l parted.apart (λ m h.
        elim (share m l) as (λ v. share m l ≡ v → v ≡ false) [
          | true ↦ λ e.
              let never : None ≡ Some l = sym (parted.gone m h).1
              ∙ (ap (entry_at old) (external_is _ _ e ∙ sym its) ∙ at) in cc
          | false ↦ λ e. refl
        ] refl));
  }

module _ (was now most : ℕ) (log : LogModel) (first all : OpenEntries) (shows : OpenEntriesShow was most log first)
    (ended : List LogEntry) (parted : IsParted now first all ended)
    (left : (x : EntryKey) (l : LogEntry) → entry_at all x ≡ Some l → is_open now l ≡ true) where
  pub ended_is : (xs : List LogEntry) → IsPermutation ended xs → IsSortedByKey end_key end_cmp xs →
      xs ≡ in_order_of_end (filter (ends_within was now) log.entries)
  ended_is xs moves sorted = sorted_is was most log first shows ended xs moves parted.there parted.apart sorted
      (filter (ends_within was now) log.entries)
      (differ_filter (ends_within was now) log.entries (rises_differ 1 log.entries shows.rises))
      (λ l h.
      let key : EntryKey = entry_key l.entry.binding in
      let at : entry_at first key ≡ Some l = parted.there l h in
      has_filter (ends_within was now) log.entries l (shows.there key l at)
      (and_from (is_open was l) (not (is_open now l)) (shows.unended key l at) (ap not (parted.gone l h).0)))
      (λ l h.
      let p = filter_has (ends_within was now) log.entries l h in
      let q = and_parts (is_open was l) (not (is_open now l)) p.1 in
      let key : EntryKey = entry_key l.entry.binding in
      elim (parted.stays key l (shows.has l p.0 q.0)) [
        | inl here ↦ let never : false ≡ true = sym (ap not (left key l here)) ∙ q.1 in cc
        | inr there ↦ there
      ])

-- The entries that have not ended, when one is inserted, changed or removed.
use Rattle.std.proofs.lemmas.{Grind.common_steps, Bool.Decides.nat_tests}
use Rattle.std.proofs.Common.{◌≡◌, ◌≢◌, inl, inr, ℕ, ◌+◌, ◌<◌, ◌≤◌, Bool, true, false, ◌||◌, cond, List, [], ◌∷◌, ◌++◌, ◌^◌, map, find, Option, Some, None, unwrap_or, refl, sym, ◌∙◌, ap, subst, arith, eqb, eqb-true}
use Rattle.std.{specs.{List.list_any, Option.{option_and_then, option_map}}, proofs.lemmas.Bool.{and_parts, and_from, eq-eqb, eqb-false}}
use Rattle.std.proofs.lemmas.Option.{same_Some}
use Rattle.napt_wire.specs.{declared.Way.{Way, TheVariants.{Outgoing, Incoming}}}
use Rattle.napt_rules.specs.{declared.Row.Row, Prelude.Each}
use Rattle.napt_laws.proofs.Endpoints.{protocol_is, end_is}
use Rattle.napt_binding.specs.Ends.{is_before}
use Rattle.napt_table.specs.declared.TimedRow.{TimedRow}
use Rattle.napt_account.specs.declared.{binding_tally.{BindingTally.BindingTally}, log.{Entry.Entry, LogEntry.LogEntry}, open_entries.{DueEntry.DueEntry, EntryKey.EntryKey, OpenEntry.OpenEntry}}
use Rattle.napt_account.specs.{declared.open_entries.OpenEntries.OpenEntries, BindingTallies.{noted, no_use, open_of, use_found, tally_used}, Log.{LogModel, counted, shares, entry_is_of, use_entry, with_entry, with_use}}
use Rattle.napt_account.{specs.LogParts.{IsNumbered, NumbersAscend, is_open}, proofs.{Entries.{counted_binding, counted_end, shares_itself}, EndOrderings.{each_has, has_left, has_parts}, AscendingNumbers.{rises_differ, rises_mapped, rises_pushed, same_number}}}
use Rattle.napt_account.specs.OpenEntries.{entry_key, external_eq, open_at, entry_at, due_at, is_queued, entry_is_at, Has, IsPlaced, IsIndexed, IsIndexedExcept, OpenEntriesShow}
use Rattle.napt_laws.proofs.Lists.{each_weaker}

-- KEYS

pub external_is : (a b : EntryKey) → external_eq a b ≡ true → a ≡ b
external_is a b h = grind (arith, common_steps, nat_tests, and_parts)

pub external_itself : (a : EntryKey) → external_eq a a ≡ true
external_itself a = grind (arith, common_steps, and_from, eq-eqb)

pub external_flip : (a b : EntryKey) → external_eq a b ≡ external_eq b a
external_flip a b = grind (arith, common_steps, nat_tests, external_is, external_itself)

-- WHAT IS AT AN ENDPOINT

abbrev pub due_of : Option OpenEntry → Option ℕ
due_of found = option_and_then (λ (o : OpenEntry). o.due) found

pub entry_open : (all : OpenEntries) (x : EntryKey) (l : LogEntry) → entry_at all x ≡ Some l →
    (o : OpenEntry) × (open_at all x ≡ Some o) × (o.numbered ≡ l)
entry_open all x l at = grind (arith, common_steps, same_Some)

pub open_entry : (all : OpenEntries) (x : EntryKey) (o : OpenEntry) → open_at all x ≡ Some o →
    entry_at all x ≡ Some o.numbered
open_entry all x o at = ap (option_map (λ (o : OpenEntry). o.numbered)) at

pub under : (all : OpenEntries) → IsIndexed all → (x : EntryKey) (l : LogEntry) → entry_at all x ≡ Some l →
    x ≡ entry_key l.entry.binding
under all indexed x l at = grind (arith, common_steps, entry_open)

pub indexed_but : (all : OpenEntries) → IsIndexed all → (x : EntryKey) → IsIndexedExcept x (due_at all x) all
indexed_but all indexed x = grind (arith, common_steps, nat_tests, external_is)

pub queued_at : (all : OpenEntries) (x : EntryKey) (was : Option ℕ) → IsIndexedExcept x was all → (d : DueEntry) →
    external_eq x d.key ≡ true → is_queued all d ≡ entry_is_at was d.at
queued_at all x was indexed d e = indexed.queued d ∙ ap (λ v. entry_is_at (cond v was (due_at all d.key)) d.at) e

-- One endpoint has another entry, or none, and is queued as that entry is.
module _ (old new : OpenEntries) (x : EntryKey) (was : Option ℕ) (indexed : IsIndexedExcept x was old)
    (next : Option OpenEntry)
    (opens : (y : EntryKey) → open_at new y ≡ cond (external_eq x y) next (open_at old y))
    (queue : (d : DueEntry) → is_queued new d ≡ cond (external_eq x d.key) (entry_is_at (due_of next) d.at)
    (is_queued old d))
    (its : (o : OpenEntry) → next ≡ Some o → IsPlaced x o) where
  pub moved : IsIndexed new
  moved = grind (arith, common_steps, nat_tests, external_is)

-- LISTS

pub has_map : {X : Type 0} (f : X → X) (xs : List X) (x : X) → Has xs x → Has (map f xs) (f x)
has_map f [] x h = h
has_map f (y ∷ ys) x (inl is) = inl (ap f is)
has_map f (y ∷ ys) x (inr h) = inr (has_map f ys x h)

pub map_has : {X : Type 0} (f : X → X) (xs : List X) (y : X) → Has (map f xs) y → (x : X) × Has xs x × (f x ≡ y)
map_has f [] y h = absurd h
map_has f (x ∷ xs) y (inl is) = (x, inl refl, is)
map_has f (x ∷ xs) y (inr h) = let r = map_has f xs y h in (r.0, inr r.1, r.2)

map_same : {X : Type 0} (f : X → X) (xs : List X) → ((x : X) → Has xs x → f x ≡ x) → map f xs ≡ xs
map_same f [] same = refl
map_same f (x ∷ xs) same = ap (λ y. y ∷ map f xs) (same x (inl refl))
    ∙ ap (λ (ys : List _). x ∷ ys) (map_same f xs (λ y h. same y (inr h)))

pub has_last : {X : Type 0} (xs : List X) (x : X) → Has (xs ++ x ∷ []) x
has_last [] x = inl refl
has_last (y ∷ ys) x = inr (has_last ys x)

module _ {X : Type 0} (p : X → Bool) where
  -- If no element passes, none is found.
  pub find_nothing : (xs : List X) → ((x : X) → Has xs x → p x ≡ false) → find p xs ≡ None
  find_nothing [] never = refl
  find_nothing (x ∷ xs) never = ap (λ v. cond v (Some x) (find p xs)) (never x (inl refl))
      ∙ find_nothing xs (λ y h. never y (inr h))

  pub any_nothing : (xs : List X) → ((x : X) → Has xs x → p x ≡ false) → list_any p xs ≡ false
  any_nothing [] never = refl
  any_nothing (x ∷ xs) never = ap (λ v. v || list_any p xs) (never x (inl refl))
      ∙ any_nothing xs (λ y h. never y (inr h))

  pub any_has : (xs : List X) (x : X) → Has xs x → p x ≡ true → list_any p xs ≡ true
  any_has [] x h passed = absurd h
  any_has (y ∷ ys) x (inl is) passed = ap (λ v. v || list_any p ys) (ap p is ∙ passed)
  any_has (y ∷ ys) x (inr h) passed = elim (p y) as (λ v. (v || list_any p ys) ≡ true)
      [ true ↦ refl | false ↦ any_has ys x h passed ]

  -- If a single element passes, it is found.
  pub find_only : (xs : List X) (x : X) → Has xs x → p x ≡ true → ((y : X) → Has xs y → p y ≡ true → y ≡ x) →
      find p xs ≡ Some x
  find_only [] x h passed only = absurd h
  find_only (y ∷ ys) x h passed only = elim (p y) as (λ v. p y ≡ v → cond v (Some y) (find p ys) ≡ Some x) [
    | true ↦ λ e. ap (λ (z : X). Some z) (only y (inl refl) e)
    | false ↦ λ e. elim h [
      | inl is ↦ absurd (let never : true ≡ false = sym passed ∙ (ap p (sym is) ∙ e) in cc)
      | inr there ↦ find_only ys x there passed (λ z k. only z (inr k))
    ]
  ] refl

-- AN ENTRY IS INSERTED at an endpoint that has no other

module _ (now most : ℕ) (old new : OpenEntries) (log later : LogModel) (shows : OpenEntriesShow now most log old)
    (l : LogEntry)
    (made : new.made ≡ later.made)
    (numbered : IsNumbered later)
    (rises : NumbersAscend 1 later.entries)
    (is : Has later.entries l)
    (opened : is_open now l ≡ true)
    (stays : (m : LogEntry) → m.number ≢ l.number → Has log.entries m → Has later.entries m)
    (was : (m : LogEntry) → m.number ≢ l.number → Has later.entries m → Has log.entries m)
    (here : (m : LogEntry) → entry_at old (entry_key l.entry.binding) ≡ Some m → m.number ≡ l.number)
    (other : (x : EntryKey) (m : LogEntry) → external_eq (entry_key l.entry.binding) x ≡ false →
    entry_at old x ≡ Some m → m.number ≢ l.number)
    (indexed : IsIndexed new)
    (entries : (x : EntryKey) → entry_at new x
    ≡ cond (external_eq (entry_key l.entry.binding) x) (Some l) (entry_at old x)) where
  abbrev key : EntryKey
  key = entry_key l.entry.binding

  itself : entry_at new key ≡ Some l
  itself = entries key ∙ ap (λ v. cond v (Some l) (entry_at old key)) (external_itself key)

  -- The entry at an endpoint is the new one or an old one.
  at_key : (P : EntryKey → LogEntry → Type 0) → P key l →
      ((x : EntryKey) (m : LogEntry) → external_eq key x ≡ false → entry_at old x ≡ Some m → P x m) →
      (x : EntryKey) (m : LogEntry) → entry_at new x ≡ Some m → P x m
  at_key P one rest x m at = grind (arith, common_steps, nat_tests, external_is, same_Some)

  pub written : (more : ℕ) → most ≤ more → l.entry.sent ≤ more → l.entry.received ≤ more →
      OpenEntriesShow now more later new
  written more le sent received = record {
    indexed = indexed;
    made = made;
    numbered = numbered;
    rises = rises;
    has = λ m at unended. elim (eqb m.number l.number) as (λ v. eqb m.number l.number ≡ v →
        entry_at new (entry_key m.entry.binding) ≡ Some m) [
          | true ↦ λ e.
              let same : m ≡ l = same_number later.entries (rises_differ 1 later.entries rises) m l at is
              (eqb-true m.number l.number e) in
              subst (λ (k : LogEntry). entry_at new (entry_key k.entry.binding) ≡ Some k) (sym same) itself
          | false ↦ λ e.
              let differs : m.number ≢ l.number = eqb-false m.number l.number e in
              let its : EntryKey = entry_key m.entry.binding in
              let had : entry_at old its ≡ Some m = shows.has m (was m differs at) unended in
              entries its ∙ elim (external_eq key its) as (λ v. external_eq key its ≡ v →
              cond v (Some l) (entry_at old its) ≡ Some m) [
                | true ↦ λ t. absurd (differs (here m (ap (entry_at old) (external_is key its t) ∙ had)))
                | false ↦ λ t. had
              ] refl
        ] refl;
    there = at_key (λ x m. Has later.entries m) is
        (λ x m apart at. stays m (other x m apart at) (shows.there x m at));
    unended = at_key (λ x m. is_open now m ≡ true) opened (λ x m apart at. shows.unended x m at);
    few = at_key (λ x m. (m.entry.sent ≤ more) × (m.entry.received ≤ more)) (sent, received)
        (λ x m apart at. let f = shows.few x m at in (omega (arith, f.0), omega (arith, f.1)));
  }

-- A NEW ENTRY

module _ (now most : ℕ) (old new : OpenEntries) (log : LogModel) (shows : OpenEntriesShow now most log old) (e : Entry)
    (free : open_at old (entry_key e.binding) ≡ None) where
  abbrev one : LogEntry
  one = record { number = log.made + 1; entry = e }

  within : (m : LogEntry) → Has log.entries m → m.number ≢ log.made + 1
  within m has same =
      let le = each_has (λ n. n.number ≤ log.made) log.entries m shows.numbered has in absurd (omega (arith, le, same))

  put_was : (m : LogEntry) → m.number ≢ log.made + 1 → Has (log.entries ++ one ∷ []) m → Has log.entries m
  put_was m differs h = elim (has_parts log.entries (one ∷ []) m h) [
    | inl before ↦ before
    | inr last ↦ elim last [
      | inl is ↦ absurd (differs (ap (λ (n : LogEntry). n.number) (sym is)))
      | inr none ↦ absurd none
    ]
  ]

  put_here : (m : LogEntry) → entry_at old (entry_key e.binding) ≡ Some m → m.number ≡ log.made + 1
  put_here m at = grind (arith, common_steps)

  pub put_indexed : IsIndexedExcept (entry_key e.binding) None old
  put_indexed = grind (arith, common_steps, indexed_but)

  pub put_shows : is_before now e.end ≡ true → e.sent ≤ most → e.received ≤ most → new.made ≡ old.made + 1 →
      IsIndexed new →
      ((x : EntryKey) → entry_at new x
      ≡ cond (external_eq (entry_key e.binding) x) (Some one) (entry_at old x)) →
      OpenEntriesShow now most (with_entry e log) new
  put_shows opened sent received made indexed entries =
      written now most old new log (with_entry e log) shows one (made ∙ ap (λ (n : ℕ). n + 1) shows.made)
      (numbers log.entries shows.numbered)
      (rises_pushed 1 log.entries one shows.rises
      (each_weaker (λ n. n.number ≤ log.made) (λ n. n.number + 1 ≤ log.made + 1) (λ n le. omega arith) log.entries
      shows.numbered) (omega arith))
      (has_last log.entries one) opened
      (λ m differs h. has_left log.entries (one ∷ []) m h) put_was put_here
      (λ x m apart at. within m (shows.there x m at)) indexed entries most (omega arith) sent received
    where
      numbers : (ns : List LogEntry) → Each (λ n. n.number ≤ log.made) ns →
          Each (λ n. n.number ≤ log.made + 1) (ns ++ one ∷ [])
      numbers [] h = (omega arith, tt)
      numbers (n ∷ ns) h = ((let le = h.0 in omega (arith, le)), numbers ns h.1)

-- THE OPEN ENTRY OF AN EXTERNAL ENDPOINT

pub shares_key : (a b : Row) → entry_key a ≡ entry_key b → shares a b ≡ true
shares_key a b same = grind (arith, common_steps, shares_itself)

pub key_shares : (a b : Row) → shares a b ≡ true → entry_key a ≡ entry_key b
key_shares a b h = grind (arith, common_steps, nat_tests, and_parts, end_is, protocol_is)

module _ (now most : ℕ) (all : OpenEntries) (log : LogModel) (shows : OpenEntriesShow now most log all) (r : Row) where
  pub its_entry : (m : LogEntry) → Has log.entries m → entry_is_of now r m.entry ≡ true →
      entry_at all (entry_key r) ≡ Some m
  its_entry m has passed =
      let p = and_parts (is_before now m.entry.end) (shares r m.entry.binding) passed in
      ap (entry_at all) (key_shares r m.entry.binding p.1) ∙ shows.has m has p.0

  abbrev test : LogEntry → Bool
  test n = entry_is_of now r n.entry

  none_passes : entry_at all (entry_key r) ≡ None → (m : LogEntry) → Has log.entries m → test m ≡ false
  none_passes none m has = elim (test m) as (λ v. test m ≡ v → v ≡ false) [
    | true ↦ λ e. let never : None ≡ Some m = sym none ∙ its_entry m has e in cc
    | false ↦ λ e. refl
  ] refl

  pub row_none : entry_at all (entry_key r) ≡ None → list_any test log.entries ≡ false
  row_none none = any_nothing test log.entries (none_passes none)

  pub open_none : entry_at all (entry_key r) ≡ None → open_of now r log ≡ None
  open_none none = find_nothing test log.entries (none_passes none)

  module _ (l : LogEntry) (at : entry_at all (entry_key r) ≡ Some l) where
    pub row_of : test l ≡ true
    row_of = grind (arith, common_steps, and_from, shares_key, under)

    pub row_only : (m : LogEntry) → Has log.entries m → test m ≡ true → m ≡ l
    row_only m has passed = same_Some m l (sym (its_entry m has passed) ∙ at)

    pub row_any : list_any test log.entries ≡ true
    row_any = any_has test log.entries l (shows.there (entry_key r) l at) row_of

    pub open_is : open_of now r log ≡ Some l
    open_is = find_only test log.entries l (shows.there (entry_key r) l at) row_of row_only

-- If no open entry has the endpoint, there is nothing at it.
pub row_free : (now most : ℕ) (all : OpenEntries) (log : LogModel) → OpenEntriesShow now most log all → (r : Row) →
    list_any (λ n. entry_is_of now r n.entry) log.entries ≡ false → open_at all (entry_key r) ≡ None
row_free now most all log shows r none = go (open_at all (entry_key r)) refl
  where
    go : (o : Option OpenEntry) → open_at all (entry_key r) ≡ o → o ≡ None
    go None at = refl
    go (Some o) at =
        let any = row_any now most all log shows r o.numbered (open_entry all (entry_key r) o at) in
        let never : true ≡ false = sym any ∙ none in cc

-- A PACKET WENT THROUGH

counted_more : (way : Way) (now : ℕ) (end : Option ℕ) (e : Entry) → ((counted way now end e).sent ≤ e.sent + 1)
    × ((counted way now end e).received ≤ e.received + 1)
counted_more Outgoing now end e = (omega arith, omega arith)
counted_more Incoming now end e = (omega arith, omega arith)

module _ (way : Way) (now most : ℕ) (old : OpenEntries) (log : LogModel) (shows : OpenEntriesShow now most log old)
    (timed : TimedRow) (key : EntryKey) (is : key ≡ entry_key timed.row) where
  pub unused_here : open_at old key ≡ None → no_use ≡ use_found way (open_of now timed.row log)
  unused_here none = sym (ap (use_found way) (open_none now most old log shows timed.row
      (ap (entry_at old) (sym is) ∙ ap (option_map (λ (o : OpenEntry). o.numbered)) none)))

  -- Without an open entry nothing changes.
  pub unused_same : open_at old key ≡ None → with_use way now timed log ≡ log
  unused_same none =
      let free : entry_at old (entry_key timed.row) ≡ None =
      ap (entry_at old) (sym is) ∙ ap (option_map (λ (o : OpenEntry). o.numbered)) none in
      let same : map (use_entry way now timed) log.entries ≡ log.entries =
      map_same (use_entry way now timed) log.entries (λ m has.
      ap (λ v. record m { entry = cond v (counted way now timed.end m.entry) m.entry })
      (none_passes now most old log shows timed.row free m has)) in
      λ i. record { made = log.made; entries = same i; shortages = log.shortages }

  module _ (o : OpenEntry) (at : open_at old key ≡ Some o) where
    abbrev l : LogEntry
    l = o.numbered

    there : entry_at old (entry_key timed.row) ≡ Some l
    there = ap (entry_at old) (sym is) ∙ open_entry old key o at

    pub counted_used : (u : BindingTally) → u ≡ tally_used way (noted l.entry) l.number →
        u ≡ use_found way (open_of now timed.row log)
    counted_used u its = its ∙ sym (ap (use_found way) (open_is now most old log shows timed.row l there))

    abbrev change : LogEntry → LogEntry
    change = use_entry way now timed

    -- No other entry changes.
    not_it : (m : LogEntry) → Has log.entries m → m.number ≢ l.number → change m ≡ m
    not_it m has differs = elim (entry_is_of now timed.row m.entry) as (λ v. entry_is_of now timed.row m.entry ≡ v →
        (record m { entry = cond v (counted way now timed.end m.entry) m.entry }) ≡ m) [
          | true ↦ λ e. absurd (differs (ap (λ (n : LogEntry). n.number)
              (row_only now most old log shows timed.row l there m has e)))
          | false ↦ λ e. refl
        ] refl

    it : change l ≡ record { number = l.number; entry = counted way now timed.end l.entry }
    it = ap (λ v. let n : LogEntry = record l { entry = cond v (counted way now timed.end l.entry) l.entry } in n)
        (row_of now most old log shows timed.row l there)

    was_it : (m : LogEntry) → m.number ≢ l.number → Has (map change log.entries) m → Has log.entries m
    was_it m differs h =
        let from = map_has change log.entries m h in
        let apart : from.0.number ≢ l.number =
        λ same. differs (ap (λ (n : LogEntry). n.number) (sym from.2) ∙ same) in
        subst (Has log.entries) (sym (not_it from.0 from.1 apart) ∙ from.2) from.1

    module _ (e : Entry) (counts : e ≡ counted way now timed.end l.entry) (due : Option ℕ)
        (early : (time : ℕ) → time < unwrap_or due (2 ^ 64) → is_before time timed.end ≡ true)
        (new : OpenEntries) (made : new.made ≡ old.made) where
      abbrev next : LogEntry
      next = record { number = l.number; entry = e }

      abbrev changed : OpenEntry
      changed = record { numbered = next; due = due }

      pub counted_shows :
          ((y : EntryKey) → open_at new y ≡ cond (external_eq key y) (Some changed) (open_at old y)) →
          ((d : DueEntry) → (external_eq key d.key ≡ true → is_queued old d ≡ entry_is_at o.due d.at) →
          is_queued new d ≡ cond (external_eq key d.key) (entry_is_at due d.at) (is_queued old d)) →
          is_before now timed.end ≡ true → OpenEntriesShow now (most + 1) (with_use way now timed log) new
      counted_shows opens queue opened =
          let was : Entry = l.entry in
          let same : e.binding ≡ was.binding =
          ap (λ (f : Entry). f.binding) counts ∙ counted_binding way now timed.end was in
          let end : e.end ≡ timed.end = ap (λ (f : Entry). f.end) counts ∙ counted_end way now timed.end was in
          let more = counted_more way now timed.end was in
          let sent : e.sent ≤ was.sent + 1 = subst (λ (f : Entry). f.sent ≤ was.sent + 1) (sym counts) more.0 in
          let received : e.received ≤ was.received + 1 =
          subst (λ (f : Entry). f.received ≤ was.received + 1) (sym counts) more.1 in
          let but : IsIndexedExcept key o.due old =
          subst (λ (d : Option ℕ). IsIndexedExcept key d old) (ap due_of at) (indexed_but old shows.indexed key) in
          let its : key ≡ entry_key e.binding =
          (shows.indexed.placed key o at).0 ∙ ap entry_key (sym same) in
          let indexed : IsIndexed new = moved old new key o.due but (Some changed) opens
          (λ d. queue d (queued_at old key o.due but d))
          (λ p h. subst (IsPlaced key) (same_Some changed p h)
          (its, λ time h. ap (is_before time) end ∙ early time h)) in
          let few = shows.few key l (open_entry old key o at) in
          let next_is : change l ≡ next = it ∙ ap (λ (f : Entry). let n : LogEntry =
          record { number = l.number; entry = f } in n) (sym counts)
          in
          written now most old new log (with_use way now timed log) shows next (made ∙ shows.made)
          (each_mapped log.entries shows.numbered)
          (rises_mapped change (λ n. refl) 1 log.entries shows.rises)
          (subst (Has (map change log.entries)) next_is
          (has_map change log.entries l (shows.there key l (open_entry old key o at))))
          (ap (is_before now) end ∙ opened)
          (λ m differs h. subst (Has (map change log.entries)) (not_it m h differs) (has_map change log.entries m h))
          was_it
          (λ m h. ap (λ (n : LogEntry). n.number)
          (same_Some m l (sym h ∙ (ap (entry_at old) (sym its) ∙ open_entry old key o at))))
          (λ y m apart h equal.
          let is_l : m ≡ l = same_number log.entries (rises_differ 1 log.entries shows.rises) m l (shows.there y m h)
          (shows.there key l (open_entry old key o at)) equal in
          let here : entry_key e.binding ≡ y = ap entry_key same
          ∙ (ap (λ (n : LogEntry). entry_key n.entry.binding) (sym is_l)
          ∙ sym (under old shows.indexed y m h)) in
          let never : true ≡ false = sym (external_itself (entry_key e.binding))
          ∙ (ap (external_eq (entry_key e.binding)) here ∙ apart) in cc)
          indexed
          (λ y. ap (option_map (λ (p : OpenEntry). p.numbered)) (opens y)
          ∙ (elim (external_eq key y) as (λ v. option_map (λ (p : OpenEntry). p.numbered)
          (cond v (Some changed) (open_at old y)) ≡ cond v (Some next) (entry_at old y))
          [ true ↦ refl | false ↦ refl ]
          ∙ ap (λ (k : EntryKey). cond (external_eq k y) (Some next) (entry_at old y)) its))
          (most + 1) (omega arith) (let f = few.0 in omega (arith, sent, f))
          (let f = few.1 in omega (arith, received, f))
        where
          each_mapped : (ns : List LogEntry) → Each (λ n. n.number ≤ log.made) ns →
              Each (λ n. n.number ≤ log.made) (map change ns)
          each_mapped [] h = tt
          each_mapped (n ∷ ns) h = (h.0, each_mapped ns h.1)

pub shows_more : (now most more : ℕ) → most ≤ more → (log : LogModel) (all : OpenEntries) →
    OpenEntriesShow now most log all →
    OpenEntriesShow now more log all
shows_more now most more le log all shows = record {
  indexed = shows.indexed;
  made = shows.made;
  numbered = shows.numbered;
  rises = shows.rises;
  has = shows.has;
  there = shows.there;
  unended = shows.unended;
  few = λ x n at. let f = shows.few x n at in
      (let a = f.0 in omega (arith, le, a), let a = f.1 in omega (arith, le, a));
}

-- The entries that an input made, as they are in the log after it.
use Rattle.std.proofs.lemmas.{Bool.{Decides.nat_tests, and_parts, and_from}}
use Rattle.std.proofs.Common.{◌≡◌, ℕ, ◌+◌, ◌≤◌, Bool, true, false, ◌&&◌, cond, List, [], ◌∷◌, ◌++◌, map, filter, find, Option, Some, None, refl, sym, ◌∙◌, ap, arith, append-nil}
use Rattle.std.{specs.{Prelude.option_to_list, List.list_any, Option.option_map}}
use Rattle.napt_wire.specs.declared.Way.{Way, TheVariants.{Outgoing, Incoming}}
use Rattle.napt_rules.specs.{declared.Row.Row}
use Rattle.napt_binding.specs.Ends.{is_before}
use Rattle.napt_table.specs.declared.TimedRow.{TimedRow}
use Rattle.napt_sequential.specs.declared.passage.{Passage.{Passage, TheVariants.{Nothing, Made, Out, In, Dropped}}}
use Rattle.napt_account.specs.{declared.log.{Entry.Entry, LogEntry.LogEntry}, BindingTallies.open_of, Effects.CanCome, Log.{LogModel, after_leg, counted, entry_is_of, made_by, shares, use_entry, with_use}, MadeEntries.made_entry, LogParts.{IsNumbered, is_after}}
use Rattle.napt_account.proofs.{Entries.{counted_binding, counted_end, shares_itself}, ContinuedLogs.{more_leg, none_behind}, Lists.{filter_joined, filter_seen}}

-- LISTS

find_pushed : {X : Type 0} (p : X → Bool) (xs : List X) (x : X) → list_any p xs ≡ false → p x ≡ true →
    find p (xs ++ x ∷ []) ≡ Some x
find_pushed p [] x none passed = ap (λ v. cond v (Some x) None) passed
find_pushed p (y ∷ ys) x none passed = grind (arith, find_pushed p ys x)

find_before : {X : Type 0} (p : X → Bool) (xs ys : List X) (x : X) → find p xs ≡ Some x → find p (xs ++ ys) ≡ Some x
find_before p [] ys x at = cc
find_before p (y ∷ xs) ys x at = elim (p y) as (λ v. cond v (Some y) (find p xs) ≡ Some x →
    cond v (Some y) (find p (xs ++ ys)) ≡ Some x) [ true ↦ λ e. e | false ↦ λ e. find_before p xs ys x e ] at

find_mapped : {X : Type 0} (p : X → Bool) (g : X → X) → ((x : X) → p (g x) ≡ p x) → (xs : List X) →
    find p (map g xs) ≡ option_map g (find p xs)
find_mapped p g same [] = refl
find_mapped p g same (x ∷ xs) = grind (arith, same x, find_mapped p g same xs)

-- A NEW ENTRY IS OPEN

made_is_of : (now : ℕ) (timed : TimedRow) → is_before now timed.end ≡ true →
    entry_is_of now timed.row (made_by now timed) ≡ true
made_is_of now timed opens = and_from (is_before now timed.end) (shares timed.row timed.row) opens
    (shares_itself timed.row)

-- ENTRIES KEEP THEIR ROWS

module _ (way : Way) (now : ℕ) (timed : TimedRow) (opens : is_before now timed.end ≡ true) (r : Row) where
  stays_of : (n : LogEntry) → entry_is_of now r (use_entry way now timed n).entry ≡ entry_is_of now r n.entry
  stays_of n = elim (entry_is_of now timed.row n.entry) as (λ v. entry_is_of now timed.row n.entry ≡ v →
      entry_is_of now r (cond v (counted way now timed.end n.entry) n.entry) ≡ entry_is_of now r n.entry) [
        | true ↦ λ e.
            (λ i. is_before now (counted_end way now timed.end n.entry i)
            && shares r (counted_binding way now timed.end n.entry i))
            ∙ ap (λ v. v && shares r n.entry.binding)
            (opens ∙ sym (and_parts (is_before now n.entry.end) (shares timed.row n.entry.binding) e).0)
        | false ↦ λ e. refl
      ] refl

option_mapped : {X : Type 0} (g : X → X) (o : Option X) → option_to_list (option_map g o) ≡ map g (option_to_list o)
option_mapped g None = refl
option_mapped g (Some x) = refl

module _ (now made : ℕ) where
  abbrev new : List LogEntry → List LogEntry
  new ns = filter (is_after made) ns

  pushed_new : (x : LogModel) (entry : Entry) → made ≤ x.made →
      (let n : LogEntry = record { number = x.made + 1; entry = entry } in
      new (x.entries ++ n ∷ []) ≡ new x.entries ++ n ∷ [])
  pushed_new x entry le =
      let n : LogEntry = record { number = x.made + 1; entry = entry } in
      let behind : is_after made n ≡ true = grind (arith, nat_tests, le) in
      filter_joined (is_after made) x.entries (n ∷ [])
      ∙ ap (λ v. new x.entries ++ cond v (n ∷ []) []) behind

  used_new : (way : Way) (timed : TimedRow) (ns : List LogEntry) →
      new (map (use_entry way now timed) ns) ≡ map (use_entry way now timed) (new ns)
  used_new way timed ns = filter_seen (is_after made) (use_entry way now timed) ns

  -- An entry that a leg makes is open after the leg.
  made_open : (timed : TimedRow) (x : LogModel) → CanCome now x (Made timed) →
      open_of now timed.row (after_leg now (Made timed) x)
      ≡ Some (record { number = x.made + 1; entry = made_by now timed })
  made_open timed x comes = find_pushed (λ n. entry_is_of now timed.row n.entry) x.entries _ comes.1
      (made_is_of now timed comes.0)

  -- ONE LEG

  first_is : (p : Passage) (x : LogModel) → new x.entries ≡ [] → made ≤ x.made → CanCome now x p →
      new (after_leg now p x).entries ≡ made_entry now p (after_leg now p x)
  first_is Nothing x none le comes = none
  first_is (Made timed) x none le comes =
      pushed_new x (made_by now timed) le
      ∙ (ap (λ (ns : List LogEntry). ns ++ record { number = x.made + 1; entry = made_by now timed } ∷ []) none
      ∙ sym (ap option_to_list (made_open timed x comes)))
  first_is (Out timed) x none le comes = used_new Outgoing timed x.entries ∙
      ap (map (use_entry Outgoing now timed)) none
  first_is (In timed) x none le comes = used_new Incoming timed x.entries ∙ ap (map (use_entry Incoming now timed)) none
  first_is (Dropped loss) x none le comes = none

  -- A SECOND LEG AFTER IT

  -- The entry that the first leg made is open before the second leg.
  abbrev IsThere : Passage → LogModel → Type 0
  IsThere (Made timed) x = (n : LogEntry) × (open_of now timed.row x ≡ Some n)
  IsThere _ x = Unit {0}

  first_there : (p : Passage) (x : LogModel) → CanCome now x p → IsThere p (after_leg now p x)
  first_there Nothing x comes = tt
  first_there (Made timed) x comes = (_, made_open timed x comes)
  first_there (Out timed) x comes = tt
  first_there (In timed) x comes = tt
  first_there (Dropped loss) x comes = tt

  by_entries : (p : Passage) (x y : LogModel) → x.entries ≡ y.entries → made_entry now p x ≡ made_entry now p y
  by_entries Nothing x y same = refl
  by_entries (Made timed) x y same =
      ap (λ (ns : List LogEntry). option_to_list (find (λ n. entry_is_of now timed.row n.entry) ns)) same
  by_entries (Out timed) x y same = refl
  by_entries (In timed) x y same = refl
  by_entries (Dropped loss) x y same = refl

  by_push : (p : Passage) (x : LogModel) (other : TimedRow) → IsThere p x →
      made_entry now p (after_leg now (Made other) x) ≡ made_entry now p x
  by_push Nothing x other there = refl
  by_push (Made timed) x other there =
      ap option_to_list (find_before (λ n. entry_is_of now timed.row n.entry) x.entries _ there.0 there.1 ∙ sym there.1)
  by_push (Out timed) x other there = refl
  by_push (In timed) x other there = refl
  by_push (Dropped loss) x other there = refl

  by_use : (p : Passage) (x : LogModel) (way : Way) (other : TimedRow) → is_before now other.end ≡ true →
      made_entry now p (with_use way now other x) ≡ map (use_entry way now other) (made_entry now p x)
  by_use Nothing x way other opens = refl
  by_use (Made timed) x way other opens =
      ap option_to_list (find_mapped (λ n. entry_is_of now timed.row n.entry) (use_entry way now other)
      (stays_of way now other opens timed.row) x.entries)
      ∙ option_mapped (use_entry way now other) (open_of now timed.row x)
  by_use (Out timed) x way other opens = refl
  by_use (In timed) x way other opens = refl
  by_use (Dropped loss) x way other opens = refl

  second_use : (p : Passage) (x : LogModel) (way : Way) (other : TimedRow) → is_before now other.end ≡ true →
      new x.entries ≡ made_entry now p x →
      new (with_use way now other x).entries ≡ made_entry now p (with_use way now other x) ++ []
  second_use p x way other opens is =
      used_new way other x.entries
      ∙ (ap (map (use_entry way now other)) is
      ∙ (sym (by_use p x way other opens) ∙ sym (append-nil (made_entry now p (with_use way now other x)))))

  second_is : (p q : Passage) (x : LogModel) → made ≤ x.made → CanCome now x q → IsThere p x →
      new x.entries ≡ made_entry now p x →
      new (after_leg now q x).entries ≡ made_entry now p (after_leg now q x) ++ made_entry now q (after_leg now q x)
  second_is p Nothing x le comes there is = is ∙ sym (append-nil (made_entry now p x))
  second_is p (Made other) x le comes there is =
      let n : LogEntry = record { number = x.made + 1; entry = made_by now other } in
      pushed_new x (made_by now other) le
      ∙ (ap (λ (ns : List LogEntry). ns ++ n ∷ []) (is ∙ sym (by_push p x other there))
      ∙ ap (λ (ns : List LogEntry). made_entry now p (after_leg now (Made other) x) ++ ns)
      (sym (ap option_to_list (made_open other x comes))))
  second_is p (Out other) x le comes there is = second_use p x Outgoing other comes is
  second_is p (In other) x le comes there is = second_use p x Incoming other comes is
  second_is p (Dropped loss) x le comes there is =
      is ∙ (by_entries p x (after_leg now (Dropped loss) x) refl
      ∙ sym (append-nil (made_entry now p (after_leg now (Dropped loss) x))))

-- BOTH

pub made_is : (now : ℕ) (first second : Passage) (log : LogModel) → IsNumbered log → CanCome now log first →
    CanCome now (after_leg now first log) second →
    (let last : LogModel = after_leg now second (after_leg now first log) in
    made_entry now first last ++ made_entry now second last ≡ filter (is_after log.made) last.entries)
made_is now first second log numbered comes then =
    let mid : LogModel = after_leg now first log in
    sym (second_is now log.made first second mid (more_leg now first log) then
    (first_there now log.made first log comes)
    (first_is now log.made first log (none_behind log.made log.entries numbered) (omega arith) comes))

-- The saved entries of a log, inserted one by one.
use Rattle.std.proofs.lemmas.{Grind.common_steps, Bool.Decides.nat_tests}
use Rattle.std.proofs.Common.{◌≡◌, ℕ, ◌+◌, ◌<◌, ◌≤◌, inl, inr, true, false, cond, List, [], ◌∷◌, ◌++◌, length, map, take, get_or, Option, Some, None, refl, sym, ◌∙◌, ap, subst, arith}
use Rattle.std.{specs.Prelude.filter, proofs.lemmas.{Bool.true≢false, List.{take_all, take_more}, Option.same_Some}}
use Rattle.napt_rules.specs.Prelude.{Each}
use Rattle.napt_account.specs.declared.{log.LogEntry.LogEntry, open_entries.{DueEntry.DueEntry, EntryKey.EntryKey, OpenEntry.OpenEntry, OpenEntries.OpenEntries}}
use Rattle.napt_account.specs.{Log.LogModel, LogParts.{IsNumbered, NumbersAscend, is_open, kept_at}}
use Rattle.napt_account.specs.OpenEntries.{AreKeyed, Has, entry_key, external_eq, open_at, entry_at, is_queued, IsIndexed, IsIndexedExcept, OpenEntriesShow}
use Rattle.napt_account.proofs.{EndOrderings.{each_has, filter_has, has_left, has_parts}, DistinctKeys.keyed_before}
use Rattle.napt_account.proofs.OpenEntries.{external_flip, external_itself, indexed_but, open_entry, under}

module _ (ls : List LogEntry) (keyed : AreKeyed (map (λ l. l.entry.binding) ls)) (many : ℕ) where
  -- The map has the first entries, and no others.
  pub record HasFirst (k : ℕ) (all : OpenEntries) : Type 0 where
    pub indexed : IsIndexed all
    pub made : all.made ≡ many
    pub there : (x : EntryKey) (l : LogEntry) → entry_at all x ≡ Some l → Has (take k ls) l
    pub has : (l : LogEntry) → Has (take k ls) l → entry_at all (entry_key l.entry.binding) ≡ Some l

  pub has_none : (all : OpenEntries) → ((x : EntryKey) → open_at all x ≡ None) →
      ((d : DueEntry) → is_queued all d ≡ false) → all.made ≡ many → HasFirst 0 all
  has_none all opens queue made = record {
    indexed = record {
      placed = λ x o at. cc (opens x, at);
      queued = λ due. grind (arith, common_steps, nat_tests, opens, queue);
    };
    made = made;
    there = λ x l at. grind (arith, common_steps, opens);
    has = λ l h. absurd h;
  }

  module _ (all : List LogEntry) (same : all ≡ ls) (k : ℕ) (d : LogEntry) (lt : k < length all) (old new : OpenEntries)
      (has : HasFirst k old) where
    abbrev l : LogEntry
    l = get_or all k d

    is : l ≡ get_or ls k d
    is = ap (λ (xs : List LogEntry). get_or xs k d) same

    below : k < length ls
    below = subst (λ (xs : List LogEntry). k < length xs) same lt

    abbrev key : EntryKey
    key = entry_key l.entry.binding

    other : (m : LogEntry) → Has (take k ls) m → external_eq key (entry_key m.entry.binding) ≡ false
    other m h = external_flip key (entry_key m.entry.binding)
        ∙ subst (λ (n : LogEntry). external_eq (entry_key m.entry.binding) (entry_key n.entry.binding) ≡ false)
        (sym is)
        (keyed_before (λ l. l.entry.binding) ls keyed k d below m h)

    free : (o : Option OpenEntry) → open_at old key ≡ o → o ≡ None
    free None at = refl
    free (Some o) at =
        let here = open_entry old key o at in
        absurd (true≢false (sym (external_itself key) ∙
        (ap (external_eq key) (under old has.indexed key o.numbered here)
        ∙ other o.numbered (has.there key o.numbered here))))

    pub but : IsIndexedExcept key None old
    but = let none = free (open_at old key) refl in grind (arith, common_steps, indexed_but)

    first_next : take (k + 1) ls ≡ take k ls ++ l ∷ []
    first_next = take_more ls k d below ∙ ap (λ (x : LogEntry). take k ls ++ x ∷ []) (sym is)

    last : Has (take k ls ++ l ∷ []) l
    last = has_right (take k ls)
      where
        has_right : (xs : List LogEntry) → Has (xs ++ l ∷ []) l
        has_right [] = inl refl
        has_right (x ∷ xs) = inr (has_right xs)

    pub has_next : new.made ≡ old.made → IsIndexed new → ((x : EntryKey) → entry_at new x
        ≡ cond (external_eq key x) (Some l) (entry_at old x)) → HasFirst (k + 1) new
    has_next made indexed entries = record {
      indexed = indexed;
      made = made ∙ has.made;
      there = λ x m at. subst (λ (ms : List LogEntry). Has ms m) (sym first_next)
          (elim (external_eq key x) as (λ v. cond v (Some l) (entry_at old x) ≡ Some m → Has (take k ls ++ l ∷ []) m) [
            | true ↦ λ here. subst (Has (take k ls ++ l ∷ [])) (same_Some l m here) last
            | false ↦ λ there. has_left (take k ls) (l ∷ []) m (has.there x m there)
          ] (sym (entries x) ∙ at));
      has = λ m h. elim (has_parts (take k ls) (l ∷ []) m (subst (λ (ms : List LogEntry). Has ms m) first_next h)) [
        | inl first ↦ entries (entry_key m.entry.binding)
            ∙ (ap (λ v. cond v (Some l) (entry_at old (entry_key m.entry.binding))) (other m first)
            ∙ has.has m first)
        | inr one ↦ elim one [
          | inl same ↦ subst (λ (n : LogEntry). entry_at new (entry_key n.entry.binding) ≡ Some n) same
              (entries key ∙ ap (λ v. cond v (Some l) (entry_at old key)) (external_itself key))
          | inr none ↦ absurd none
        ]
      ];
    }

-- If all entries were inserted, they are the open entries of the log.
pub has_all : (log : LogModel) (keyed : AreKeyed (map (λ l. l.entry.binding) log.entries)) (k : ℕ) (all : OpenEntries) →
    length log.entries ≤ k → HasFirst log.entries keyed log.made k all → (now most : ℕ) →
    kept_at now log ≡ log → IsNumbered log → NumbersAscend 1 log.entries →
    Each (λ l. (l.entry.sent ≤ most) × (l.entry.received ≤ most)) log.entries → OpenEntriesShow now most log all
has_all log keyed k all past has now most kept numbered rises few =
    let whole : take k log.entries ≡ log.entries = take_all k log.entries past in
    let same : filter (is_open now) log.entries ≡ log.entries = ap (λ (l : LogModel). l.entries) kept in
    let there : (x : EntryKey) (l : LogEntry) → entry_at all x ≡ Some l → Has log.entries l =
    λ x l at. subst (λ (ls : List LogEntry). Has ls l) whole (has.there x l at) in
    record {
      indexed = has.indexed;
      made = has.made;
      numbered = numbered;
      rises = rises;
      has = λ l at opens. has.has l (subst (λ (ls : List LogEntry). Has ls l) (sym whole) at);
      there = there;
      unended = λ x l at. (filter_has (is_open now) log.entries l
          (subst (λ (ls : List LogEntry). Has ls l) (sym same) (there x l at))).1;
      few = λ x l at. each_has (λ l. (l.entry.sent ≤ most) × (l.entry.received ≤ most)) log.entries l few
          (there x l at);
    }

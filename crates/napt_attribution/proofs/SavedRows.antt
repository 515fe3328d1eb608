-- One more row changes the entries of the rows before it.
use Rattle.std.proofs.{Common.{◌≡◌, ℕ, ◌+◌, ◌<◌, ◌≤◌, ◌==◌, Bool, true, false, not, cond, List, [], ◌∷◌, ◌++◌, map, Option, Some, None, refl, sym, ◌∙◌, ap, ap₂, subst, arith, append-nil, lit≤, rules}, lemmas.{Bool.Decides.nat_tests, List.map-append}}
use Rattle.std.specs.{BTreeMap.BTreeMap, Option.{IsSome, is_some, option_or}}
use Rattle.napt_wire.specs.declared.{Cause.TheVariants.OverQuota, Protocol.Protocol}
use Rattle.napt_rules.specs.{Prelude.Each, declared.Row.Row}
use Rattle.napt_account.{specs.{declared.log.{Entry.Entry, LogEntry.LogEntry, Shortage.Shortage}, LogParts.NumbersAscend}, proofs.AscendingNumbers.rises_pushed}
use Rattle.napt_log_text.specs.{LogRows.{number_field, saved_row}, Rows.shortage_number, declared.{event.LogEvent.{LogEvent, TheVariants.{Made, Repeated, Ended, Living, Refused}}, log_row.{LogField.TheVariants.{Empty, Number}, LogRow.LogRow}}}
use Rattle.napt_attribution.specs.{SavedLogs.{EventFollows, HasBinding, HasOpenEntry, TracksEntries, RowsTrackEntries, RowsTrackEvents, bare_entry, row_end_among, end_told, entries_in, entry_of, entry_with_end, has_no_end, made_in, entry_if}, declared.{requests.HolderRequest.HolderRequest, kept_entries.KeptEntries.KeptEntries, saved_rows.SavedRows.SavedRows}}

-- EVENTS

made_more : (es : List LogEvent) (e : LogEvent) → made_in (es ++ e ∷ []) ≡ made_in es ++ made_in (e ∷ [])
made_more [] e = refl
made_more (Made l ∷ es) e = ap (λ (ls : List LogEntry). l ∷ ls) (made_more es e)
made_more (Repeated l ∷ es) e = ap (λ (ls : List LogEntry). l ∷ ls) (made_more es e)
made_more (Ended l ∷ es) e = made_more es e
made_more (Living l ∷ es) e = made_more es e
made_more (Refused s ∷ es) e = made_more es e

or_told : (b : Bool) (x a c : Option ℕ) → cond b (option_or x (option_or a c)) (option_or a c)
    ≡ option_or (cond b (option_or x a) a) c
or_told true None a c = refl
or_told true (Some x) a c = refl
or_told false x a c = refl

or_none : (a : Option ℕ) → option_or a None ≡ a
or_none None = refl
or_none (Some x) = refl

end_more : (es : List LogEvent) (e : LogEvent) (number : ℕ) →
    row_end_among (es ++ e ∷ []) number ≡ option_or (row_end_among es number) (row_end_among (e ∷ []) number)
end_more [] e number = refl
end_more (Made l ∷ es) e number = end_more es e number
end_more (Repeated l ∷ es) e number = end_more es e number
end_more (Ended l ∷ es) e number = ap (end_told l number) (end_more es e number)
    ∙ or_told (l.number == number) l.entry.end (row_end_among es number) (row_end_among (e ∷ []) number)
end_more (Living l ∷ es) e number = ap (end_told l number) (end_more es e number)
    ∙ or_told (l.number == number) l.entry.end (row_end_among es number) (row_end_among (e ∷ []) number)
end_more (Refused s ∷ es) e number = end_more es e number

abbrev with_ends : (ℕ → Option ℕ) → List LogEntry → List LogEntry
with_ends end ms = map (λ m. bare_entry (end m.number) m) ms

-- A row that reports no end.
same_ends : (es : List LogEvent) (e : LogEvent) → ((number : ℕ) → row_end_among (e ∷ []) number ≡ None) →
    row_end_among (es ++ e ∷ []) ≡ row_end_among es
same_ends es e none = λ i number. (end_more es e number ∙
    (ap (option_or (row_end_among es number)) (none number) ∙ or_none (row_end_among es number))) i

pub entries_made : (es : List LogEvent) (l : LogEntry) → row_end_among es l.number ≡ None →
    entries_in (es ++ Made l ∷ []) ≡ entries_in es ++ bare_entry None l ∷ []
entries_made es l none = ap₂ with_ends (same_ends es (Made l) (λ number. refl)) (made_more es (Made l))
    ∙ (map-append (λ (m : LogEntry). bare_entry (row_end_among es m.number) m) (made_in es) (l ∷ [])
    ∙ ap (λ (x : Option ℕ). entries_in es ++ bare_entry x l ∷ []) none)

-- A row that repeats a binding has the entry of one that makes it.
pub repeated_as_made : (asked : List HolderRequest) (rows : SavedRows) (es : List LogEvent) (l : LogEntry) →
    RowsTrackEvents asked rows (es ++ Made l ∷ []) → RowsTrackEvents asked rows (es ++ Repeated l ∷ [])
repeated_as_made asked rows es l tells =
    let ends : row_end_among (es ++ Made l ∷ []) ≡ row_end_among (es ++ Repeated l ∷ []) =
    same_ends es (Made l) (λ number. refl) ∙ sym (same_ends es (Repeated l) (λ number. refl)) in
    let made : made_in (es ++ Made l ∷ []) ≡ made_in (es ++ Repeated l ∷ []) =
    made_more es (Made l) ∙ sym (made_more es (Repeated l)) in record {
      keeps = subst (RowsTrackEntries asked rows) (ap₂ with_ends ends made) tells.keeps;
      ends = λ number above. (λ i. sym ends i number) ∙ tells.ends number above;
    }

pub entries_same : (es : List LogEvent) (e : LogEvent) → made_in (e ∷ []) ≡ [] →
    ((number : ℕ) → row_end_among (e ∷ []) number ≡ None) → entries_in (es ++ e ∷ []) ≡ entries_in es
entries_same es e unmade none = ap₂ with_ends (same_ends es e none)
    (made_more es e ∙ (ap (λ (ls : List LogEntry). made_in es ++ ls) unmade ∙ append-nil (made_in es)))

one_ended : (b : Bool) (was end : Option ℕ) (m : LogEntry) → (b ≡ true → was ≡ None) →
    bare_entry (option_or was (cond b (option_or end None) None)) m
    ≡ cond b (record (bare_entry was m) { entry = record (bare_entry was m).entry { end = end } }) (bare_entry was m)
one_ended true was end m none =
    ap (λ (x : Option ℕ). bare_entry x m) (ap (λ (x : Option ℕ). option_or x (option_or end None)) (none refl) ∙
    or_none end)
one_ended false was end m none = ap (λ (x : Option ℕ). bare_entry x m) (or_none was)

mapped : (f g h : LogEntry → LogEntry) → ((m : LogEntry) → f m ≡ g (h m)) → (ms : List LogEntry) → map f ms ≡
    map g (map h ms)
mapped f g h same [] = refl
mapped f g h same (m ∷ ms) = ap₂ (λ (x : LogEntry) (xs : List LogEntry). x ∷ xs) (same m) (mapped f g h same ms)

number_same : (n q : ℕ) → (n == q) ≡ true → n ≡ q
number_same n q h = grind (arith, nat_tests)

-- A row that reports this end of the entry of this number.
pub entries_ended : (es : List LogEvent) (e : LogEvent) (l : LogEntry) → made_in (e ∷ []) ≡ [] →
    ((number : ℕ) → row_end_among (e ∷ []) number ≡ end_told l number None) → row_end_among es l.number ≡ None →
    entries_in (es ++ e ∷ []) ≡ map (entry_with_end l.number l.entry.end) (entries_in es)
entries_ended es e l unmade tells none =
    ap₂ with_ends (λ i number. (end_more es e number ∙ ap (option_or (row_end_among es number)) (tells number)) i)
    (made_more es e ∙ (ap (λ (ls : List LogEntry). made_in es ++ ls) unmade ∙ append-nil (made_in es)))
    ∙ mapped _ _ _ (λ m. one_ended (l.number == m.number) (row_end_among es m.number) l.entry.end m
    (λ same. subst (λ (n : ℕ). row_end_among es n ≡ None) (number_same l.number m.number same) none)) (made_in es)

-- AN ENTRY WITHOUT AN END

unended : (b : Bool) (end : Option ℕ) (e : Entry) (binding : Row) →
    HasBinding binding (cond (not (is_some end)) (Some e) None) → end ≡ None
unended b None e binding h = refl
unended b (Some x) e binding h = absurd h

no_end : (end : ℕ → Option ℕ) (ms : List LogEntry) (n : ℕ) (binding : Row) →
    HasBinding binding (entry_if has_no_end (entry_of (with_ends end ms) n)) → end n ≡ None
no_end end [] n binding h = absurd h
no_end end (m ∷ ms) n binding h =
    elim (m.number == n) as (λ b. (m.number == n) ≡ b → HasBinding binding (entry_if has_no_end
    (cond b (Some (bare_entry (end m.number) m).entry) (entry_of (with_ends end ms) n))) → end n ≡ None) [
      | true ↦ λ same has. subst (λ (k : ℕ). end k ≡ None) (number_same m.number n same)
          (unended true (end m.number) (bare_entry (end m.number) m).entry binding has)
      | false ↦ λ same has. no_end end ms n binding has
    ] refl h

pub open_no_end : (es : List LogEvent) (l : LogEntry) → HasOpenEntry (entries_in es) l →
    row_end_among es l.number ≡ None
open_no_end es l h = no_end (row_end_among es) (made_in es) l.number l.entry.binding h

pub open_made : (made : ℕ) (ls : List LogEntry) (l : LogEntry) → Each (λ m. m.number ≤ made) ls → HasOpenEntry ls l →
    l.number ≤ made
open_made made [] l each h = absurd h
open_made made (m ∷ ls) l each h =
    elim (m.number == l.number) as (λ b. (m.number == l.number) ≡ b → HasBinding l.entry.binding (entry_if has_no_end
    (cond b (Some m.entry) (entry_of ls l.number))) → l.number ≤ made) [
      | true ↦ λ same has. subst (λ (k : ℕ). k ≤ made) (number_same m.number l.number same) each.0
      | false ↦ λ same has. open_made made ls l each.1 has
    ] refl h

-- NUMBERS

each_ended : (made ended : ℕ) (end : Option ℕ) (ls : List LogEntry) → Each (λ m. m.number ≤ made) ls →
    Each (λ m. m.number ≤ made) (map (entry_with_end ended end) ls)
each_ended made ended end [] h = tt
each_ended made ended end (l ∷ ls) h = (
  elim (ended == l.number) as (λ b. (cond b (record l { entry = record l.entry { end = end } }) l).number ≤ made)
      [ true ↦ h.0 | false ↦ h.0 ],
  each_ended made ended end ls h.1,
)

each_pushed : (made number : ℕ) (ls : List LogEntry) (l : LogEntry) → Each (λ m. m.number ≤ made) ls → made < number →
    l.number ≡ number → Each (λ m. m.number ≤ number) (ls ++ l ∷ [])
each_pushed made number [] l h less is = (omega (arith, is), tt)
each_pushed made number (m ∷ ls) l h less is =
    (let first = h.0 in omega (arith, first, less), each_pushed made number ls l h.1 less is)

each_below : (made number : ℕ) (ls : List LogEntry) → Each (λ m. m.number ≤ made) ls → made < number →
    Each (λ m. m.number < number) ls
each_below made number [] h less = tt
each_below made number (m ∷ ls) h less = (
  let first = h.0 in omega (arith, first, less),
  each_below made number ls h.1 less,
)

each_before : (made number : ℕ) (ls : List LogEntry) → Each (λ m. m.number ≤ made) ls → made < number →
    Each (λ m. m.number + 1 ≤ number) ls
each_before made number [] h less = tt
each_before made number (m ∷ ls) h less =
    (let first = h.0 in omega (arith, first, less), each_before made number ls h.1 less)

pub rises_more : (made : ℕ) (ls : List LogEntry) (l : LogEntry) → NumbersAscend 1 ls → Each (λ m. m.number ≤ made) ls →
    made < l.number → NumbersAscend 1 (ls ++ l ∷ [])
rises_more made ls l rises each less =
    rises_pushed 1 ls l rises (each_before made l.number ls each less) (omega (arith, less))

-- ONE ROW MORE

module _ (asked : List HolderRequest) (old new : SavedRows) (es : List LogEvent)
    (tells : RowsTrackEvents asked old es) where
  pub told_made : (l : LogEntry) → old.made < l.number → new.made ≡ l.number → new.unrepeated.entries ≡ [] →
      TracksEntries asked new.kept (entries_in es ++ bare_entry None l ∷ []) →
      EventFollows (entries_in es) (Made l) × RowsTrackEvents asked new (es ++ Made l ∷ [])
  told_made l less made none kept =
      let same : row_end_among (es ++ Made l ∷ []) ≡ row_end_among es = same_ends es (Made l) (λ number. refl) in
      let here : row_end_among es l.number ≡ None = tells.ends l.number less in (
        each_below old.made l.number (entries_in es) tells.keeps.made less,
        record {
          keeps = subst (RowsTrackEntries asked new) (sym (entries_made es l here)) (record {
            kept = kept;
            made = subst (λ (n : ℕ). Each (λ m. m.number ≤ n) (entries_in es ++ bare_entry None l ∷ [])) (sym made)
                (each_pushed old.made l.number (entries_in es) (bare_entry None l) tells.keeps.made less refl);
            repeated = none;
          });
          ends = λ number above. (λ i. same i number) ∙ tells.ends number (omega (arith, above, less, made));
        },
      )

  ends_more : (e : LogEvent) (l : LogEntry) → ((number : ℕ) → row_end_among (e ∷ []) number ≡ end_told l number None) →
      l.number ≤ old.made → (number : ℕ) → old.made < number → row_end_among (es ++ e ∷ []) number ≡ None
  ends_more e l tells_end le number above =
      let other : (l.number == number) ≡ false = grind (arith, nat_tests) in
      end_more es e number ∙ (ap₂ option_or (tells.ends number above) (tells_end number)
      ∙ ap (λ (b : Bool). option_or None (cond b (option_or l.entry.end None) None)) other)

  pub told_ended : (e : LogEvent) (l : LogEntry) → made_in (e ∷ []) ≡ [] →
      ((number : ℕ) → row_end_among (e ∷ []) number ≡ end_told l number None) → HasOpenEntry (entries_in es) l →
      RowsTrackEntries asked new (map (entry_with_end l.number l.entry.end) (entries_in es)) → new.made ≡ old.made →
      RowsTrackEvents asked new (es ++ e ∷ [])
  told_ended e l unmade tells_end has keeps made = record {
    keeps = subst (RowsTrackEntries asked new) (sym (entries_ended es e l unmade tells_end (open_no_end es l has)))
        keeps;
    ends = λ number above. ends_more e l tells_end (open_made old.made (entries_in es) l tells.keeps.made has) number
        (omega (arith, above, made));
  }

  pub told_same : (e : LogEvent) → made_in (e ∷ []) ≡ [] → ((number : ℕ) → row_end_among (e ∷ []) number ≡ None) →
      new.kept ≡ old.kept → new.made ≡ old.made → new.unrepeated ≡ old.unrepeated →
      RowsTrackEvents asked new (es ++ e ∷ [])
  told_same e unmade none kept made repeated = record {
    keeps = subst (RowsTrackEntries asked new) (sym (entries_same es e unmade none)) (record {
      kept = subst (λ (k : KeptEntries). TracksEntries asked k (entries_in es)) (sym kept) tells.keeps.kept;
      made = subst (λ (n : ℕ). Each (λ m. m.number ≤ n) (entries_in es)) (sym made) tells.keeps.made;
      repeated = ap (λ (m : BTreeMap (Protocol × ℕ × ℕ) ℕ). m.entries) repeated ∙ tells.keeps.repeated;
    });
    ends = λ number above. (λ i. same_ends es e none i number) ∙ tells.ends number (omega (arith, above, made));
  }

pub kept_ended : (asked : List HolderRequest) (old new : SavedRows) (ls : List LogEntry) (number end : ℕ) →
    RowsTrackEntries asked old ls → TracksEntries asked new.kept (map (entry_with_end number (Some end)) ls) →
    new.made ≡ old.made →
    new.unrepeated.entries ≡ [] → RowsTrackEntries asked new (map (entry_with_end number (Some end)) ls)
kept_ended asked old new ls number end keeps kept made none = record {
  kept = kept;
  made = subst (λ (n : ℕ). Each (λ m. m.number ≤ n) (map (entry_with_end number (Some end)) ls)) (sym made)
      (each_ended old.made number (Some end) ls keeps.made);
  repeated = none;
}

-- WHICH EVENT IT IS

pub number_of : {m n : ℕ} → Number m ≡ Number n → m ≡ n
number_of h = cc

shortage_at_least : (s : Shortage) → 12 ≤ shortage_number s.cause
shortage_at_least s = elim s.cause as (λ cause. 12 ≤ shortage_number cause) [ OverQuota ↦ lit≤ tt | _ ↦ lit≤ tt ]

module _ (row : LogRow) (P : LogEvent → Type 0) where
  pub only_made : row.event ≡ Number 8 → ((l : LogEntry) → row ≡ saved_row (Made l) → P (Made l)) →
      ((l : LogEntry) → P (Made l) → P (Repeated l)) → (e : LogEvent) → row ≡ saved_row e → P e
  only_made is h also (Made l) same = h l same
  only_made is h also (Repeated l) same = also l (h l same)
  only_made is h also (Ended l) same = let other = ap (λ (r : LogRow). r.event) same in absurd (cc (is, other))
  only_made is h also (Living l) same = let other = ap (λ (r : LogRow). r.event) same in absurd (cc (is, other))
  only_made is h also (Refused s) same = let e : shortage_number s.cause ≡ 8 =
      number_of (sym (ap (λ (r : LogRow). r.event) same) ∙ is) in
      let least = shortage_at_least s in absurd (omega (arith, e, least))

  pub only_ended : row.event ≡ Number 9 → ((l : LogEntry) → row ≡ saved_row (Ended l) → P (Ended l)) → (e : LogEvent) →
      row ≡ saved_row e → P e
  only_ended is h (Made l) same = let other = ap (λ (r : LogRow). r.event) same in absurd (cc (is, other))
  only_ended is h (Repeated l) same = let other = ap (λ (r : LogRow). r.event) same in absurd (cc (is, other))
  only_ended is h (Ended l) same = h l same
  only_ended is h (Living l) same = let other = ap (λ (r : LogRow). r.event) same in absurd (cc (is, other))
  only_ended is h (Refused s) same = let e : shortage_number s.cause ≡ 9 =
      number_of (sym (ap (λ (r : LogRow). r.event) same) ∙ is) in
      let least = shortage_at_least s in absurd (omega (arith, e, least))

  pub only_living : row.event ≡ Empty → ((l : LogEntry) → row ≡ saved_row (Living l) → P (Living l)) → (e : LogEvent) →
      row ≡ saved_row e → P e
  only_living is h (Made l) same = let other = ap (λ (r : LogRow). r.event) same in absurd (cc (is, other))
  only_living is h (Repeated l) same = let other = ap (λ (r : LogRow). r.event) same in absurd (cc (is, other))
  only_living is h (Ended l) same = let other = ap (λ (r : LogRow). r.event) same in absurd (cc (is, other))
  only_living is h (Living l) same = h l same
  only_living is h (Refused s) same = let other = ap (λ (r : LogRow). r.event) same in absurd (cc (is, other))

  pub only_refused : (n : ℕ) → row.event ≡ Number n → 10 ≤ n → ((s : Shortage) → P (Refused s)) → (e : LogEvent) →
      row ≡ saved_row e → P e
  only_refused n is le h (Made l) same =
      let e : n ≡ 8 = number_of (sym is ∙ ap (λ (r : LogRow). r.event) same) in absurd (omega (arith, e, le))
  only_refused n is le h (Repeated l) same =
      let e : n ≡ 8 = number_of (sym is ∙ ap (λ (r : LogRow). r.event) same) in absurd (omega (arith, e, le))
  only_refused n is le h (Ended l) same =
      let e : n ≡ 9 = number_of (sym is ∙ ap (λ (r : LogRow). r.event) same) in absurd (omega (arith, e, le))
  only_refused n is le h (Living l) same = let other = ap (λ (r : LogRow). r.event) same in absurd (cc (is, other))
  only_refused n is le h (Refused s) same = h s

-- WHAT A ROW TELLS

pub time_some : (end : Option ℕ) (at : ℕ) → number_field end ≡ Number at → end ≡ Some at
time_some None at h = cc
time_some (Some n) at h = cc

pub time_none : (end : Option ℕ) → number_field end ≡ Empty → end ≡ None
time_none None h = refl
time_none (Some n) h = cc

pub no_end_told : (l : LogEntry) → l.entry.end ≡ None → (number : ℕ) → end_told l number None ≡ None
no_end_told l none number = ap (λ (x : Option ℕ). cond (l.number == number) (option_or x None) None) none
    ∙ elim (l.number == number) as (λ b. (let none : Option ℕ = None in cond b none none ≡ none))
    [ true ↦ refl | false ↦ refl ]

pub is_open : (ls : List LogEntry) (l : LogEntry) (n : ℕ) (e : Entry) → n ≡ l.number →
    entry_if has_no_end (entry_of ls n) ≡ Some e → e.binding ≡ l.entry.binding → HasOpenEntry ls l
is_open ls l n e same found binding = subst (HasBinding l.entry.binding)
    (sym (ap (λ (k : ℕ). entry_if has_no_end (entry_of ls k)) (sym same) ∙ found)) binding

has_some : (binding : Row) (o : Option Entry) → HasBinding binding o → IsSome o
has_some binding None h = absurd h
has_some binding (Some e) h = search rules

pub open_some : (ls : List LogEntry) (l : LogEntry) (n : ℕ) → n ≡ l.number → HasOpenEntry ls l →
    IsSome (entry_if has_no_end (entry_of ls n))
open_some ls l n same has = subst (λ (k : ℕ). IsSome (entry_if has_no_end (entry_of ls k))) (sym same)
    (has_some l.entry.binding _ has)

-- Maps of entries by their numbers contain the entries that pass a test.
use Rattle.std.proofs.{Common.{◌≡◌, ◌≢◌, ℕ, ◌+◌, ◌<◌, ◌≤◌, ◌==◌, Bool, true, false, not, ◌&&◌, ◌||◌, cond, List, [], ◌∷◌, ◌++◌, map, filter, Option, Some, None, refl, sym, ◌∙◌, ap, ap₂, subst, arith}, lemmas.{Grind.common_steps, Bool.Decides.nat_tests}}
use Rattle.std.proofs.lemmas.Map.{Lookups.exact_unsigned, Made.update_all_distinct, Keys.IsDistinct-from_sorted}
use Rattle.std.specs.{BTreeMap.{BTreeMap, InsertsAll, IsOrdered, get, is_at}, Cmp.{eq_by_cmp_equiv, nat_cmp_total}, Prelude.T, FinMap.Entries.{below_all, is_sorted, same_entries}, List.{AllByRecursion, Sorted.IsStrictlySortedBy}, Map.{lookup, keys_of, values_of}, Option.{is_some, option_and_then, option_map, option_or}, Ordering.{eq_by_cmp, is_lt, nat_cmp}, declared.cmp.Ordering.{Ordering, TheVariants.Less}}
use Rattle.napt_rules.specs.Prelude.{Each}
use Rattle.napt_account.specs.{declared.log.{Entry.Entry, LogEntry.LogEntry}, LogParts.NumbersAscend}
use Rattle.napt_account.proofs.AscendingNumbers.{rises_above, rises_filter, rises_mapped}
use Rattle.napt_attribution.specs.{RequestParties.{is_asked_about, is_wanted}, SavedLogs.{TracksEntries, asked_entries, entry_of, entry_with_end, has_no_end, is_ended_and_asked, entry_if}, declared.{requests.HolderRequest.HolderRequest, kept_entries.KeptEntries.KeptEntries, wanted_endpoints.WantedEndpoints.WantedEndpoints}}

-- ONE MORE

last_above : (n : ℕ) (ls : List LogEntry) (l : LogEntry) → NumbersAscend n (ls ++ l ∷ []) → n ≤ l.number
last_above n [] l h = h.0
last_above n (m ∷ ls) l h =
    let first = h.0 in let rest = last_above (m.number + 1) ls l h.1 in omega (arith, first, rest)

pub new_number : (n : ℕ) (ls : List LogEntry) (l : LogEntry) → NumbersAscend n (ls ++ l ∷ []) →
    entry_of ls l.number ≡ None
new_number n [] l h = refl
new_number n (m ∷ ls) l h =
    let behind = last_above (m.number + 1) ls l h.1 in
    let rest = new_number (m.number + 1) ls l h.1 in
    grind (arith, nat_tests, behind, rest)

pub entry_of_pushed : (n : ℕ) (ls : List LogEntry) (l : LogEntry) → NumbersAscend n (ls ++ l ∷ []) → (number : ℕ) →
    entry_of (ls ++ l ∷ []) number ≡ cond (l.number == number) (Some l.entry) (entry_of ls number)
entry_of_pushed n [] l h number = refl
entry_of_pushed n (m ∷ ls) l h number =
    let behind = last_above (m.number + 1) ls l h.1 in
    let rest = entry_of_pushed (m.number + 1) ls l h.1 number in
    grind (arith, nat_tests, behind, rest)

-- ONE ENDS

abbrev with_end : Option ℕ → Entry → Entry
with_end end entry = record entry { end = end }

nothing : (b : Bool) → (let none : Option Entry = None in none ≡ cond b none none)
nothing true = refl
nothing false = refl

entry_of_ended : (ended : ℕ) (end : Option ℕ) (ls : List LogEntry) (number : ℕ) →
    entry_of (map (entry_with_end ended end) ls) number
    ≡ cond (ended == number) (option_map (with_end end) (entry_of ls number)) (entry_of ls number)
entry_of_ended ended end [] number = nothing (ended == number)
entry_of_ended ended end (l ∷ ls) number = let rest = entry_of_ended ended end ls number in
    grind (arith, nat_tests, rest)

ended_rise : (ended : ℕ) (end : Option ℕ) (n : ℕ) (ls : List LogEntry) → NumbersAscend n ls →
    NumbersAscend n (map (entry_with_end ended end) ls)
ended_rise ended end = rises_mapped (entry_with_end ended end) (λ l. grind arith)

-- WHAT PASSES A TEST

at_number : (n q : ℕ) → is_at (nat_cmp n) q ≡ (n == q)
at_number n q = grind (arith, nat_tests)

same_number : (n q : ℕ) → (n == q) ≡ true → n ≡ q
same_number n q h = grind (arith, nat_tests)

endless : (end : Option ℕ) → not (is_some end) ≡ true → end ≡ None
endless None h = refl
endless (Some n) h = cc

holds_of : (b : Bool) (x e : Entry) → cond b (Some x) None ≡ Some e → b ≡ true
holds_of true x e h = refl
holds_of false x e h = cc

some_of : (b : Bool) (x e : Entry) → cond b (Some x) None ≡ Some e → Some x ≡ Some e
some_of true x e h = h
some_of false x e h = cc

pub found_open : (o : Option Entry) (e : Entry) → entry_if has_no_end o ≡ Some e → (o ≡ Some e) × (e.end ≡ None)
found_open None e h = cc
found_open (Some x) e h =
    let same : Some x ≡ Some e = some_of (has_no_end x) x e h in (
      same,
      sym (ap (λ (o : Option Entry). option_and_then (λ (y : Entry). y.end) o) same) ∙
          endless x.end (holds_of (has_no_end x) x e h),
    )

module _ (asked : List HolderRequest) where
  abbrev is_told : Entry → Bool
  is_told = is_ended_and_asked asked

  unended_more : (b : Bool) (e : Entry) (o : Option Entry) → e.end ≡ None →
      cond b (Some e) (entry_if has_no_end o) ≡ entry_if has_no_end (cond b (Some e) o)
  unended_more true e o endless = sym (ap (λ (x : Option ℕ). cond (not (is_some x)) (Some e) None) endless)
  unended_more false e o endless = refl

  ended_more : (b : Bool) (e : Entry) (o : Option Entry) → e.end ≡ None → (b ≡ true → o ≡ None) →
      entry_if is_told o ≡ entry_if is_told (cond b (Some e) o)
  ended_more true e o endless none = ap (entry_if is_told) (none refl)
      ∙ sym (ap (λ (x : Option ℕ). cond (is_some x && is_asked_about asked e.binding.external) (Some e) None) endless)
  ended_more false e o endless none = refl

  unended_less : (b : Bool) (end : ℕ) (o : Option Entry) → cond b None (entry_if has_no_end o)
      ≡ entry_if has_no_end (cond b (option_map (with_end (Some end)) o) o)
  unended_less true end None = refl
  unended_less true end (Some e) = refl
  unended_less false end o = refl

  ended_told : (b : Bool) (end : ℕ) (o : Option Entry) (e : Entry) → (b ≡ true → o ≡ Some e) →
      is_asked_about asked e.binding.external ≡ true → cond b (Some (with_end (Some end) e)) (entry_if is_told o)
      ≡ entry_if is_told (cond b (option_map (with_end (Some end)) o) o)
  ended_told true end o e found is = sym (ap
      (λ (x : Option Entry). entry_if is_told (option_map (with_end (Some end)) x)) (found refl)
      ∙ ap (λ (x : Bool). cond x (Some (with_end (Some end) e)) None) is)
  ended_told false end o e found is = refl

  ended_untold : (b : Bool) (end : ℕ) (o : Option Entry) (e : Entry) → (b ≡ true → o ≡ Some e) → e.end ≡ None →
      is_asked_about asked e.binding.external ≡ false → entry_if is_told o
      ≡ entry_if is_told (cond b (option_map (with_end (Some end)) o) o)
  ended_untold true end o e found endless not_asked = ap (entry_if is_told) (found refl)
      ∙ (ap (λ (x : Option ℕ). cond (is_some x && is_asked_about asked e.binding.external) (Some e) None) endless
      ∙ sym (ap (λ (x : Option Entry). entry_if is_told (option_map (with_end (Some end)) x)) (found refl)
      ∙ ap (λ (x : Bool). cond x (Some (with_end (Some end) e)) None) not_asked))
  ended_untold false end o e found endless not_asked = refl

  module _ (wanted : WantedEndpoints) where
    abbrev of_maps : BTreeMap ℕ Entry → BTreeMap ℕ Entry → KeptEntries
    of_maps unended ended = record { wanted = wanted; unended = unended; ended = ended }

    pub inserted : (unended later ended : BTreeMap ℕ Entry) (entries : List LogEntry) (l : LogEntry) →
        TracksEntries asked (of_maps unended ended) entries → l.entry.end ≡ None → NumbersAscend 1 (entries ++ l ∷ []) →
        ((q : ℕ) → get nat_cmp later q ≡ cond (is_at (nat_cmp l.number) q) (Some l.entry) (get nat_cmp unended q)) →
        TracksEntries asked (of_maps later ended) (entries ++ l ∷ [])
    inserted unended later ended entries l keeps endless rises has = record {
      wanted = keeps.wanted;
      rising = rises;
      unended = λ q. has q
          ∙ (ap₂ (λ (b : Bool) (o : Option Entry). cond b (Some l.entry) o) (at_number l.number q) (keeps.unended q)
          ∙ (unended_more (l.number == q) l.entry (entry_of entries q) endless
          ∙ sym (ap (entry_if has_no_end) (entry_of_pushed 1 entries l rises q))));
      ended = λ q. keeps.ended q
          ∙ (ended_more (l.number == q) l.entry (entry_of entries q) endless
          (λ same. subst (λ (k : ℕ). entry_of entries k ≡ None) (same_number l.number q same)
          (new_number 1 entries l rises))
          ∙ sym (ap (entry_if is_told) (entry_of_pushed 1 entries l rises q)));
    }

    module _ (unended later : BTreeMap ℕ Entry) (entries : List LogEntry) (number end : ℕ) (e : Entry)
        (found : entry_of entries number ≡ Some e)
        (has : (q : ℕ) → get nat_cmp later q ≡ cond (is_at (nat_cmp number) q) None (get nat_cmp unended q)) where
      abbrev ended_entries : List LogEntry
      ended_entries = map (entry_with_end number (Some end)) entries

      found_at : (q : ℕ) → (number == q) ≡ true → entry_of entries q ≡ Some e
      found_at q same = subst (λ (k : ℕ). entry_of entries k ≡ Some e) (same_number number q same) found

      fewer : ((q : ℕ) → get nat_cmp unended q ≡ entry_if has_no_end (entry_of entries q)) → (q : ℕ) →
          get nat_cmp later q ≡ entry_if has_no_end (entry_of ended_entries q)
      fewer kept q = has q
          ∙ (ap₂ (λ (b : Bool) (o : Option Entry). cond b None o) (at_number number q) (kept q)
          ∙ (unended_less (number == q) end (entry_of entries q)
          ∙ sym (ap (entry_if has_no_end) (entry_of_ended number (Some end) entries q))))

      pub closed_told : (ended more : BTreeMap ℕ Entry) → TracksEntries asked (of_maps unended ended) entries →
          is_asked_about asked e.binding.external ≡ true →
          ((q : ℕ) → get nat_cmp more q
          ≡ cond (is_at (nat_cmp number) q) (Some (with_end (Some end) e)) (get nat_cmp ended q)) →
          TracksEntries asked (of_maps later more) ended_entries
      closed_told ended more keeps is_asked gets = record {
        wanted = keeps.wanted;
        rising = ended_rise number (Some end) 1 entries keeps.rising;
        unended = fewer keeps.unended;
        ended = λ q. gets q
            ∙ (ap₂ (λ (b : Bool) (o : Option Entry). cond b (Some (with_end (Some end) e)) o) (at_number number q)
            (keeps.ended q)
            ∙ (ended_told (number == q) end (entry_of entries q) e (found_at q) is_asked
            ∙ sym (ap (entry_if is_told) (entry_of_ended number (Some end) entries q))));
      }

      pub closed_untold : (ended : BTreeMap ℕ Entry) → TracksEntries asked (of_maps unended ended) entries →
          e.end ≡ None →
          is_asked_about asked e.binding.external ≡ false → TracksEntries asked (of_maps later ended) ended_entries
      closed_untold ended keeps endless not_asked = record {
        wanted = keeps.wanted;
        rising = ended_rise number (Some end) 1 entries keeps.rising;
        unended = fewer keeps.unended;
        ended = λ q. keeps.ended q
            ∙ (ended_untold (number == q) end (entry_of entries q) e (found_at q) endless not_asked
            ∙ sym (ap (entry_if is_told) (entry_of_ended number (Some end) entries q)));
      }

  -- ALL IN ORDER

  abbrev is_kept : Entry → Bool
  is_kept e = has_no_end e || is_told e

  either : (o : Option Entry) → option_or (entry_if has_no_end o) (entry_if is_told o) ≡ entry_if is_kept o
  either None = refl
  either (Some e) = elim (has_no_end e) as (λ b. option_or (cond b (Some e) None) (cond (is_told e) (Some e) None)
      ≡ cond (b || is_told e) (Some e) None) [ true ↦ refl | false ↦ refl ]

  asked_is_kept : (e : Entry) → is_asked_about asked e.binding.external ≡ true → is_kept e ≡ true
  asked_is_kept e is = elim (is_some e.end) as (λ b. (not b || (b && is_asked_about asked e.binding.external)) ≡ true)
      [ true ↦ is | false ↦ refl ]

  abbrev pairs : List LogEntry → List (ℕ × Entry)
  pairs ls = map (λ l. (l.number, l.entry)) ls

  abbrev kept_of : List LogEntry → List LogEntry
  kept_of ls = filter (λ l. is_kept l.entry) ls

  keys_above : (n : ℕ) (ls : List LogEntry) → Each (λ l. n + 1 ≤ l.number) ls →
      AllByRecursion (λ y. nat_cmp n y ≡ Less) (keys_of (pairs ls))
  keys_above n [] h = tt
  keys_above n (l ∷ ls) h = (let first = h.0 in grind (arith, nat_tests, first), keys_above n ls h.1)

  keys_rise : (n : ℕ) (ls : List LogEntry) → NumbersAscend n ls → IsStrictlySortedBy nat_cmp (keys_of (pairs ls))
  unfolding IsStrictlySortedBy
  keys_rise n [] h = tt
  keys_rise n (l ∷ ls) h = (keys_above l.number ls (rises_above (l.number + 1) ls h.1), keys_rise (l.number + 1) ls h.1)

  none_below : (q n : ℕ) (ls : List LogEntry) → q < n → NumbersAscend n ls → entry_of ls q ≡ None
  none_below q n [] less h = refl
  none_below q n (l ∷ ls) less h =
      let first = h.0 in
      let rest = none_below q (l.number + 1) ls (omega (arith, first, less)) h.1 in
      grind (arith, nat_tests, first, rest)

  at_flipped : (q m : ℕ) → is_at (nat_cmp q) m ≡ (m == q)
  at_flipped q m = grind (arith, nat_tests)

  beside : (b : Bool) (e : Entry) (o : Option Entry) → is_kept e ≡ false → (b ≡ true → o ≡ None) →
      entry_if is_kept o ≡ entry_if is_kept (cond b (Some e) o)
  beside true e o is none = ap (entry_if is_kept) (none refl) ∙ sym (ap (λ (b : Bool). cond b (Some e) None) is)
  beside false e o is none = refl

  here : (q m : ℕ) (e : Entry) (o found : Option Entry) → is_kept e ≡ true → found ≡ entry_if is_kept o →
      cond (is_at (nat_cmp q) m) (Some e) found ≡ entry_if is_kept (cond (m == q) (Some e) o)
  here q m e o found is rest = ap₂ (λ (b : Bool) (x : Option Entry). cond b (Some e) x) (at_flipped q m) rest
      ∙ elim (m == q) as (λ b. cond b (Some e) (entry_if is_kept o) ≡ entry_if is_kept (cond b (Some e) o)) [
        | true ↦ sym (ap (λ (b : Bool). cond b (Some e) None) is)
        | false ↦ refl
      ]

  there : (q m : ℕ) (e : Entry) (o found : Option Entry) → is_kept e ≡ false → ((m == q) ≡ true → o ≡ None) →
      found ≡ entry_if is_kept o → found ≡ entry_if is_kept (cond (m == q) (Some e) o)
  there q m e o found is none rest = rest ∙ beside (m == q) e o is none

  look_up : (q n : ℕ) (ls : List LogEntry) → NumbersAscend n ls →
      lookup (is_at (nat_cmp q)) (pairs (kept_of ls)) ≡ entry_if is_kept (entry_of ls q)
  look_up q n [] h = refl
  look_up q n (l ∷ ls) h =
      let rest = look_up q (l.number + 1) ls h.1 in
      elim (is_kept l.entry) as (λ b. is_kept l.entry ≡ b →
      lookup (is_at (nat_cmp q)) (pairs (cond b (l ∷ kept_of ls) (kept_of ls)))
      ≡ entry_if is_kept (cond (l.number == q) (Some l.entry) (entry_of ls q))) [
        | true ↦ λ is. here q l.number l.entry (entry_of ls q) _ is rest
        | false ↦ λ is. there q l.number l.entry (entry_of ls q) _ is
            (λ same. let e : l.number ≡ q = same_number l.number q same in
            none_below q (l.number + 1) ls (omega arith) h.1) rest
      ] refl

  abbrev kept_asked : List LogEntry → List LogEntry
  kept_asked ls = filter (λ l. is_asked_about asked l.entry.binding.external) ls

  of_cond : (b : Bool) (l : LogEntry) (es : List Entry) (ls : List LogEntry) → es ≡ map (λ m. m.entry) ls →
      cond b (l.entry ∷ es) es ≡ map (λ m. m.entry) (cond b (l ∷ ls) ls)
  of_cond true l es ls h = ap (λ (xs : List Entry). l.entry ∷ xs) h
  of_cond false l es ls h = h

  unasked : (kept is : Bool) → (is ≡ true → kept ≡ true) → kept ≡ false → is ≡ false
  unasked kept true h none = sym (h refl) ∙ none
  unasked kept false h none = refl

  values_asked : (ls : List LogEntry) →
      filter (λ e. is_asked_about asked e.binding.external) (values_of (pairs (kept_of ls))) ≡ asked_entries asked ls
  values_asked [] = refl
  values_asked (l ∷ ls) =
      elim (is_kept l.entry) as (λ b. is_kept l.entry ≡ b → filter (λ e. is_asked_about asked e.binding.external)
      (values_of (pairs (cond b (l ∷ kept_of ls) (kept_of ls)))) ≡ asked_entries asked (l ∷ ls)) [
        | true ↦ λ is. of_cond (is_asked_about asked l.entry.binding.external) l _ (kept_asked ls) (values_asked ls)
        | false ↦ λ is. values_asked ls ∙ ap (λ (b : Bool). map (λ (m : LogEntry). m.entry)
            (cond b (l ∷ kept_asked ls) (kept_asked ls)))
            (sym (unasked (is_kept l.entry) (is_asked_about asked l.entry.binding.external) (asked_is_kept l.entry) is))
      ] refl

  below : (x : ℕ) (es : List (ℕ × Entry)) → AllByRecursion (λ y. nat_cmp x y ≡ Less) (keys_of es) →
      below_all nat_cmp x es ≡ true
  below x [] h = refl
  below x (e ∷ es) h = ap₂ (λ (a : Ordering) (b : Bool). is_lt a && b) h.0 (below x es h.1)

  in_order : (es : List (ℕ × Entry)) → IsStrictlySortedBy nat_cmp (keys_of es) → is_sorted nat_cmp es ≡ true
  unfolding IsStrictlySortedBy
  in_order [] h = refl
  in_order (e ∷ es) h = ap₂ (λ (a b : Bool). a && b) (below e.0 es h.0) (in_order es h.1)

  truth : {b : Bool} → b ≡ true → T b
  truth h = subst T (sym h) tt

  pub all_asked : (wanted : WantedEndpoints) (unended ended all : BTreeMap ℕ Entry) (entries : List LogEntry) →
      TracksEntries asked (record { wanted = wanted; unended = unended; ended = ended }) entries →
      IsOrdered nat_cmp unended →
      InsertsAll nat_cmp ended unended.entries all →
      filter (λ e. is_wanted wanted e.binding.external) (values_of all.entries) ≡ asked_entries asked entries
  all_asked wanted unended ended all entries keeps ordered all_in =
      let rises : NumbersAscend 1 (kept_of entries) = rises_filter (λ l. is_kept l.entry) 1 entries keeps.rising in
      let same : all.entries ≡ pairs (kept_of entries) =
      same_entries nat_cmp nat_cmp_total exact_unsigned all.entries (pairs (kept_of entries))
      (truth (in_order all.entries all_in.1)) (truth
      (in_order (pairs (kept_of entries)) (keys_rise 1 (kept_of entries) rises))) (λ q. all_in.0 q
      ∙ (update_all_distinct (eq_by_cmp_equiv nat_cmp_total) (eq_by_cmp nat_cmp) (λ x y. refl) (get nat_cmp ended)
      unended.entries q
      (IsDistinct-from_sorted nat_cmp (keys_of unended.entries) ordered)
      ∙ (ap₂ option_or (keeps.unended q) (keeps.ended q)
      ∙ (either (entry_of entries q) ∙ sym (look_up q 1 entries keeps.rising))))) in
      let wants : (λ (e : Entry). is_wanted wanted e.binding.external) ≡ (λ e. is_asked_about asked e.binding.external)
      = λ i e. keeps.wanted e.binding.external i in
      ap₂ (λ (p : Entry → Bool) (es : List (ℕ × Entry)). filter p (values_of es)) wants same
      ∙ values_asked entries

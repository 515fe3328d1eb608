-- The rows of a run's log give its entries.
use Rattle.std.proofs.{Common.{◌≡◌, ◌≢◌, ◌⊎◌, inl, inr, ℕ, ◌+◌, ◌≤◌, ◌==◌, Bool, true, false, ◌&&◌, ◌||◌, cond, List, [], ◌∷◌, ◌++◌, map, filter, Option, Some, None, refl, sym, ◌∙◌, ap, ap₂, subst, arith, append-nil, append_assoc}, lemmas.{Bool.{Decides.nat_tests, ne_eqb}, List.map-append, List.Sorted.IsPermutation-sym}}
use Rattle.std.specs.{List.{list_any, Sorted.IsPermutation}, Option.option_or}
use Rattle.napt_config.specs.Rules.{Rules, RulesInvariant, pair_of}
use Rattle.napt_config.specs.declared.settings.Redirect.{Redirect}
use Rattle.napt_rules.specs.Prelude.{Arrival, Binding, Each, State, Timers, initial_state, is_live, last_clock, opening, redirect_binding, with_live_flows}
use Rattle.napt_rules.specs.declared.Row.{Row}
use Rattle.napt_account.specs.{Parties.is_meant, declared.log.{Entry.Entry, LogEntry.LogEntry, Shortage.Shortage}, Log.{LogModel, begun_after, first_entry, log_of, log_on, numbered_from, unnumbered, unused_entry}, LogParts.{IsNumbered, LogDelta, in_order_of_end, is_open, living_at}, OpenEntries.Has, ResumedLogRuns.{left_of, part_of}, WholeLogs.{ArePartsOfLog, PartsAreTheLog, all_parts, origin, parts_joined}}
use Rattle.napt_account.proofs.{EndOrderings.{Differ, each_has, has_each}, EntryNumbers.{begun_numbered, differ_moved, log_rises}, AscendingNumbers.rises_differ, SortedLists.{has_back, has_moved}}
use Rattle.napt_log_text.specs.{LogReaders.{events_after, part_events}, Logs.log_anew, Requests.{holders, is_asked, is_holder, meets}, declared.{event.LogEvent.{LogEvent, TheVariants.{Made, Repeated, Ended, Living, Refused}}, request.{Request.Request, TimeSpan.TimeSpan}}}
use Rattle.napt_attribution.specs.{RequestParties.is_asked_about, LogLaws.{RowsNameTheHolders, RowsDetermineTheLog, whole_events, without_counts}, SavedLogs.{asked_entries, bare_entry, row_end_among, end_told, entries_in, made_in}, declared.requests.HolderRequest.HolderRequest}

-- THE ROWS THAT RECORD AN END, by their entries

abbrev tellers : List LogEvent → List LogEntry
tellers [] = []
tellers (Ended l ∷ es) = l ∷ tellers es
tellers (Living l ∷ es) = l ∷ tellers es
tellers (_ ∷ es) = tellers es

abbrev end_by : List LogEntry → ℕ → Option ℕ
end_by [] number = None
end_by (l ∷ ls) number = end_told l number (end_by ls number)

end_of_tellers : (es : List LogEvent) (number : ℕ) → row_end_among es number ≡ end_by (tellers es) number
end_of_tellers [] number = refl
end_of_tellers (Made l ∷ es) number = end_of_tellers es number
end_of_tellers (Repeated l ∷ es) number = end_of_tellers es number
end_of_tellers (Ended l ∷ es) number = ap (end_told l number) (end_of_tellers es number)
end_of_tellers (Living l ∷ es) number = ap (end_told l number) (end_of_tellers es number)
end_of_tellers (Refused s ∷ es) number = end_of_tellers es number

tellers_joined : (es fs : List LogEvent) → tellers (es ++ fs) ≡ tellers es ++ tellers fs
tellers_joined [] fs = refl
tellers_joined (Made l ∷ es) fs = tellers_joined es fs
tellers_joined (Repeated l ∷ es) fs = tellers_joined es fs
tellers_joined (Ended l ∷ es) fs = ap (λ (ls : List LogEntry). l ∷ ls) (tellers_joined es fs)
tellers_joined (Living l ∷ es) fs = ap (λ (ls : List LogEntry). l ∷ ls) (tellers_joined es fs)
tellers_joined (Refused s ∷ es) fs = tellers_joined es fs

made_joined : (es fs : List LogEvent) → made_in (es ++ fs) ≡ made_in es ++ made_in fs
made_joined [] fs = refl
made_joined (Made l ∷ es) fs = ap (λ (ls : List LogEntry). l ∷ ls) (made_joined es fs)
made_joined (Repeated l ∷ es) fs = ap (λ (ls : List LogEntry). l ∷ ls) (made_joined es fs)
made_joined (Ended l ∷ es) fs = made_joined es fs
made_joined (Living l ∷ es) fs = made_joined es fs
made_joined (Refused s ∷ es) fs = made_joined es fs

-- Each kind of row contains these entries.
made_of_made : (ls : List LogEntry) → made_in (map Made ls) ≡ ls
made_of_made [] = refl
made_of_made (l ∷ ls) = ap (λ (ms : List LogEntry). l ∷ ms) (made_of_made ls)

made_of_ended : (ls : List LogEntry) → made_in (map Ended ls) ≡ []
made_of_ended [] = refl
made_of_ended (l ∷ ls) = made_of_ended ls

made_of_living : (ls : List LogEntry) → made_in (map Living ls) ≡ []
made_of_living [] = refl
made_of_living (l ∷ ls) = made_of_living ls

made_of_refused : (ss : List Shortage) → made_in (map Refused ss) ≡ []
made_of_refused [] = refl
made_of_refused (s ∷ ss) = made_of_refused ss

tellers_of_made : (ls : List LogEntry) → tellers (map Made ls) ≡ []
tellers_of_made [] = refl
tellers_of_made (l ∷ ls) = tellers_of_made ls

tellers_of_ended : (ls : List LogEntry) → tellers (map Ended ls) ≡ ls
tellers_of_ended [] = refl
tellers_of_ended (l ∷ ls) = ap (λ (ms : List LogEntry). l ∷ ms) (tellers_of_ended ls)

tellers_of_living : (ls : List LogEntry) → tellers (map Living ls) ≡ ls
tellers_of_living [] = refl
tellers_of_living (l ∷ ls) = ap (λ (ms : List LogEntry). l ∷ ms) (tellers_of_living ls)

tellers_of_refused : (ss : List Shortage) → tellers (map Refused ss) ≡ []
tellers_of_refused [] = refl
tellers_of_refused (s ∷ ss) = tellers_of_refused ss

made_of_part : (part : LogDelta) → made_in (part_events part) ≡ part.made
made_of_part part = made_joined (map Ended part.ended) (map Made part.made ++ map Refused part.refused)
    ∙ (ap₂ (λ (xs ys : List LogEntry). xs ++ ys) (made_of_ended part.ended)
    (made_joined (map Made part.made) (map Refused part.refused)
    ∙ (ap₂ (λ (xs ys : List LogEntry). xs ++ ys) (made_of_made part.made) (made_of_refused part.refused)
    ∙ append-nil part.made)))

tellers_of_part : (part : LogDelta) → tellers (part_events part) ≡ part.ended
tellers_of_part part = tellers_joined (map Ended part.ended) (map Made part.made ++ map Refused part.refused)
    ∙ (ap₂ (λ (xs ys : List LogEntry). xs ++ ys) (tellers_of_ended part.ended)
    (tellers_joined (map Made part.made) (map Refused part.refused)
    ∙ ap₂ (λ (xs ys : List LogEntry). xs ++ ys) (tellers_of_made part.made) (tellers_of_refused part.refused))
    ∙ append-nil part.ended)

-- THE EVENTS OF A RUN

module _ (rules : Rules) (state : State) (log : LogModel) where
  made_after : (before inputs : List Arrival) → made_in (events_after rules state log before inputs)
      ≡ parts_joined (λ b i. (part_of rules state log b i).made) before inputs
  made_after before [] = refl
  made_after before (input ∷ inputs) =
      made_joined (part_events (part_of rules state log before input))
      (events_after rules state log (before ++ input ∷ []) inputs)
      ∙ ap₂ (λ (xs ys : List LogEntry). xs ++ ys) (made_of_part (part_of rules state log before input))
      (made_after (before ++ input ∷ []) inputs)

  tellers_after : (before inputs : List Arrival) → tellers (events_after rules state log before inputs)
      ≡ parts_joined (λ b i. (part_of rules state log b i).ended) before inputs
  tellers_after before [] = refl
  tellers_after before (input ∷ inputs) =
      tellers_joined (part_events (part_of rules state log before input))
      (events_after rules state log (before ++ input ∷ []) inputs)
      ∙ ap₂ (λ (xs ys : List LogEntry). xs ++ ys) (tellers_of_part (part_of rules state log before input))
      (tellers_after (before ++ input ∷ []) inputs)

  -- The rows come before the first input, then with the inputs, and then at the end.
  abbrev events : List Arrival → List LogEntry → List LogEvent
  events inputs living = (map Made log.entries ++ []) ++ (events_after rules state log [] inputs ++ map Living living)

  made_of_run : (inputs : List Arrival) (living : List LogEntry) → made_in (events inputs living)
      ≡ log.entries ++ all_parts (λ part. part.made) rules state log inputs
  made_of_run inputs living =
      made_joined (map Made log.entries ++ []) (events_after rules state log [] inputs ++ map Living living)
      ∙ ap₂ (λ (xs ys : List LogEntry). xs ++ ys)
      (ap made_in (append-nil (map Made log.entries)) ∙ made_of_made log.entries)
      (made_joined (events_after rules state log [] inputs) (map Living living)
      ∙ (ap₂ (λ (xs ys : List LogEntry). xs ++ ys) (made_after [] inputs) (made_of_living living)
      ∙ append-nil (all_parts (λ part. part.made) rules state log inputs)))

  tellers_of_run : (inputs : List Arrival) (living : List LogEntry) → tellers (events inputs living)
      ≡ all_parts (λ part. part.ended) rules state log inputs ++ living
  tellers_of_run inputs living =
      tellers_joined (map Made log.entries ++ []) (events_after rules state log [] inputs ++ map Living living)
      ∙ ap₂ (λ (xs ys : List LogEntry). xs ++ ys)
      (ap tellers (append-nil (map Made log.entries)) ∙ tellers_of_made log.entries)
      (tellers_joined (events_after rules state log [] inputs) (map Living living)
      ∙ ap₂ (λ (xs ys : List LogEntry). xs ++ ys) (tellers_after [] inputs) (tellers_of_living living))

-- AN END AMONG ENTRIES WHOSE NUMBERS DIFFER

other_number : (l : LogEntry) (number : ℕ) (later : Option ℕ) → l.number ≢ number → end_told l number later ≡ later
other_number l number later apart =
    ap (λ (b : Bool). cond b (option_or l.entry.end later) later) (ne_eqb l.number number apart)

none_told : (number : ℕ) (ls : List LogEntry) → Each (λ m. number ≢ m.number) ls → end_by ls number ≡ None
none_told number [] h = refl
none_told number (l ∷ ls) h = other_number l number (end_by ls number) (λ same. h.0 (sym same)) ∙
    none_told number ls h.1

or_nothing : (a : Option ℕ) → option_or a None ≡ a
or_nothing None = refl
or_nothing (Some x) = refl

own_number : (n : ℕ) → (n == n) ≡ true
own_number n = grind (arith, nat_tests)

end_of : (ls : List LogEntry) → Differ ls → (l : LogEntry) → Has ls l → end_by ls l.number ≡ l.entry.end
end_of [] differ l h = absurd h
end_of (m ∷ ls) differ l (inl same) = subst (λ (x : LogEntry). end_by (m ∷ ls) x.number ≡ x.entry.end) same
    (ap₂ (λ (b : Bool) (later : Option ℕ). cond b (option_or m.entry.end later) later) (own_number m.number)
    (none_told m.number ls differ.0) ∙ or_nothing m.entry.end)
end_of (m ∷ ls) differ l (inr has) =
    other_number m l.number (end_by ls l.number) (each_has (λ (x : LogEntry). m.number ≢ x.number) ls l differ.0 has)
    ∙ end_of ls differ.1 l has

-- THE ENTRIES, by what is final when they are made

abbrev bare_of : (ℕ → Option ℕ) → ℕ × (Row × ℕ) → LogEntry
bare_of end o = record { number = o.0; entry = unused_entry o.1.0 o.1.1 (end o.0) }

by_origin : (end : ℕ → Option ℕ) (ls : List LogEntry) →
    map (λ l. bare_entry (end l.number) l) ls ≡ map (bare_of end) (map origin ls)
by_origin end [] = refl
by_origin end (l ∷ ls) = ap (λ (ms : List LogEntry). bare_entry (end l.number) l ∷ ms) (by_origin end ls)

with_own_ends : (end : ℕ → Option ℕ) (ls : List LogEntry) → Each (λ l. end l.number ≡ l.entry.end) ls →
    map (λ l. bare_entry (end l.number) l) ls ≡ map (λ l. bare_entry l.entry.end l) ls
with_own_ends end [] h = refl
with_own_ends end (l ∷ ls) h =
    ap₂ (λ (x : Option ℕ) (ms : List LogEntry). bare_entry x l ∷ ms) h.0 (with_own_ends end ls h.1)

-- The redirects never end.
begun_open : (rules : Rules) (number : ℕ) (redirects : List Redirect) → Each (λ n. is_open 0 n ≡ true)
    (numbered_from number (map (first_entry rules.timers 0) (map (with_live_flows rules.timers 0)
    (filter (is_live rules.timers 0) (map (redirect_binding (pair_of rules)) redirects)))))
begun_open rules number [] = tt
begun_open rules number (r ∷ rs) = (refl, begun_open rules (number + 1) rs)

pub rows_tell : PartsAreTheLog → RowsDetermineTheLog
rows_tell parts rules invariant inputs =
    let state : State = initial_state rules in
    let log : LogModel = (log_anew rules).log in
    let living : List LogEntry = living_at (last_clock state.clock inputs) (log_on rules state log inputs) in
    let ls : List LogEntry = (log_of rules inputs).entries in
    let es : List LogEvent = whole_events rules inputs in
    let told : ArePartsOfLog rules state log inputs = parts rules invariant state log (begun_numbered rules state 0)
    (begun_open rules (0 + 1) rules.redirects) inputs in
    let tells : List LogEntry = all_parts (λ part. part.ended) rules state log inputs ++ living in
    let differ : Differ tells = differ_moved ls tells (IsPermutation-sym tells ls told.entries)
    (rises_differ 1 ls (log_rises rules inputs)) in
    let ends : Each (λ l. row_end_among es l.number ≡ l.entry.end) ls =
    has_each (λ l. row_end_among es l.number ≡ l.entry.end) ls (λ l has.
    end_of_tellers es l.number
    ∙ (ap (λ (ms : List LogEntry). end_by ms l.number) (tellers_of_run rules state log inputs living)
    ∙ end_of tells differ l (has_back tells ls told.entries l has))) in
    by_origin (row_end_among es) (made_in es)
    ∙ (ap (λ (ms : List LogEntry). map (bare_of (row_end_among es)) (map origin ms))
    (made_of_run rules state log inputs living)
    ∙ (ap (map (bare_of (row_end_among es))) told.made
    ∙ (sym (by_origin (row_end_among es) ls) ∙ with_own_ends (row_end_among es) ls ends)))

-- HOLDERS

both_second : (a b : Bool) → (a && b) ≡ true → b ≡ true
both_second true b h = h
both_second false b h = cc

or_true : (a b : Bool) → b ≡ true → (a || b) ≡ true
or_true true b h = refl
or_true false b h = h

asked_of : (asked : List HolderRequest) (one : HolderRequest) → Has asked one → (e : Entry) →
    is_asked one.request e ≡ true → is_asked_about asked e.binding.external ≡ true
asked_of [] one h e is = absurd h
asked_of (other ∷ asked) one (inl same) e is =
    let meant : is_meant other.request.party e.binding.external ≡ true =
    subst (λ (x : HolderRequest). is_meant x.request.party e.binding.external ≡ true) (sym same) (both_second _ _ is) in
    ap (λ (b : Bool). b || is_asked_about asked e.binding.external) meant
asked_of (other ∷ asked) one (inr has) e is =
    or_true (is_meant other.request.party e.binding.external) (is_asked_about asked e.binding.external)
    (asked_of asked one has e is)

outside : (h a : Bool) → (h ≡ true → a ≡ true) → a ≡ false → h ≡ false
outside true a within none = sym (within refl) ∙ none
outside false a within none = refl

both_first : (a b : Bool) → (a && b) ≡ true → a ≡ true
both_first true b h = refl
both_first false b h = h

module _ (h a : Entry → Bool) (within : (e : Entry) → h e ≡ true → a e ≡ true) where
  among : (ls : List LogEntry) → filter h (map (λ l. l.entry) (filter (λ l. a l.entry) ls)) ≡
      filter h (map (λ l. l.entry) ls)
  among [] = refl
  among (l ∷ ls) = elim (a l.entry) as (λ b. a l.entry ≡ b →
      filter h (map (λ m. m.entry) (cond b (l ∷ filter (λ m. a m.entry) ls)
      (filter (λ m. a m.entry) ls))) ≡ cond (h l.entry) (l.entry ∷ filter h (map (λ m. m.entry) ls))
      (filter h (map (λ m. m.entry) ls))) [
        | true ↦ λ is. ap (λ (xs : List Entry). cond (h l.entry) (l.entry ∷ xs) xs) (among ls)
        | false ↦ λ is. among ls ∙ sym (ap (λ (b : Bool). cond b (l.entry ∷ filter h (map (λ m. m.entry) ls))
            (filter h (map (λ m. m.entry) ls)))
            (outside (h l.entry) (a l.entry) (within l.entry) is))
      ] refl

bare_entries : (ls : List LogEntry) → map (λ l. l.entry) (map (λ l. bare_entry l.entry.end l) ls)
    ≡ map without_counts (map (λ l. l.entry) ls)
bare_entries [] = refl
bare_entries (l ∷ ls) = ap (λ (es : List Entry). without_counts l.entry ∷ es) (bare_entries ls)

same_moments : (at : Option TimeSpan) (e : Entry) → meets at (without_counts e) ≡ meets at e
same_moments None e = refl
same_moments (Some span) e = refl

holders_bare : (request : Request) (es : List Entry) →
    holders request (map without_counts es) ≡ map without_counts (holders request es)
holders_bare request [] = refl
holders_bare request (e ∷ es) =
    ap (λ (m : Bool). cond (is_asked request e && m) (without_counts e ∷ holders request (map without_counts es))
    (holders request (map without_counts es))) (same_moments request.at e)
    ∙ elim (is_holder request e) as (λ b.
    cond b (without_counts e ∷ holders request (map without_counts es)) (holders request (map without_counts es))
    ≡ map without_counts (cond b (e ∷ holders request es) (holders request es))) [
      | true ↦ ap (λ (xs : List Entry). without_counts e ∷ xs) (holders_bare request es)
      | false ↦ holders_bare request es
    ]

pub rows_name : RowsDetermineTheLog → RowsNameTheHolders
rows_name tell rules invariant inputs asked one has =
    let es : List LogEntry = entries_in (whole_events rules inputs) in
    let log : List LogEntry = (log_of rules inputs).entries in
    among (is_holder one.request) (λ e. is_asked_about asked e.binding.external)
    (λ e is. asked_of asked one has e (both_first _ _ is)) es
    ∙ (ap (λ (ls : List LogEntry). holders one.request (map (λ l. l.entry) ls)) (tell rules invariant inputs)
    ∙ (ap (holders one.request) (bare_entries log) ∙ holders_bare one.request (unnumbered (log_of rules inputs))))

-- Entries of a log in order of number.
use Rattle.std.proofs.lemmas.{Bool.{Decides.nat_tests, eq-eqb, ne_eqb}}
use Rattle.std.proofs.Common.{◌≡◌, ◌≢◌, ℕ, ◌+◌, ◌≤◌, Bool, false, List, [], ◌∷◌, length, map, eqb, arith}
use Rattle.std.specs.{Ordering.nat_cmp, List.{AllByRecursion, IsDistinct, Sorted.{IsPermutation, IsSortedByKey}}}
use Rattle.std.proofs.lemmas.{List.Sorted.{IsPermutation-sym}, Map.Keys.IsDistinct-IsPermutation}
use Rattle.napt_rules.specs.Prelude.{Arrival, Each, State, initial_state, effect_from, purge, Rules}
use Rattle.napt_account.specs.{declared.log.{Entry.Entry, LogEntry.LogEntry}, Log.{first_entry, begun_after, log_of, log_on, numbered_from}, LogParts.{IsNumbered, NumbersAscend}}
use Rattle.napt_account.proofs.{EndOrderings.Differ, AscendingNumbers.{rises_all, rises_differ, rises_from, sorted_rising}, SortedLists.{has_back, has_moved}}

-- MOVED, NO TWO HAVE ONE NUMBER

abbrev same : LogEntry → LogEntry → Bool
same l m = eqb l.number m.number

same_flip : (l m : LogEntry) → same l m ≡ same m l
same_flip l m = grind (arith, nat_tests)

apart_of : (l : LogEntry) (ls : List LogEntry) → Each (λ m. l.number ≢ m.number) ls →
    AllByRecursion (λ m. same l m ≡ false) ls
apart_of l [] h = tt
apart_of l (m ∷ ls) h = (ne_eqb l.number m.number h.0, apart_of l ls h.1)

of_apart : (l : LogEntry) (ls : List LogEntry) → AllByRecursion (λ m. same l m ≡ false) ls →
    Each (λ m. l.number ≢ m.number) ls
of_apart l [] h = tt
of_apart l (m ∷ ls) h =
    ((λ e. let is = eq-eqb l.number m.number e in let isnt = h.0 in cc), of_apart l ls h.1)

distinct_of : (ls : List LogEntry) → Differ ls → IsDistinct same ls
unfolding IsDistinct
distinct_of [] h = tt
distinct_of (l ∷ ls) h = (apart_of l ls h.0, distinct_of ls h.1)

of_distinct : (ls : List LogEntry) → IsDistinct same ls → Differ ls
unfolding IsDistinct
of_distinct [] h = tt
of_distinct (l ∷ ls) h = (of_apart l ls h.0, of_distinct ls h.1)

pub differ_moved : (xs ys : List LogEntry) → IsPermutation xs ys → Differ xs → Differ ys
differ_moved xs ys moves h = of_distinct ys (IsDistinct-IsPermutation same same_flip xs ys moves (distinct_of xs h))

-- A LOG

-- The entries of a log in any order, sorted by number, are the log's.
pub sorted_entries : (entries told xs : List LogEntry) → NumbersAscend 1 entries → IsPermutation told entries →
    IsPermutation told xs → IsSortedByKey (λ l. l.number) nat_cmp xs → xs ≡ entries
sorted_entries entries told xs rises all sorts sorted =
    sorted_rising 1 xs entries sorted
    (differ_moved told xs sorts (differ_moved entries told (IsPermutation-sym told entries all)
    (rises_differ 1 entries rises))) rises
    (λ l h. has_moved told entries all l (has_back told xs sorts l h))
    (λ l h. has_moved told xs sorts l (has_back told entries all l h))

-- The first numbers are among those that were given.
pub within_from : (n most : ℕ) (es : List Entry) → n + length es ≤ most + 1 →
    Each (λ l. l.number ≤ most) (numbered_from n es)
within_from n most [] h = tt
within_from n most (e ∷ es) h = (omega (arith, h), within_from (n + 1) most es (omega (arith, h)))

pub begun_numbered : (rules : Rules) (state : State) (before : ℕ) → IsNumbered (begun_after before rules state)
begun_numbered rules state before =
    let es : List Entry = map (first_entry rules.timers state.clock) (purge rules.timers state.clock state.list) in
    within_from (before + 1) (before + length es) es (omega arith)

pub log_rises : (rules : Rules) (inputs : List Arrival) → NumbersAscend 1 (log_of rules inputs).entries
unfolding log_on
log_rises rules inputs =
    rises_all rules.timers (effect_from rules (initial_state rules) inputs).acts
    (begun_after 0 rules (initial_state rules))
    (begun_numbered rules (initial_state rules) 0) (rises_from (0 + 1) _)

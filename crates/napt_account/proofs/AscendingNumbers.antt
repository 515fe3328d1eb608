-- Entries whose numbers ascend.
use Rattle.std.proofs.lemmas.{Grind.common_steps, Bool.Decides.nat_tests}
use Rattle.std.proofs.Common.{◌≡◌, ◌≢◌, inl, inr, ℕ, ◌+◌, ◌≤◌, Bool, true, false, cond, List, [], ◌∷◌, ◌++◌, map, filter, refl, sym, ◌∙◌, ap, subst, arith}
use Rattle.std.specs.{Prelude.nat_lt, Ordering.nat_cmp, List.{fold, Sorted.IsSortedByKey}}
use Rattle.napt_wire.specs.declared.Way.TheVariants.{Outgoing, Incoming}
use Rattle.napt_rules.specs.Prelude.{LegAct, Each, Timers}
use Rattle.napt_laws.proofs.Lists.{each_weaker}
use Rattle.napt_sequential.specs.declared.passage.Passage.{Passage, TheVariants.{Nothing, Made, Out, In, Dropped}}
use Rattle.napt_account.specs.{declared.log.{Entry.Entry, LogEntry.LogEntry}, Log.{LogModel, after_leg, after_record, made_by, numbered_from, use_entry}, OpenEntries.Has, LogParts.{IsNumbered, NumbersAscend}}
use Rattle.napt_account.proofs.{ContinuedLogs.numbered_leg, EndOrderings.{Differ, InTurn, same_turn, each_has, has_each}, SortedLists.sorted_turn}

rises_less : (m n : ℕ) → m ≤ n → (ls : List LogEntry) → NumbersAscend n ls → NumbersAscend m ls
rises_less m n le [] h = tt
rises_less m n le (l ∷ ls) h = ((let first = h.0 in omega (arith, first, le)), h.1)

pub rises_above : (n : ℕ) (ls : List LogEntry) → NumbersAscend n ls → Each (λ l. n ≤ l.number) ls
rises_above n [] h = tt
rises_above n (l ∷ ls) h =
    (h.0, rises_above n ls (rises_less n (l.number + 1) (let first = h.0 in omega (arith, first)) ls h.1))

-- The entries that pass a test.
pub rises_filter : (p : LogEntry → Bool) (n : ℕ) (ls : List LogEntry) → NumbersAscend n ls →
    NumbersAscend n (filter p ls)
rises_filter p n [] h = tt
rises_filter p n (l ∷ ls) h = elim (p l) as (λ v. NumbersAscend n (cond v (l ∷ filter p ls) (filter p ls))) [
  | true ↦ (h.0, rises_filter p (l.number + 1) ls h.1)
  | false ↦ rises_less n (l.number + 1) (let first = h.0 in omega (arith, first)) (filter p ls)
      (rises_filter p (l.number + 1) ls h.1)
]

-- One more entry after all others.
pub rises_pushed : (n : ℕ) (ls : List LogEntry) (l : LogEntry) → NumbersAscend n ls →
    Each (λ m. m.number + 1 ≤ l.number) ls → n ≤ l.number → NumbersAscend n (ls ++ l ∷ [])
rises_pushed n [] l h behind first = (first, tt)
rises_pushed n (m ∷ ls) l h behind first = (h.0, rises_pushed (m.number + 1) ls l h.1 behind.1 behind.0)

-- Changed entries that keep their numbers.
pub rises_mapped : (f : LogEntry → LogEntry) → ((l : LogEntry) → (f l).number ≡ l.number) → (n : ℕ)
    (ls : List LogEntry) → NumbersAscend n ls → NumbersAscend n (map f ls)
rises_mapped f same n [] h = tt
rises_mapped f same n (l ∷ ls) h = (
  subst (λ (k : ℕ). n ≤ k) (sym (same l)) h.0,
  subst (λ (k : ℕ). NumbersAscend (k + 1) (map f ls)) (sym (same l)) (rises_mapped f same (l.number + 1) ls h.1),
)

-- No two entries have the same number.
pub rises_differ : (n : ℕ) (ls : List LogEntry) → NumbersAscend n ls → Differ ls
rises_differ n [] h = tt
rises_differ n (l ∷ ls) h = (
  has_each (λ m. l.number ≢ m.number) ls (λ m has same.
      let above = each_has (λ k. l.number + 1 ≤ k.number) ls m (rises_above (l.number + 1) ls h.1) has in
      absurd (omega (arith, above, same))),
  rises_differ (l.number + 1) ls h.1,
)

pub same_number : (ls : List LogEntry) → Differ ls → (l m : LogEntry) → Has ls l → Has ls m →
    l.number ≡ m.number → l ≡ m
same_number [] differ l m h k same = absurd h
same_number (x ∷ ls) differ l m (inl a) (inl b) same = sym a ∙ b
same_number (x ∷ ls) differ l m (inl a) (inr b) same =
    absurd (each_has (λ y. x.number ≢ y.number) ls m differ.0 b (ap (λ (y : LogEntry). y.number) a ∙ same))
same_number (x ∷ ls) differ l m (inr a) (inl b) same =
    absurd (each_has (λ y. x.number ≢ y.number) ls l differ.0 a (ap (λ (y : LogEntry). y.number) b ∙ sym same))
same_number (x ∷ ls) differ l m (inr a) (inr b) same = same_number ls differ.1 l m a b same

-- NUMBERS ASCEND AFTER A LEG

pub rises_leg : (now : ℕ) (p : Passage) (log : LogModel) → IsNumbered log → NumbersAscend 1 log.entries →
    NumbersAscend 1 (after_leg now p log).entries
rises_leg now Nothing log numbered rises = rises
rises_leg now (Made timed) log numbered rises =
    rises_pushed 1 log.entries (record { number = log.made + 1; entry = made_by now timed }) rises
    (each_weaker (λ n. n.number ≤ log.made) (λ n. n.number + 1 ≤ log.made + 1) (λ n le. omega arith) log.entries
    numbered)
    (omega arith)
rises_leg now (Out timed) log numbered rises =
    rises_mapped (use_entry Outgoing now timed) (λ l. refl) 1 log.entries rises
rises_leg now (In timed) log numbered rises =
    rises_mapped (use_entry Incoming now timed) (λ l. refl) 1 log.entries rises
rises_leg now (Dropped loss) log numbered rises = rises

pub rises_all : (timers : Timers) (acts : List LegAct) (log : LogModel) → IsNumbered log → NumbersAscend 1 log.entries →
    NumbersAscend 1 (fold (after_record timers) log acts).entries
rises_all timers [] log numbered rises = rises
rises_all timers (a ∷ acts) log numbered rises =
    rises_all timers acts (after_record timers log a) (numbered_leg a.leg.now _ log numbered)
    (rises_leg a.leg.now _ log numbered rises)

pub rises_from : (n : ℕ) (es : List Entry) → NumbersAscend n (numbered_from n es)
rises_from n [] = tt
rises_from n (e ∷ es) = (omega arith, rises_from (n + 1) es)

-- SORTED NUMBERS ASCEND

abbrev before : LogEntry → LogEntry → Bool
before x y = nat_lt x.number y.number

rising_turn : (n : ℕ) (xs : List LogEntry) → NumbersAscend n xs → InTurn before xs
rising_turn n [] h = tt
rising_turn n (x ∷ xs) h = (
  has_each (λ y. before x y ≡ true) xs
      (λ y has. let above = each_has (λ z. x.number + 1 ≤ z.number) xs y (rises_above (x.number + 1) xs h.1) has in
      grind (arith, nat_tests, above)),
  rising_turn (x.number + 1) xs h.1,
)

-- Two ascending lists with the same elements are the same.
pub rises_same : (n : ℕ) (xs ys : List LogEntry) → NumbersAscend n xs → NumbersAscend n ys →
    ((l : LogEntry) → Has xs l → Has ys l) →
    ((l : LogEntry) → Has ys l → Has xs l) → xs ≡ ys
rises_same n xs ys rises other = same_turn before (λ x y h k. grind (arith, nat_tests)) xs ys (rising_turn n xs rises)
    (rising_turn n ys other)

pub sorted_rising : (n : ℕ) (xs zs : List LogEntry) → IsSortedByKey (λ l. l.number) nat_cmp xs → Differ xs →
    NumbersAscend n zs →
    ((l : LogEntry) → Has xs l → Has zs l) → ((l : LogEntry) → Has zs l → Has xs l) → xs ≡ zs
sorted_rising n xs zs sorted differ rises = same_turn before (λ x y h k. grind (arith, nat_tests)) xs zs
    (sorted_turn (λ (l : LogEntry). l.number) nat_cmp before (λ x y. x.number ≢ y.number)
    (λ x y apart h. grind (arith, common_steps, nat_tests)) (λ x y z h k. grind (arith, nat_tests)) xs sorted differ)
    (rising_turn n zs rises)

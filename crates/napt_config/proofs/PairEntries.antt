-- Pairs stay sorted by ascending host when one is inserted.
use Rattle.std.proofs.Common.{◌≡◌, ℕ, ◌+◌, false, cond, List, [], ◌∷◌, length, is_some, Ordering, Less, Equal, Greater, nat_cmp, refl, ap, ◌∙◌, arith, Some}
use Rattle.std.specs.{BTreeMap.{insert_entry, is_at}, Cmp.nat_cmp_total, List.{AllByRecursion, Sorted.IsStrictlySortedBy}, Map.{keys_of, lookup}}
use Rattle.std.{specs.Ordering.{is_eq, match_ordering, ordering_reverse}, proofs.lemmas.List.Elements.{All-from_recursion, recursion_from_All}}
use Rattle.std.proofs.lemmas.Map.Views.{All-keys-insert_entry}

abbrev pub Pairs : Type 0
Pairs = List (ℕ × ℕ)

-- The host is below each host of the pairs.
abbrev IsBelow : ℕ → Pairs → Type 0
IsBelow host pairs = AllByRecursion (λ other. nat_cmp host other ≡ Less) (keys_of pairs)

below_more : (host above : ℕ) (pairs : Pairs) → nat_cmp host above ≡ Less → IsBelow above pairs → IsBelow host pairs
below_more host above [] less below = tt
below_more host above (pair ∷ pairs) less below = (
  nat_cmp_total.trans host above pair.0 less below.0,
  below_more host above pairs less below.1,
)

below_inserted : (host new external : ℕ) (pairs : Pairs) → nat_cmp host new ≡ Less → IsBelow host pairs →
    IsBelow host (insert_entry nat_cmp pairs new external)
below_inserted host new external pairs less below =
    recursion_from_All _ _ (All-keys-insert_entry nat_cmp new external (λ other. nat_cmp host other ≡ Less) pairs
    (All-from_recursion _ _ below) less)

greater_turned : (a b : ℕ) → nat_cmp a b ≡ Greater → nat_cmp b a ≡ Less
greater_turned a b greater = nat_cmp_total.antisymm b a ∙ ap ordering_reverse greater

sorted_at : (o : Ordering) (host external : ℕ) (pair : ℕ × ℕ) (pairs : Pairs) → nat_cmp host pair.0 ≡ o →
    IsBelow pair.0 pairs → IsStrictlySortedBy nat_cmp (keys_of pairs)
    → IsStrictlySortedBy nat_cmp (keys_of (insert_entry nat_cmp pairs host external))
    → IsStrictlySortedBy nat_cmp
    (keys_of (match_ordering o ((host, external) ∷ pair ∷ pairs) ((pair.0, external) ∷ pairs)
    (pair ∷ insert_entry nat_cmp pairs host external)))
unfolding IsStrictlySortedBy
sorted_at Less host external pair pairs is below sorted more =
    ((is, below_more host pair.0 pairs is below), (below, sorted))
sorted_at Equal host external pair pairs is below sorted more = (below, sorted)
sorted_at Greater host external pair pairs is below sorted more =
    (below_inserted pair.0 host external pairs (greater_turned host pair.0 is) below, more)

pub sorted_inserted : (pairs : Pairs) (host external : ℕ) → IsStrictlySortedBy nat_cmp (keys_of pairs) →
    IsStrictlySortedBy nat_cmp (keys_of (insert_entry nat_cmp pairs host external))
unfolding IsStrictlySortedBy
sorted_inserted [] host external sorted = (tt, tt)
sorted_inserted (pair ∷ pairs) host external sorted =
    sorted_at (nat_cmp host pair.0) host external pair pairs refl sorted.0 sorted.1
    (sorted_inserted pairs host external sorted.1)

one_more_at : (o : Ordering) (host external : ℕ) (pair : ℕ × ℕ) (pairs : Pairs)
    → is_some (cond (is_eq o) (Some pair.1) (lookup (is_at (nat_cmp host)) pairs)) ≡ false
    → (is_some (lookup (is_at (nat_cmp host)) pairs) ≡ false → length (insert_entry nat_cmp pairs host external)
    ≡ length pairs + 1)
    → length (match_ordering o ((host, external) ∷ pair ∷ pairs) ((pair.0, external) ∷ pairs)
    (pair ∷ insert_entry nat_cmp pairs host external)) ≡ length (pair ∷ pairs) + 1
one_more_at Less host external pair pairs none more = omega arith
one_more_at Equal host external pair pairs none more = cc
one_more_at Greater host external pair pairs none more = omega (arith, more none)

pub one_more : (pairs : Pairs) (host external : ℕ) → is_some (lookup (is_at (nat_cmp host)) pairs) ≡ false →
    length (insert_entry nat_cmp pairs host external) ≡ length pairs + 1
one_more [] host external none = refl
one_more (pair ∷ pairs) host external none = one_more_at (nat_cmp host pair.0) host external pair pairs none
    (one_more pairs host external)

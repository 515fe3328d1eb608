-- The queue of the entries that have not ended.
use Rattle.std.proofs.lemmas.{Grind.common_steps, Bool.Decides.nat_tests}
use Rattle.std.{proofs.Common.{◌≡◌, ℕ, ◌<◌, ◌≤◌, Bool, true, false, cond, List, [], ◌∷◌, length, filter, Some, ap, arith}, specs.Prelude.nat_le}
use Rattle.std.specs.{Ordering.is_gt, List.list_any, BTreeMap.is_at, declared.cmp.Ordering.Ordering, BTreeSet.insert_key}
use Rattle.napt_binding.specs.Ends.{is_before}
use Rattle.napt_account.specs.{declared.open_entries.DueEntry.DueEntry, OpenEntries.due_cmp}

-- HOW MANY ARE DUE

module _ {K : Type 0} (cmp : K → K → Ordering) (p : K → Bool) (k : K) (apart : p k ≡ false) where
  filter_insert : (ks : List K) → filter p (insert_key cmp ks k) ≡ filter p ks
  filter_insert [] = ap (λ v. cond v (k ∷ []) []) apart
  filter_insert (x ∷ xs) = grind (arith, common_steps, nat_tests, filter_insert xs)

pub within_insert : (now : ℕ) (due : DueEntry) → is_before now (Some due.at) ≡ true → (old new : List DueEntry) →
    new ≡ insert_key due_cmp old due →
    length (filter (λ (d : DueEntry). nat_le d.at now) new) ≡ length (filter (λ (d : DueEntry). nat_le d.at now) old)
within_insert now due before old new is = grind (arith, common_steps, nat_tests, filter_insert)

-- THE FIRST

pub not_empty : (cmp : DueEntry → Ordering) (ds : List DueEntry) → list_any (is_at cmp) ds ≡ true → 0 < length ds
not_empty cmp [] h = cc
not_empty cmp (d ∷ ds) h = omega arith

pub first_least : (a b : DueEntry) → is_gt (due_cmp a b) ≡ false → a.at ≤ b.at
first_least a b h = grind (arith, common_steps, nat_tests)

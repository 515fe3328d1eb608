-- Entries that begin for live bindings without one.
use Rattle.std.proofs.lemmas.{List.{take_more}}
use Rattle.std.proofs.Common.{◌≡◌, ℕ, suc, ◌+◌, ◌<◌, Bool, true, false, not, cond, List, [], ◌∷◌, ◌++◌, length, get_or, map, filter, take, refl, sym, ◌∙◌, ap, arith, append-nil}
use Rattle.std.specs.{List.list_any, HashSet.HashSet}
use Rattle.std.specs.HashSet as hash
use Rattle.napt_rules.specs.declared.Row.{Row}
use Rattle.napt_table.specs.declared.TimedRow.{TimedRow}
use Rattle.napt_account.specs.{declared.{log.{Entry.Entry, LogEntry.LogEntry}, open_entries.EntryKey.EntryKey}, Log.{numbered_from, shares, unused_entry}, LogStarts.has_entry, OpenEntries.{entry_key, external_eq}}
use Rattle.napt_account.proofs.{Lists.{filter_joined, map_joined}, OpenEntries.{external_is, external_itself, key_shares, shares_key}}

-- The endpoints in a set are those of the entries.
abbrev pub HasRows : {S : Type 0} → List LogEntry → HashSet EntryKey S → Type 0
HasRows entries all = (x : EntryKey) →
    hash.contains external_eq all x ≡ list_any (λ n. external_eq (entry_key n.entry.binding) x) entries

-- The set has the endpoint of a row exactly if the row shares the endpoint of an entry.
pub share_either : (r s : Row) → external_eq (entry_key s) (entry_key r) ≡ shares r s
share_either r s = elim (shares r s) as (λ v. shares r s ≡ v → external_eq (entry_key s) (entry_key r) ≡ v) [
  | true ↦ λ e. ap (λ (k : EntryKey). external_eq k (entry_key r)) (sym (key_shares r s e)) ∙
      external_itself (entry_key r)
  | false ↦ λ e. elim (external_eq (entry_key s) (entry_key r)) as (λ v.
      external_eq (entry_key s) (entry_key r) ≡ v → v ≡ false) [
        | true ↦ λ g. sym (shares_key r s (sym (external_is (entry_key s) (entry_key r) g))) ∙ e
        | false ↦ λ g. refl
      ] refl
] refl

any_same : {X : Type 0} (p q : X → Bool) → ((x : X) → p x ≡ q x) → (xs : List X) → list_any p xs ≡ list_any q xs
any_same p q same [] = refl
any_same p q same (x ∷ xs) = grind (arith, same x, any_same p q same xs)

pub has_rows : {S : Type 0} (entries : List LogEntry) (all : HashSet EntryKey S) → HasRows entries all →
    (timed : TimedRow) → hash.contains external_eq all (entry_key timed.row) ≡ has_entry entries timed
has_rows entries all has timed = has (entry_key timed.row)
    ∙ any_same (λ n. external_eq (entry_key n.entry.binding) (entry_key timed.row))
    (λ n. shares timed.row n.entry.binding) (λ n. share_either timed.row n.entry.binding) entries

numbered_push : (n : ℕ) (es : List Entry) (e : Entry) → numbered_from n (es ++ e ∷ [])
    ≡ numbered_from n es ++ record { number = n + length es; entry = e } ∷ []
numbered_push n [] e = let same : n ≡ n + 0 = omega arith in
    ap (λ (m : ℕ). record { number = m; entry = e } ∷ []) same
numbered_push n (x ∷ es) e =
    let same : (n + 1) + length es ≡ n + suc (length es) = omega arith in
    ap (λ (ls : List LogEntry). record { number = n; entry = x } ∷ ls) (numbered_push (n + 1) es e
    ∙ ap (λ (m : ℕ). numbered_from (n + 1) es ++ record { number = m; entry = e } ∷ []) same)

numbered_many : (n : ℕ) (es : List Entry) → length (numbered_from n es) ≡ length es
numbered_many n [] = refl
numbered_many n (e ∷ es) = ap suc (numbered_many (n + 1) es)

module _ (made now : ℕ) (entries : List LogEntry) (live : List TimedRow) where
  abbrev begin : TimedRow → Entry
  begin timed = unused_entry timed.row now timed.end

  abbrev is_new : TimedRow → Bool
  is_new timed = not (has_entry entries timed)

  abbrev pub begun_to : ℕ → List LogEntry
  begun_to k = numbered_from (made + 1) (map begin (filter is_new (take k live)))

  module _ (k : ℕ) (d : TimedRow) (below : k < length live) where
    abbrev it : TimedRow
    it = get_or live k d

    next : filter is_new (take (k + 1) live) ≡ filter is_new (take k live) ++ cond (is_new it) (it ∷ []) []
    next = ap (filter is_new) (take_more live k d below) ∙ filter_joined is_new (take k live) (it ∷ [])

    pub begun_same : has_entry entries it ≡ true → begun_to (k + 1) ≡ begun_to k
    begun_same listed = ap (λ (ts : List TimedRow). numbered_from (made + 1) (map begin ts))
        (next ∙ (ap (λ v. filter is_new (take k live) ++ cond (not v) (it ∷ []) []) listed
        ∙ append-nil (filter is_new (take k live))))

    pub begun_more : has_entry entries it ≡ false → (number : ℕ) → number ≡ made + length (begun_to k) →
        begun_to (k + 1) ≡ begun_to k ++ record { number = number + 1; entry = begin it } ∷ []
    begun_more unlisted number is =
        let old : List Entry = map begin (filter is_new (take k live)) in
        let many = numbered_many (made + 1) old in
        let same : (made + 1) + length old ≡ number + 1 = omega (arith, many, is) in
        ap (λ (ts : List TimedRow). numbered_from (made + 1) (map begin ts))
        (next ∙ ap (λ v. filter is_new (take k live) ++ cond (not v) (it ∷ []) []) unlisted)
        ∙ (ap (numbered_from (made + 1)) (map_joined begin (filter is_new (take k live)) (it ∷ []))
        ∙ (numbered_push (made + 1) old (begin it)
        ∙ ap (λ (m : ℕ). numbered_from (made + 1) old ++ record { number = m; entry = begin it } ∷ []) same))

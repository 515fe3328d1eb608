-- The accounts of a log's entries, found by their endpoints.
use Rattle.std.proofs.lemmas.{List.{take_more}}
use Rattle.std.proofs.Common.{◌≡◌, ℕ, ◌+◌, ◌<◌, Bool, true, false, ◌&&◌, cond, find, List, [], ◌∷◌, ◌++◌, length, get_or, map, take, Option, Some, None, refl, sym, ◌∙◌, ap, subst}
use Rattle.std.specs.{HashMap.HashMap, Option.{is_some, option_map, option_or}}
use Rattle.std.specs.HashMap as hash
use Rattle.napt_rules.specs.{declared.Row.Row, Prelude.{Binding, Each}}
use Rattle.napt_account.specs.declared.{account.Account.Account, log.LogEntry.LogEntry, open_entries.EntryKey.EntryKey}
use Rattle.napt_account.specs.{Log.{LogModel, entry_is_of, shares}, LogParts.{is_open, kept_at}, LogStarts.{account_at, account_of_entry}, OpenEntries.{Has, entry_key, external_eq}}
use Rattle.napt_account.proofs.{EndOrderings.{filter_has, has_each}, NewEntries.share_either, OpenEntries.external_is}

abbrev is_under : EntryKey → LogEntry → Bool
is_under x numbered = external_eq (entry_key numbered.entry.binding) x

abbrev account_under : EntryKey → List LogEntry → Option Account
account_under x entries = option_map account_of_entry (find (is_under x) entries)

-- A map has the account of the first entry of each endpoint.
abbrev pub IsMap : {S : Type 0} → List LogEntry → HashMap EntryKey Account S → Type 0
IsMap entries all = (x : EntryKey) → hash.get external_eq all x ≡ account_under x entries

find_pushed : {X : Type 0} (p : X → Bool) (xs : List X) (x : X) →
    find p (xs ++ x ∷ []) ≡ option_or (find p xs) (cond (p x) (Some x) None)
find_pushed p [] x = refl
find_pushed p (y ∷ xs) x = elim (p y) as (λ v. cond v (Some y) (find p (xs ++ x ∷ []))
    ≡ option_or (cond v (Some y) (find p xs)) (cond (p x) (Some x) None))
    [ true ↦ refl | false ↦ find_pushed p xs x ]

module _ {S : Type 0} (entries : List LogEntry) (k : ℕ) (d : LogEntry) (below : k < length entries)
    (old : HashMap EntryKey Account S) (is : IsMap (take k entries) old) where
  abbrev it : LogEntry
  it = get_or entries k d

  abbrev its : EntryKey
  its = entry_key it.entry.binding

  next : (x : EntryKey) → find (is_under x) (take (k + 1) entries)
      ≡ option_or (find (is_under x) (take k entries)) (cond (is_under x it) (Some it) None)
  next x = ap (find (is_under x)) (take_more entries k d below) ∙ find_pushed (is_under x) (take k entries) it

  pub map_same : (key : EntryKey) → key ≡ its → is_some (hash.get external_eq old key) ≡ true →
      IsMap (take (k + 1) entries) old
  map_same key at there x = is x ∙ sym (ap (option_map account_of_entry) (next x
      ∙ stays (find (is_under x) (take k entries)) (is_under x it) (λ under.
      ap is_some (sym (is x)) ∙ (ap (λ (y : EntryKey). is_some (hash.get external_eq old y))
      (sym (external_is its x under) ∙ sym at) ∙ there))))
    where
      stays : (o : Option LogEntry) (v : Bool) → (v ≡ true → is_some (option_map account_of_entry o) ≡ true) →
          option_or o (cond v (Some it) None) ≡ o
      stays None true h = let never = h refl in cc
      stays None false h = refl
      stays (Some n) v h = refl

  pub map_more : (key : EntryKey) → key ≡ its → is_some (hash.get external_eq old key) ≡ false →
      (new : HashMap EntryKey Account S) → (account : Account) → account ≡ account_of_entry it →
      ((x : EntryKey) → hash.get external_eq new x ≡
      cond (external_eq key x) (Some account) (hash.get external_eq old x)) →
      IsMap (take (k + 1) entries) new
  map_more key at none new account account_is updates x =
      updates x
      ∙ (ap (λ (y : EntryKey). cond (external_eq y x) (Some account) (hash.get external_eq old x)) at
      ∙ (ap (λ (a : Account). cond (is_under x it) (Some a) (hash.get external_eq old x)) account_is
      ∙ (ap (cond (is_under x it) (Some (account_of_entry it))) (is x)
      ∙ (joins (find (is_under x) (take k entries)) (is_under x it) (λ under.
      ap is_some (sym (is x)) ∙ (ap (λ (y : EntryKey). is_some (hash.get external_eq old y))
      (sym (external_is its x under) ∙ sym at) ∙ none))
      ∙ sym (ap (option_map account_of_entry) (next x))))))
    where
      joins : (o : Option LogEntry) (v : Bool) → (v ≡ true → is_some (option_map account_of_entry o) ≡ false) →
          cond v (Some (account_of_entry it)) (option_map account_of_entry o)
          ≡ option_map account_of_entry (option_or o (cond v (Some it) None))
      joins None true h = refl
      joins None false h = refl
      joins (Some n) true h = let never = h refl in cc
      joins (Some n) false h = refl

find_agrees : {X : Type 0} (p q : X → Bool) (xs : List X) → Each (λ x. p x ≡ q x) xs → find p xs ≡ find q xs
find_agrees p q [] h = refl
find_agrees p q (x ∷ xs) h = ap (λ v. cond v (Some x) (find p xs)) h.0
    ∙ ap (cond (q x) (Some x)) (find_agrees p q xs h.1)

-- A map therefore has the account of each open entry.
pub account_is : {S : Type 0} (log : LogModel) (all : HashMap EntryKey Account S) → IsMap log.entries all → (now : ℕ) →
    kept_at now log ≡ log → (row : Row) → hash.get external_eq all (entry_key row) ≡ account_at now log row
account_is log all is now kept row = is (entry_key row) ∙ ap (option_map account_of_entry)
    (find_agrees (is_under (entry_key row)) (λ n. entry_is_of now row n.entry) log.entries
    (has_each (λ n. is_under (entry_key row) n ≡ entry_is_of now row n.entry) log.entries (λ n h.
    let opens = (filter_has (is_open now) log.entries n (subst (λ (l : LogModel). Has l.entries n) (sym kept) h)).1 in
    share_either row n.entry.binding ∙ sym (ap (λ v. v && shares row n.entry.binding) opens))))

pub accounts_are : {S : Type 0} (log : LogModel) (all : HashMap EntryKey Account S) → IsMap log.entries all →
    (now : ℕ) →
    kept_at now log ≡ log → (list : List Binding) →
    map (λ b. hash.get external_eq all (entry_key b.row)) list ≡ map (λ b. account_at now log b.row) list
accounts_are log all is now kept [] = refl
accounts_are log all is now kept (b ∷ list) =
    (λ i. account_is log all is now kept b.row i ∷ accounts_are log all is now kept list i)

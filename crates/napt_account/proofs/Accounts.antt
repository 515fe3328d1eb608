-- The accounts of a state, one binding after another.
use Rattle.std.proofs.lemmas.{Grind.common_steps, Bool.Decides.nat_tests}
use Rattle.std.proofs.Common.{◌≡◌, ℕ, zero, suc, ◌+◌, ◌<◌, ◌≤◌, ◌==◌, Bool, true, false, not, ◌&&◌, ◌||◌, cond, List, [], ◌∷◌, ◌++◌, length, get_or, take, drop, Option, Some, None, refl, sym, ◌∙◌, ap, subst, arith, append-nil}
use Rattle.std.specs.{List.{list_any}, HashSet.HashSet}
use Rattle.std.specs.HashSet as hash
use Rattle.napt_rules.specs.{Prelude.{Binding, Icmp}}
use Rattle.napt_account.specs.declared.{account.Account.Account, open_entries.EntryKey.EntryKey}
use Rattle.napt_account.specs.LogStarts.{account_in, accounted, are_accounts, are_apart, is_account, with_account}
use Rattle.napt_account.specs.OpenEntries.{entry_key, external_eq}
use Rattle.napt_account.proofs.{LogStarts.Kept, OpenEntries.external_flip}

with_joined : (b : Binding) (o : Option Account) (ks more : List Kept) →
    with_account b o ks ++ more ≡ with_account b o (ks ++ more)
with_joined b None ks more = refl
with_joined b (Some a) ks more = refl

-- The first of them, and one more.
pub accounted_more : (list : List Binding) (accounts : List (Option Account)) (k : ℕ) (d : Binding) → k < length list →
    accounted (take (suc k) list) accounts
    ≡ accounted (take k list) accounts ++ with_account (get_or list k d) (account_in accounts k) []
accounted_more [] accounts k d below = absurd (omega (arith, below))
accounted_more (b ∷ list) [] zero d below = refl
accounted_more (b ∷ list) [] (suc k) d below = refl
accounted_more (b ∷ list) (o ∷ accounts) zero d below = refl
accounted_more (b ∷ list) (o ∷ accounts) (suc k) d below =
    ap (with_account b o) (accounted_more list accounts k d (omega (arith, below)))
    ∙ sym (with_joined b o (accounted (take k list) accounts)
    (with_account (get_or list k d) (account_in accounts k) []))

pub seen_next : (list : List Binding) (accounts : List (Option Account)) (k : ℕ) (d : Binding) → k < length list →
    accounted (take (k + 1) list) accounts
    ≡ accounted (take k list) accounts ++ with_account (get_or list k d) (account_in accounts k) []
seen_next list accounts k d below =
    let next : suc k ≡ k + 1 = omega arith in
    subst (λ n. accounted (take n list) accounts
    ≡ accounted (take k list) accounts ++ with_account (get_or list k d) (account_in accounts k) []) next
    (accounted_more list accounts k d below)

-- The next of them, and the others.
pub accounted_next : (list : List Binding) (accounts : List (Option Account)) (k : ℕ) (d : Binding) → k < length list →
    accounted (drop k list) (drop k accounts)
    ≡ with_account (get_or list k d) (account_in accounts k) (accounted (drop (suc k) list) (drop (suc k) accounts))
accounted_next [] accounts k d below = absurd (omega (arith, below))
accounted_next (b ∷ list) [] zero d below = none_left list
  where
    none_left : (list : List Binding) → [] ≡ accounted list []
    none_left [] = refl
    none_left (x ∷ list) = refl
accounted_next (b ∷ list) [] (suc k) d below = none_at (drop k list) (drop (suc k) list)
  where
    none_at : (list more : List Binding) → accounted list [] ≡ accounted more []
    none_at [] [] = refl
    none_at [] (y ∷ more) = refl
    none_at (x ∷ list) [] = refl
    none_at (x ∷ list) (y ∷ more) = refl
accounted_next (b ∷ list) (o ∷ accounts) zero d below = refl
accounted_next (b ∷ list) (o ∷ accounts) (suc k) d below = accounted_next list accounts k d (omega (arith, below))

pub accounted_end : (list : List Binding) (accounts : List (Option Account)) (k : ℕ) → length list ≤ k →
    accounted (drop k list) (drop k accounts) ≡ []
accounted_end [] accounts zero past = refl
accounted_end [] accounts (suc k) past = refl
accounted_end (b ∷ list) accounts zero past = absurd (omega (arith, past))
accounted_end (b ∷ list) [] (suc k) past = none_at (drop k list)
  where
    none_at : (list : List Binding) → accounted list [] ≡ []
    none_at [] = refl
    none_at (x ∷ list) = refl
accounted_end (b ∷ list) (o ∷ accounts) (suc k) past = accounted_end list accounts k (omega (arith, past))

-- SETS OF NUMBERS AND OF ENDPOINTS

pub any_pushed : {X : Type 0} (p : X → Bool) (xs : List X) (x : X) → list_any p (xs ++ x ∷ []) ≡ (p x || list_any p xs)
any_pushed p [] x = refl
any_pushed p (y ∷ xs) x = grind (arith, common_steps, any_pushed p xs x)

pub as_or : (a b : Bool) → cond a true b ≡ (a || b)
as_or true b = refl
as_or false b = refl

abbrev number_eq : ℕ → ℕ → Bool
number_eq a b = a == b

abbrev pub HasNumbers : {S : Type 0} → List Kept → HashSet ℕ S → Type 0
HasNumbers ks all = (x : ℕ) → hash.contains number_eq all x ≡ list_any (λ k. k.1.number == x) ks

abbrev pub HasEndpoints : {S : Type 0} → List Kept → HashSet EntryKey S → Type 0
HasEndpoints ks all = (x : EntryKey) →
    hash.contains external_eq all x ≡ list_any (λ k. external_eq (entry_key k.0.row) x) ks

pub numbers_more : {S : Type 0} (ks : List Kept) (k : Kept) (old new : HashSet ℕ S) → HasNumbers ks old →
    ((x : ℕ) → hash.contains number_eq new x ≡ cond (number_eq k.1.number x) true (hash.contains number_eq old x)) →
    HasNumbers (ks ++ k ∷ []) new
numbers_more ks k old new has updates x =
    updates x ∙ (as_or (k.1.number == x) (hash.contains number_eq old x)
    ∙ (ap (λ v. (k.1.number == x) || v) (has x) ∙ sym (any_pushed (λ j. j.1.number == x) ks k)))

pub endpoints_more : {S : Type 0} (ks : List Kept) (k : Kept) (key : EntryKey) → key ≡ entry_key k.0.row →
    (old new : HashSet EntryKey S) → HasEndpoints ks old → ((x : EntryKey) → hash.contains external_eq new x
    ≡ cond (external_eq key x) true (hash.contains external_eq old x)) → HasEndpoints (ks ++ k ∷ []) new
endpoints_more ks k key is old new has updates x =
    updates x ∙ (ap (λ (y : EntryKey). cond (external_eq y x) true (hash.contains external_eq old x)) is
    ∙ (as_or (external_eq (entry_key k.0.row) x) (hash.contains external_eq old x)
    ∙ (ap (λ v. external_eq (entry_key k.0.row) x || v) (has x)
    ∙ sym (any_pushed (λ j. external_eq (entry_key j.0.row) x) ks k))))

-- An account is apart from all before it if neither set has its number or endpoint.
pub any_apart : (k : Kept) (ks : List Kept) → list_any (λ o. not (are_apart k o)) ks
    ≡ (list_any (λ j. j.1.number == k.1.number) ks || list_any
    (λ j. external_eq (entry_key j.0.row) (entry_key k.0.row)) ks)
any_apart k [] = refl
any_apart k (o ∷ ks) =
    let rest = any_apart k ks in
    let keys = external_flip (entry_key k.0.row) (entry_key o.0.row) in
    let numbers = number_flip k.1.number o.1.number in
    four (k.1.number == o.1.number) (o.1.number == k.1.number) (external_eq (entry_key k.0.row) (entry_key o.0.row))
    (external_eq (entry_key o.0.row) (entry_key k.0.row)) numbers keys _ _ _ rest
  where
    number_flip : (a b : ℕ) → (a == b) ≡ (b == a)
    number_flip a b = grind (arith, nat_tests)

    four : (a b c d : Bool) → a ≡ b → c ≡ d → (r s t : Bool) → r ≡ (s || t) →
        (not (not (a || c)) || r) ≡ ((b || s) || (d || t))
    four true true c d e f r s t g = refl
    four true false c d e f r s t g = cc
    four false true c d e f r s t g = cc
    four false false true true e f r true t g = refl
    four false false true true e f r false t g = refl
    four false false true false e f r s t g = cc
    four false false false true e f r s t g = cc
    four false false false false e f r s t g = g

module _ (made clock : ℕ) (list : List Binding) (accounts : List (Option Account)) where
  -- The first accounts were checked, and the others are still to be.
  abbrev pub IsChecked : ℕ → Type 0
  IsChecked k = are_accounts made clock [] (accounted list accounts)
      ≡ are_accounts made clock (accounted (take k list) accounts) (accounted (drop k list) (drop k accounts))

  module _ (k : ℕ) (d : Binding) (below : k < length list) (checked : IsChecked k) where
    abbrev b : Binding
    b = get_or list k d

    abbrev seen : List Kept
    seen = accounted (take k list) accounts

    abbrev rest : List Kept
    rest = accounted (drop (suc k) list) (drop (suc k) accounts)

    next_place : suc k ≡ k + 1
    next_place = omega arith

    pub seen_same : account_in accounts k ≡ None → accounted (take (k + 1) list) accounts ≡ seen
    seen_same none = seen_next list accounts k d below
        ∙ (ap (λ (o : Option Account). seen ++ with_account b o []) none ∙ append-nil seen)

    pub seen_more : (a : Account) → account_in accounts k ≡ Some a →
        accounted (take (k + 1) list) accounts ≡ seen ++ (b, a) ∷ []
    seen_more a some = seen_next list accounts k d below
        ∙ ap (λ (o : Option Account). seen ++ with_account b o []) some

    checked_next : (ks : List Kept) → accounted (take (k + 1) list) accounts ≡ ks →
        are_accounts made clock [] (accounted list accounts) ≡ are_accounts made clock ks rest → IsChecked (k + 1)
    checked_next ks is so_far = so_far ∙ (ap (λ (js : List Kept). are_accounts made clock js rest) (sym is)
        ∙ ap (λ n. are_accounts made clock (accounted (take (k + 1) list) accounts)
        (accounted (drop n list) (drop n accounts)))
        next_place)

    pub checked_none : account_in accounts k ≡ None → IsChecked (k + 1)
    checked_none none = checked_next seen (seen_same none) (checked
        ∙ ap (are_accounts made clock seen) (accounted_next list accounts k d below
        ∙ ap (λ (o : Option Account). with_account b o rest) none))

    at_next : (a : Account) → account_in accounts k ≡ Some a → are_accounts made clock [] (accounted list accounts)
        ≡ (is_account made clock a && (not (list_any (λ o. not (are_apart (b, a) o)) seen)
        && are_accounts made clock (seen ++ (b, a) ∷ []) rest))
    at_next a some = checked ∙ ap (are_accounts made clock seen) (accounted_next list accounts k d below
        ∙ ap (λ (o : Option Account). with_account b o rest) some)

    pub checked_some : (a : Account) → account_in accounts k ≡ Some a → is_account made clock a ≡ true →
        list_any (λ o. not (are_apart (b, a) o)) seen ≡ false → IsChecked (k + 1)
    checked_some a some within apart = checked_next (seen ++ (b, a) ∷ []) (seen_more a some) (at_next a some
        ∙ (ap (λ v. v && (not (list_any (λ o. not (are_apart (b, a) o)) seen)
        && are_accounts made clock (seen ++ (b, a) ∷ []) rest)) within
        ∙ ap (λ v. not v && are_accounts made clock (seen ++ (b, a) ∷ []) rest) apart))

    pub unchecked : (a : Account) → account_in accounts k ≡ Some a →
        (is_account made clock a && not (list_any (λ o. not (are_apart (b, a) o)) seen)) ≡ false →
        are_accounts made clock [] (accounted list accounts) ≡ false
    unchecked a some fails = at_next a some
        ∙ joined (is_account made clock a) (not (list_any (λ o. not (are_apart (b, a) o)) seen)) _ fails
      where
        joined : (x y z : Bool) → (x && y) ≡ false → (x && (y && z)) ≡ false
        joined true true z h = cc
        joined true false z h = refl
        joined false y z h = refl

-- Any binding, for a place that is not looked at.
pub some_binding : Binding
some_binding = record {
  row = record {
    protocol = Icmp;
    inside = record { address = 0; number = 0 };
    external = record { address = 0; number = 0 };
    fixed = false;
  };
  last = 0;
  flows = [];
}

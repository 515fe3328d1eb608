-- The accounts of a saved state, one binding after another.
use Rattle.std.proofs.Common.{◌≡◌, ℕ, zero, ◌+◌, ◌<◌, ◌≤◌, ◌^◌, Bool, true, false, not, ◌&&◌, ◌||◌, cond, List, [], ◌∷◌, ◌++◌, length, get_or, take, drop, suc, Option, Some, None, refl, sym, ◌∙◌, ap, subst, arith, append-nil}
use Rattle.std.proofs.lemmas.{Bool.Decides.nat_tests, List.take_more}
use Rattle.std.proofs.Math.Seq.{drop-cons}
use Rattle.std.specs.{List.list_any, HashSet.HashSet, Prelude.nat_le}
use Rattle.std.specs.HashSet as hash
use Rattle.napt_rules.specs.Prelude.{Binding}
use Rattle.napt_rules.specs.declared.Row.{Row}
use Rattle.napt_account.specs.declared.account.Account.{Account}
use Rattle.napt_account.specs.LogStarts.{are_accounts, are_apart, is_account, with_account}
use Rattle.napt_account.proofs.{Accounts.{any_apart, any_pushed, as_or}, LogStarts.Kept}
use Rattle.napt_state.specs.declared.{endpoints.EndpointKey.EndpointKey, saved_bindings.SavedBinding.SavedBinding}
use Rattle.napt_state.specs.declared.saved_bindings.SavedBinding.TheVariants as bindings
use Rattle.napt_state.specs.{Saved.{accounted_in, has_accounts, have_ended, made_so_far}, StateFiles.StateFileModel}
use Rattle.napt_state.specs.StateReaders.{state_external_key, state_key_eq}

abbrev pub HasKeys : {S : Type 0} → List Kept → HashSet EndpointKey S → Type 0
HasKeys ks all = (x : EndpointKey) →
    hash.contains state_key_eq all x ≡ list_any (λ k. state_key_eq (state_external_key k.0.row) x) ks

pub keys_more : {S : Type 0} (ks : List Kept) (k : Kept) (key : EndpointKey) → key ≡ state_external_key k.0.row →
    (old new : HashSet EndpointKey S) → HasKeys ks old → ((x : EndpointKey) → hash.contains state_key_eq new x
    ≡ cond (state_key_eq key x) true (hash.contains state_key_eq old x)) → HasKeys (ks ++ k ∷ []) new
keys_more ks k key is old new has updates x =
    updates x ∙ (ap (λ (y : EndpointKey). cond (state_key_eq y x) true (hash.contains state_key_eq old x)) is
    ∙ (as_or (state_key_eq (state_external_key k.0.row) x) (hash.contains state_key_eq old x)
    ∙ (ap (λ v. state_key_eq (state_external_key k.0.row) x || v) (has x)
    ∙ sym (any_pushed (λ j. state_key_eq (state_external_key j.0.row) x) ks k))))

with_joined : (b : Binding) (o : Option Account) (ks others : List Kept) →
    with_account b o ks ++ others ≡ with_account b o (ks ++ others)
with_joined b None ks others = refl
with_joined b (Some a) ks others = refl

accounted_behind : (front list : List SavedBinding) →
    accounted_in (front ++ list) ≡ accounted_in front ++ accounted_in list
accounted_behind [] list = refl
accounted_behind (bindings.Live b a ∷ front) list =
    ap (with_account b a) (accounted_behind front list) ∙ sym (with_joined b a (accounted_in front) (accounted_in list))
accounted_behind (bindings.Ended row end ∷ front) list = accounted_behind front list

pub or_true : (a b : Bool) → b ≡ true → (a || b) ≡ true
or_true true b h = refl
or_true false b h = h

pub or_false : (a b : Bool) → a ≡ false → b ≡ false → (a || b) ≡ false
or_false true b h g = cc
or_false false true h g = cc
or_false false false h g = refl

pub le_by : (a b : ℕ) → a ≤ b → nat_le a b ≡ true
le_by a b by = grind (arith, nat_tests)

module _ (made clock : ℕ) where
  -- The accounts that are still to be checked, after the given ones.
  abbrev pub fits : List Kept → List SavedBinding → Bool
  fits seen rest = have_ended clock rest && are_accounts made clock seen (accounted_in rest)

  module _ (list : List SavedBinding) where
    abbrev pub seen : ℕ → List Kept
    seen k = accounted_in (take k list)

    -- The first accounts were checked, and the others are still to be.
    abbrev pub IsLooked : ℕ → Type 0
    IsLooked k = fits [] list ≡ fits (seen k) (drop k list)

    module _ (k : ℕ) (x : SavedBinding) (below : k < length list) (here : get_or list k x ≡ x) (looked : IsLooked k)
      where
        rest : List SavedBinding
        rest = drop (k + 1) list

        next : drop k list ≡ x ∷ drop (k + 1) list
        next =
            let step : suc k ≡ k + 1 = omega arith in
            drop-cons list k x below ∙ (λ i. here i ∷ drop (step i) list)

        pub seen_next : (ks : List Kept) → accounted_in (x ∷ []) ≡ ks → seen (k + 1) ≡ seen k ++ ks
        seen_next ks is = ap accounted_in (take_more list k x below ∙ ap (λ y. take k list ++ y ∷ []) here)
            ∙ accounted_behind (take k list) (x ∷ []) ∙ ap (λ js. seen k ++ js) is

        now : fits [] list ≡ fits (seen k) (x ∷ drop (k + 1) list)
        now = looked ∙ ap (fits (seen k)) next

        looked_next : (ks : List Kept) → seen (k + 1) ≡ ks →
            fits (seen k) (x ∷ drop (k + 1) list) ≡ fits ks (drop (k + 1) list) → IsLooked (k + 1)
        looked_next ks is same = now ∙ same ∙ ap (λ js. fits js (drop (k + 1) list)) (sym is)

        pub seen_same : accounted_in (x ∷ []) ≡ [] → seen (k + 1) ≡ seen k
        seen_same is = seen_next [] is ∙ append-nil (seen k)

        pub looked_none : (b : Binding) → x ≡ bindings.Live b None → IsLooked (k + 1)
        looked_none b is = looked_next (seen k) (seen_same (ap (λ y. accounted_in (y ∷ [])) is))
            (ap (λ y. fits (seen k) (y ∷ drop (k + 1) list)) is)

        pub looked_ended : (row : Row) (end : ℕ) → x ≡ bindings.Ended row end → nat_le end clock ≡ true →
            IsLooked (k + 1)
        looked_ended row end is by = looked_next (seen k) (seen_same (ap (λ y. accounted_in (y ∷ [])) is))
            (ap (λ y. fits (seen k) (y ∷ drop (k + 1) list)) is
            ∙ ap (λ v. (v && have_ended clock (drop (k + 1) list))
            && are_accounts made clock (seen k) (accounted_in (drop (k + 1) list))) by)

        pub late : (row : Row) (end : ℕ) → x ≡ bindings.Ended row end → nat_le end clock ≡ false →
            fits [] list ≡ false
        late row end is by = now ∙ ap (λ y. fits (seen k) (y ∷ drop (k + 1) list)) is
            ∙ ap (λ v. (v && have_ended clock (drop (k + 1) list))
            && are_accounts made clock (seen k) (accounted_in (drop (k + 1) list))) by

        at : (b : Binding) (a : Account) → x ≡ bindings.Live b (Some a) → fits [] list
            ≡ (have_ended clock (drop (k + 1) list) && (is_account made clock a
            && (not (list_any (λ o. not (are_apart (b, a) o)) (seen k))
            && are_accounts made clock (seen k ++ (b, a) ∷ []) (accounted_in (drop (k + 1) list)))))
        at b a is = now ∙ ap (λ y. fits (seen k) (y ∷ drop (k + 1) list)) is

        pub looked_some : (b : Binding) (a : Account) → x ≡ bindings.Live b (Some a) → is_account made clock a ≡ true →
            list_any (λ o. not (are_apart (b, a) o)) (seen k) ≡ false → IsLooked (k + 1)
        looked_some b a is within apart = at b a is
            ∙ ap (λ v. have_ended clock (drop (k + 1) list) && (v
            && (not (list_any (λ o. not (are_apart (b, a) o)) (seen k))
            && are_accounts made clock (seen k ++ (b, a) ∷ []) (accounted_in (drop (k + 1) list))))) within
            ∙ ap (λ v. have_ended clock (drop (k + 1) list) && (not v
            && are_accounts made clock (seen k ++ (b, a) ∷ []) (accounted_in (drop (k + 1) list)))) apart
            ∙ ap (λ js. fits js (drop (k + 1) list))
            (sym (seen_next ((b, a) ∷ []) (ap (λ y. accounted_in (y ∷ [])) is)))

        pub misplaced : (b : Binding) (a : Account) → x ≡ bindings.Live b (Some a) →
            (is_account made clock a && not (list_any (λ o. not (are_apart (b, a) o)) (seen k))) ≡ false →
            fits [] list ≡ false
        misplaced b a is fails = at b a is ∙ joined (have_ended clock (drop (k + 1) list)) (is_account made clock a)
            (not (list_any (λ o. not (are_apart (b, a) o)) (seen k))) _ fails
          where
            joined : (w x y z : Bool) → (x && y) ≡ false → (w && (x && (y && z))) ≡ false
            joined false x y z h = refl
            joined true true true z h = cc
            joined true true false z h = refl
            joined true false y z h = refl

    all_of : (k : ℕ) (xs : List SavedBinding) → length xs ≤ k → drop k xs ≡ []
    all_of zero [] le = refl
    all_of zero (x ∷ xs) le = absurd (omega (arith, le))
    all_of (suc k) [] le = refl
    all_of (suc k) (x ∷ xs) le = all_of k xs (omega (arith, le))

    pub looked_all : (k : ℕ) → length list ≤ k → IsLooked k → fits [] list ≡ true
    looked_all k le looked = looked ∙ ap (fits (seen k)) (all_of k list le)

pub has_not : (saved : StateFileModel) (made : ℕ) → made ≡ made_so_far saved.log →
    fits made saved.clock [] saved.bindings ≡ false → has_accounts saved ≡ false
has_not saved made is not_fit = joined (nat_le (made_so_far saved.log) (2 ^ 61)) _
    (ap (λ m. fits m saved.clock [] saved.bindings) (sym is) ∙ not_fit)
  where
    joined : (a b : Bool) → b ≡ false → (a && b) ≡ false
    joined true b h = h
    joined false b h = refl

pub has_all : (saved : StateFileModel) (made : ℕ) → made ≡ made_so_far saved.log → made ≤ 2 ^ 61 →
    fits made saved.clock [] saved.bindings ≡ true → has_accounts saved ≡ true
has_all saved made is few fit =
    let few_so : made_so_far saved.log ≤ 2 ^ 61 = subst (λ m. m ≤ 2 ^ 61) is few in
    ap (λ v. v && fits (made_so_far saved.log) saved.clock [] saved.bindings) (le_by _ _ few_so)
    ∙ ap (λ m. fits m saved.clock [] saved.bindings) (sym is) ∙ fit

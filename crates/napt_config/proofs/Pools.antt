-- Addresses in a pool, and their places.
use Rattle.std.proofs.lemmas.Grind.{common_steps}
use Rattle.std.proofs.Common.{◌≡◌, ℕ, suc, ◌+◌, ◌%◌, ◌<◌, ◌≤◌, ◌||◌, Bool, true, false, cond, not, List, [], ◌∷◌, ◌++◌, length, get_or, IsSome, IfSome, Option, Some, None, nat_cmp, ◌==◌, refl, sym, ◌∙◌, eq-eqb, lt-ltb, arith, inl, inr, length-append, position, unwrap_or, All}
use Rattle.std.{specs.{BTreeMap.is_at, Map.values_of, List.{list_any, position_or_len}}, proofs.lemmas.{Bool.{cases_lt, false≢true}, List.Folds.list_any_at}}
use Rattle.std.proofs.{Math.Seq.get_or-append_seam, lemmas.{List.get_or_append_left, Map.Views.IfSome-lookup_from_All}}
use Rattle.napt_config.specs.Prelude.{PrefixModel, host_index, contains_address, paired_address, paired_with}

first_or_later : (b later : Bool) (n m : ℕ) → (b || later) ≡ true → (later ≡ true → n < m) → cond (not b) (1 + n) 0
    < suc m
first_or_later true later n m some more = omega arith
first_or_later false later n m some more = omega (arith, more some)

found : (p : ℕ → Bool) (xs : List ℕ) → list_any p xs ≡ true → position_or_len p xs < length xs
found p [] none = cc
found p (x ∷ xs) some = first_or_later (p x) (list_any p xs) (position_or_len p xs) (length xs) some (found p xs)

-- Every address of the pool has a place in it.
pub position_of_member : (pool : List ℕ) (address : ℕ) → contains_address pool address ≡ true →
    IsSome (position (λ other. other == address) pool)
position_of_member pool address member = rw (lt-ltb _ _ (found (λ other. other == address) pool member))

pub has-at : (pool : List ℕ) (i d : ℕ) → i < length pool → contains_address pool (get_or pool i d) ≡ true
has-at pool i d lt = list_any_at (λ other. other == get_or pool i d) pool i d lt (eq-eqb _ _ refl)

-- No address is in the pool twice.
abbrev pub AreDistinct : List ℕ → Type 0
AreDistinct pool = (i j : ℕ) → i < length pool → j < length pool → get_or pool i 0 ≡ get_or pool j 0 → i ≡ j

not_again : (pool : List ℕ) (address i : ℕ) → contains_address pool address ≡ false → i < length pool →
    get_or pool i 0 ≡ address → ⊥
not_again pool address i new lt same = false≢true (sym new ∙ rw (← same) (has-at pool i 0 lt))

pub AreDistinct-push : (pool : List ℕ) (address : ℕ) → AreDistinct pool → contains_address pool address ≡ false →
    AreDistinct (pool ++ address ∷ [])
AreDistinct-push pool address distinct new i j i_in j_in same =
    grind (arith, common_steps, get_or, get_or-append_seam, cases_lt, not_again)

has_either : (pool : List ℕ) (own : Option ℕ) (other : ℕ) →
    IfSome own (λ external. contains_address pool external ≡ true) →
    contains_address pool other ≡ true → contains_address pool (unwrap_or own other) ≡ true
has_either pool None other of_own of_other = of_other
has_either pool (Some external) other of_own of_other = of_own

-- The external address of a host is in the pool.
pub paired_in_pool : (block : Option ℕ) (inside : List PrefixModel) (pool : List ℕ) (pairs : List (ℕ × ℕ)) (host : ℕ) →
    1 ≤ length pool → All (λ external. contains_address pool external ≡ true) (values_of pairs)
    → contains_address pool (paired_address block inside pool pairs host) ≡ true
unfolding paired_address
paired_in_pool None inside pool pairs host some externals =
    has_either pool (paired_with pairs host) _ (IfSome-lookup_from_All
    (λ external. contains_address pool external ≡ true)
    (is_at (nat_cmp host)) pairs externals)
    (has-at pool (host % length pool) 0 (omega (arith, some)))
paired_in_pool (Some size) inside pool pairs host some externals =
    has-at pool (unwrap_or (host_index inside host) host % length pool) 0 (omega (arith, some))

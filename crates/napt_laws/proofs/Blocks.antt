-- The candidates of a number in a port block are the numbers of the block, each once; that at its place is the first.
use Rattle.std.proofs.Common.{◌≡◌, ◌≢◌, ℕ, zero, suc, ◌+◌, ◌-◌, ◌*◌, ◌/◌, ◌%◌, ◌<◌, ◌≤◌, ◌==◌, Bool, true, false, nat_le, List, ◌∷◌, ◌++◌, map, Option, Some, None, ◌⊎◌, inl, inr, refl, sym, ◌∙◌, ap, subst, arith, leb-true, leb-false}
use Rattle.std.{specs.List.{All, AllPairs, Contains, range_with_len}, proofs.lemmas.Nat.{mod_below, Gcd.dvd_of_mod-eq-zero}}
use Rattle.std.proofs.Math.Nat.{mod-eq_of_lt, add-mod_left, mod-mod_of_dvd}
use Rattle.std.proofs.lemmas.List.Elements.{All-append, All-contains, Contains-append_left, Contains-append_right}
use Rattle.std.proofs.lemmas.List.FromFn.{length-map-range_with_len, get_or-map-range_with_len}
use Rattle.napt_rules.specs.Prelude.{Each, IsBlockNumber, BlockCandidatesBegin, BlockCandidatesAreTheBlock, BlockCandidatesDiffer, BlockCandidatesKeepParity, numbers_below, mixed, every_other, each_one, place_in, block_from, candidates, IsPortBlock, PortBlock, NumberAssignment, Seed, Endpoint, Protocol}
use Rattle.napt_laws.proofs.Classes.{AllPairs-append, each_from}

-- A FUNCTION OF EACH NUMBER BELOW A LIMIT

module _ (f : ℕ → ℕ) (many : ℕ) where
  all_mapped : (P : ℕ → Type 0) → ((k : ℕ) → k < many → P (f k)) → All P (map f (numbers_below many))
  unfolding numbers_below
  all_mapped P each k d h =
      let within : k < many = rw (← length-map-range_with_len f 0 many) h in
      rw (get_or-map-range_with_len f 0 many k k d within (omega arith)) (each k within)

  pairs_mapped : (R : ℕ → ℕ → Type 0) → ((i j : ℕ) → i < j → j < many → R (f i) (f j)) →
      AllPairs R (map f (numbers_below many))
  unfolding numbers_below
  pairs_mapped R each i j d less h =
      let within : j < many = rw (← length-map-range_with_len f 0 many) h in
      rw (
        get_or-map-range_with_len f 0 many i i d (omega (arith, less, within)) (omega arith),
        get_or-map-range_with_len f 0 many j j d within (omega arith),
      ) (each i j less within)

  contains_mapped : (k : ℕ) → k < many → Contains (map f (numbers_below many)) (f k)
  unfolding numbers_below
  contains_mapped k within = (
    k,
    rw (length-map-range_with_len f 0 many) within,
    get_or-map-range_with_len f 0 many k k (f k) within (omega arith),
  )

first_mapped : (f : ℕ → ℕ) (many : ℕ) → 0 < many → (others : List ℕ) × (map f (numbers_below many) ≡ f 0 ∷ others)
unfolding numbers_below
first_mapped f zero some = absurd (omega (arith, some))
first_mapped f (suc many) some = (map f (range_with_len 1 many), refl)

-- PLACES IN A BLOCK

module _ (block : PortBlock) (is : IsPortBlock block) where
  -- A place below twice the size wraps at most once.
  wrapped : (x : ℕ) → x < 2 * block.size → ((x % block.size ≡ x) × (x < block.size))
      ⊎ ((x % block.size ≡ x - block.size) × (block.size ≤ x))
  wrapped x small = elim (nat_le block.size x) as (λ v. nat_le block.size x ≡ v →
      ((x % block.size ≡ x) × (x < block.size)) ⊎ ((x % block.size ≡ x - block.size) × (block.size ≤ x))) [
        | true ↦ λ e.
            let le : block.size ≤ x = leb-true block.size x e in
            let off : x ≡ block.size + (x - block.size) = omega (arith, le) in
            let less : x - block.size < block.size = omega (arith, le, small) in
            inr (ap (λ n. n % block.size) off ∙ (add-mod_left block.size (x - block.size) ∙ mod-eq_of_lt less), le)
        | false ↦ λ e.
            let less : x < block.size = leb-false block.size x e in
            inl (mod-eq_of_lt less, less)
      ] refl

  module _ (place : ℕ) (on : place ≤ block.size) where
    abbrev at : ℕ → ℕ
    at k = (place + 2 * k) % block.size

    at_is : (k : ℕ) → k < block.size / 2 → ((at k ≡ place + 2 * k) × (place + 2 * k < block.size))
        ⊎ ((at k ≡ (place + 2 * k) - block.size) × (block.size ≤ place + 2 * k))
    at_is k within = wrapped (place + 2 * k) (omega (arith, on, within, is.size_even))

    at_parity : (k : ℕ) → k < block.size / 2 → at k % 2 ≡ place % 2
    at_parity k within = elim (at_is k within) as (λ v. at k % 2 ≡ place % 2) [
      | inl h ↦ omega (arith, h.0)
      | inr h ↦ omega (arith, h.0, h.1, is.size_even)
    ]

    at_differ : (i j : ℕ) → i < j → j < block.size / 2 → at i ≢ at j
    at_differ i j less within = λ same.
        let before : i < block.size / 2 = omega (arith, less, within) in
        elim (at_is i before) as (λ v. ⊥) [
          | inl h ↦ elim (at_is j within) as (λ v. ⊥) [
            | inl g ↦ absurd (omega (arith, h.0, g.0, same, less))
            | inr g ↦ absurd (omega (arith, h.0, g.0, g.1, same, less, within))
          ]
          | inr h ↦ elim (at_is j within) as (λ v. ⊥) [
            | inl g ↦ absurd (omega (arith, h.1, g.1, less))
            | inr g ↦ absurd (omega (arith, h.0, h.1, g.0, g.1, same, less))
          ]
        ]

    at_reaches : (o : ℕ) → o < block.size → o % 2 ≡ place % 2 → Contains (every_other block place) (block.first + o)
    at_reaches o small alike = elim (nat_le place o) as (λ v. nat_le place o ≡ v →
        Contains (every_other block place) (block.first + o)) [
          | true ↦ λ e.
              let le : place ≤ o = leb-true place o e in
              let k : ℕ = (o - place) / 2 in
              let there : place + 2 * k ≡ o = omega (arith, le, alike) in
              let within : k < block.size / 2 = omega (arith, le, alike, small, is.size_even) in
              subst (λ n. Contains (every_other block place) (block.first + n))
              (ap (λ n. n % block.size) there ∙ mod-eq_of_lt small)
              (contains_mapped (λ k. block.first + (place + 2 * k) % block.size) (block.size / 2) k within)
          | false ↦ λ e.
              let less : o < place = leb-false place o e in
              let k : ℕ = ((block.size + o) - place) / 2 in
              let there : place + 2 * k ≡ block.size + o = omega (arith, less, alike, on, is.size_even) in
              let within : k < block.size / 2 = omega (arith, less, alike, on, is.size_even) in
              subst (λ n. Contains (every_other block place) (block.first + n))
              (ap (λ n. n % block.size) there ∙ (add-mod_left block.size o ∙ mod-eq_of_lt small))
              (contains_mapped (λ k. block.first + (place + 2 * k) % block.size) (block.size / 2) k within)
        ] refl

    every_differs : AllPairs (λ m n. m ≢ n) (every_other block place)
    every_differs =
        pairs_mapped (λ k. block.first + (place + 2 * k) % block.size) (block.size / 2) (λ m n. m ≢ n)
        (λ i j less within same. at_differ i j less within (omega (arith, same)))

    every_has_parity : All (λ n. (n - block.first) % 2 ≡ place % 2) (every_other block place)
    every_has_parity =
        all_mapped (λ k. block.first + (place + 2 * k) % block.size) (block.size / 2)
        (λ n. (n - block.first) % 2 ≡ place % 2) (λ k within. omega (arith, at_parity k within))

  every_is : (place : ℕ) → All (IsBlockNumber block) (every_other block place)
  every_is place =
      all_mapped (λ k. block.first + (place + 2 * k) % block.size) (block.size / 2) (IsBlockNumber block) (λ k within.
      let some : 0 < block.size = omega (arith, is.some) in
      let less : (place + 2 * k) % block.size < block.size = mod_below (place + 2 * k) block.size some in
      record { first = omega arith; last = omega (arith, less) })

-- THE NUMBERS FROM A PLACE ON

module _ (block : PortBlock) (is : IsPortBlock block) (place : ℕ) (inside : place < block.size) where
  -- The candidates where parity is kept.
  two_all : All (IsBlockNumber block) (block_from true block place)
  two_all = All-append (IsBlockNumber block) (every_other block place) (every_other block (place + 1))
      (every_is block is place) (every_is block is (place + 1))

  two_begins : (others : List ℕ) × (block_from true block place ≡ (block.first + place) ∷ others)
  two_begins =
      let (rest, starts) = first_mapped (λ k. block.first + (place + 2 * k) % block.size) (block.size / 2)
      (omega (arith, is.some)) in
      let here : (place + 2 * 0) % block.size ≡ place =
      ap (λ n. n % block.size) (let z : place + 2 * 0 ≡ place = omega arith in z) ∙ mod-eq_of_lt inside in (
        rest ++ every_other block (place + 1),
        ap (λ (l : List ℕ). l ++ every_other block (place + 1)) starts
            ∙ ap (λ (n : ℕ). (block.first + n) ∷ (rest ++ every_other block (place + 1))) here,
      )

  two_has : (n : ℕ) → IsBlockNumber block n → Contains (block_from true block place) n
  two_has n of =
      let o : ℕ = n - block.first in
      let small : o < block.size = omega (arith, of.first, of.last) in
      let back : block.first + o ≡ n = omega (arith, of.first) in
      elim (o % 2 == place % 2) as (λ v. (o % 2 == place % 2) ≡ v → Contains (block_from true block place) n) [
        | true ↦ λ e.
            let same : o % 2 ≡ place % 2 = grind (arith, e) in
            Contains-append_left (every_other block place) (every_other block (place + 1)) n
            (subst (Contains (every_other block place)) back
            (at_reaches block is place (omega (arith, inside)) o small same))
        | false ↦ λ e.
            let differ : o % 2 ≢ place % 2 = grind (arith, e) in
            let same : o % 2 ≡ (place + 1) % 2 = omega (arith, differ) in
            Contains-append_right (every_other block place) (every_other block (place + 1)) n
            (subst (Contains (every_other block (place + 1))) back
            (at_reaches block is (place + 1) (omega (arith, inside)) o small same))
      ] refl

  two_differ : AllPairs (λ m n. m ≢ n) (block_from true block place)
  two_differ =
      AllPairs-append (λ m n. m ≢ n) (every_other block place) (every_other block (place + 1))
      (every_differs block is place (omega (arith, inside))) (every_differs block is (place + 1)
      (omega (arith, inside)))
      (λ i d h j e g same.
      let first = every_has_parity block is place (omega (arith, inside)) i d h in
      let second = every_has_parity block is (place + 1) (omega (arith, inside)) j e g in
      let third = sym first ∙ (ap (λ n. (n - block.first) % 2) same ∙ second) in
      omega (arith, third))

  -- The candidates where parity is free.
  abbrev one_at : ℕ → ℕ
  one_at k = (place + k) % block.size

  one_is : (k : ℕ) → k < block.size → ((one_at k ≡ place + k) × (place + k < block.size))
      ⊎ ((one_at k ≡ (place + k) - block.size) × (block.size ≤ place + k))
  one_is k within = wrapped block is (place + k) (omega (arith, inside, within))

  ones_differ : (i j : ℕ) → i < j → j < block.size → one_at i ≢ one_at j
  ones_differ i j less within = λ same. elim (one_is i (omega (arith, less, within))) as (λ v. ⊥) [
    | inl h ↦ elim (one_is j within) as (λ v. ⊥) [
      | inl g ↦ absurd (omega (arith, h.0, g.0, same, less))
      | inr g ↦ absurd (omega (arith, h.0, g.0, g.1, same, less, within))
    ]
    | inr h ↦ elim (one_is j within) as (λ v. ⊥) [
      | inl g ↦ absurd (omega (arith, h.1, g.1, less))
      | inr g ↦ absurd (omega (arith, h.0, h.1, g.0, g.1, same, less))
    ]
  ]

  one_all : All (IsBlockNumber block) (block_from false block place)
  one_all =
      all_mapped (λ k. block.first + one_at k) block.size (IsBlockNumber block) (λ k within.
      let some : 0 < block.size = omega (arith, is.some) in
      let less : one_at k < block.size = mod_below (place + k) block.size some in
      record { first = omega arith; last = omega (arith, less) })

  one_begins : (others : List ℕ) × (block_from false block place ≡ (block.first + place) ∷ others)
  one_begins =
      let (rest, starts) = first_mapped (λ k. block.first + one_at k) block.size (omega (arith, is.some)) in
      let here : (place + 0) % block.size ≡ place =
      ap (λ n. n % block.size) (let z : place + 0 ≡ place = omega arith in z) ∙ mod-eq_of_lt inside in
      (rest, starts ∙ ap (λ (n : ℕ). (block.first + n) ∷ rest) here)

  one_has : (n : ℕ) → IsBlockNumber block n → Contains (block_from false block place) n
  one_has n of =
      let o : ℕ = n - block.first in
      let small : o < block.size = omega (arith, of.first, of.last) in
      let back : block.first + o ≡ n = omega (arith, of.first) in
      subst (Contains (each_one block place)) back (elim (nat_le place o) as (λ v. nat_le place o ≡ v →
      Contains (each_one block place) (block.first + o)) [
        | true ↦ λ e.
            let le : place ≤ o = leb-true place o e in
            let there : place + (o - place) ≡ o = omega (arith, le) in
            subst (λ n. Contains (each_one block place) (block.first + n))
            (ap (λ n. n % block.size) there ∙ mod-eq_of_lt small)
            (contains_mapped (λ k. block.first + one_at k) block.size (o - place) (omega (arith, small)))
        | false ↦ λ e.
            let less : o < place = leb-false place o e in
            let k : ℕ = (block.size + o) - place in
            let there : place + k ≡ block.size + o = omega (arith, less, inside) in
            subst (λ n. Contains (each_one block place) (block.first + n))
            (ap (λ n. n % block.size) there ∙ (add-mod_left block.size o ∙ mod-eq_of_lt small))
            (contains_mapped (λ k. block.first + one_at k) block.size k (omega (arith, less, inside)))
      ] refl)

  one_differ : AllPairs (λ m n. m ≢ n) (block_from false block place)
  one_differ =
      pairs_mapped (λ k. block.first + one_at k) block.size (λ m n. m ≢ n)
      (λ i j less within same. ones_differ i j less within (omega (arith, same)))

  -- The candidates in either case.
  from_all : (keeps : Bool) → All (IsBlockNumber block) (block_from keeps block place)
  from_all true = two_all
  from_all false = one_all

  from_begins : (keeps : Bool) → (others : List ℕ) × (block_from keeps block place ≡ (block.first + place) ∷ others)
  from_begins true = two_begins
  from_begins false = one_begins

  from_has : (keeps : Bool) (n : ℕ) → IsBlockNumber block n → Contains (block_from keeps block place) n
  from_has true = two_has
  from_has false = one_has

  from_differ : (keeps : Bool) → AllPairs (λ m n. m ≢ n) (block_from keeps block place)
  from_differ true = two_differ
  from_differ false = one_differ

place_inside : (seed : Option Seed) (keeps : Bool) (block : PortBlock) → IsPortBlock block → (protocol : Protocol)
    (inside : Endpoint) → place_in seed keeps block.size protocol inside < block.size
place_inside None keeps block is protocol inside =
    let some : 0 < block.size = omega (arith, is.some) in mod_below inside.number block.size some
place_inside (Some seed) true block is protocol inside =
    let some : 0 < block.size / 2 = omega (arith, is.some) in
    let less : mixed seed protocol inside % (block.size / 2) < block.size / 2 =
    mod_below (mixed seed protocol inside) (block.size / 2) some in
    let parity : inside.number % 2 < 2 = omega arith in
    omega (arith, less, parity, is.size_even)
place_inside (Some seed) false block is protocol inside =
    let some : 0 < block.size = omega (arith, is.some) in mod_below (mixed seed protocol inside) block.size some

-- A property of each number of the block holds of each candidate there.
pub each_of_block : (P : ℕ → Type 0) (choosing : NumberAssignment) (block : PortBlock) → IsPortBlock block →
    (protocol : Protocol)
    (inside : Endpoint) → ((n : ℕ) → IsBlockNumber block n → P n) →
    Each P (candidates choosing (Some block) protocol inside)
each_of_block P choosing block is protocol inside holds =
    let place : ℕ = place_in choosing.seed choosing.keeps_parity block.size protocol inside in
    let within : place < block.size = place_inside choosing.seed choosing.keeps_parity block is protocol inside in
    each_from P (block_from choosing.keeps_parity block place) (λ k d h.
    holds _ (from_all block is place within choosing.keeps_parity k d h))

-- THE LAWS

pub block_begins : BlockCandidatesBegin
block_begins choosing block is protocol inside =
    let place : ℕ = place_in choosing.seed choosing.keeps_parity block.size protocol inside in
    let within : place < block.size = place_inside choosing.seed choosing.keeps_parity block is protocol inside in
    (within, from_begins block is place within choosing.keeps_parity)

pub block_is_those : BlockCandidatesAreTheBlock
block_is_those choosing block is protocol inside n =
    let place : ℕ = place_in choosing.seed choosing.keeps_parity block.size protocol inside in
    let within : place < block.size = place_inside choosing.seed choosing.keeps_parity block is protocol inside in (
      λ h. All-contains (IsBlockNumber block) (block_from choosing.keeps_parity block place) n
          (from_all block is place within choosing.keeps_parity) h,
      λ h. from_has block is place within choosing.keeps_parity n h,
    )

pub block_differs : BlockCandidatesDiffer
block_differs choosing block is protocol inside =
    let place : ℕ = place_in choosing.seed choosing.keeps_parity block.size protocol inside in
    let within : place < block.size = place_inside choosing.seed choosing.keeps_parity block is protocol inside in
    from_differ block is place within choosing.keeps_parity

pub block_keeps_parity : BlockCandidatesKeepParity
block_keeps_parity None block is protocol inside = mod-mod_of_dvd 2 inside.number
    (dvd_of_mod-eq-zero 2 is.size_even)
block_keeps_parity (Some seed) block is protocol inside =
    let place : ℕ = mixed seed protocol inside % (block.size / 2) in
    let parity : inside.number % 2 < 2 = omega arith in omega arith

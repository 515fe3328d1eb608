-- Each inside host has as many bindings in the list as are stored for it.
use Rattle.std.proofs.Common.{◌≡◌, ◌≢◌, ℕ, zero, suc, ◌+◌, ◌<◌, ◌≤◌, ◌^◌, Bool, true, false, not, ◌&&◌, cond, List, [], ◌∷◌, map, length, Option, Some, None, refl, sym, ◌∙◌, ap, arith, eqb, eqb-true}
use Rattle.std.{specs.Prelude.{filter, find}, proofs.lemmas.Bool.{eq-eqb, true≢false}}
use Rattle.napt_wire.specs.declared.Protocol.{Protocol, TheVariants.{Icmp, Tcp, Udp}}
use Rattle.napt_rules.specs.declared.Row.{Row}
use Rattle.std.specs.Option.{option_map}
use Rattle.napt_rules.specs.Prelude.{Binding, same_protocol, is_at, has_number, counts_for, count_for, row, AreBindingsApart}
use Rattle.napt_table.specs.{Hosts.{held_counts_for, count_below, count_held, CountIsHeld}}
use Rattle.napt_laws.proofs.{Lists.find_nowhere, UniqueSearches.Once, Endpoints.{protocol_is, same_itself, has_it, number_of_it, not_has, once_number}}

-- 1 if the test passes, else 0.
abbrev one : Bool → ℕ
one v = cond {A = ℕ} v 1 0

one_at_most : (v : Bool) → one v ≤ 1
one_at_most true = omega arith
one_at_most false = omega arith

-- NUMBERS BELOW A BOUND

module _ (s t : ℕ → Bool) where
  -- Two tests that agree below the bound have the same count.
  below_same : (many : ℕ) → ((n : ℕ) → n < many → s n ≡ t n) → count_below s many ≡ count_below t many
  unfolding count_below
  below_same zero same = refl
  below_same (suc many) same =
      let here : one (s many) ≡ one (t many) = ap one (same many (omega arith)) in
      let rest : count_below s many ≡ count_below t many = below_same many (λ n less. same n (omega (arith, less))) in
      omega (arith, here, rest)

  -- Two tests that agree except at one number.
  below_changed : (number many : ℕ) → number < many → ((n : ℕ) → n ≢ number → s n ≡ t n) →
      count_below s many + one (t number) ≡ count_below t many + one (s number)
  unfolding count_below
  below_changed number zero less same = absurd (omega (arith, less))
  below_changed number (suc many) less same =
      elim (eqb many number) as
      (λ v. eqb many number ≡ v →
      (one (s many) + count_below s many) + one (t number) ≡ (one (t many) + count_below t many) + one (s number)) [
        | true ↦ λ e.
            let at : many ≡ number = eqb-true many number e in
            let rest : count_below s many ≡ count_below t many =
            below_same many (λ n below. same n (λ q. absurd (omega (arith, below, q, at)))) in
            let s_here : one (s many) ≡ one (s number) = ap (λ (n : ℕ). one (s n)) at in
            let t_here : one (t many) ≡ one (t number) = ap (λ (n : ℕ). one (t n)) at in
            omega (arith, rest, s_here, t_here)
        | false ↦ λ e.
            let differs : many ≢ number = λ q. true≢false (sym (eq-eqb many number q) ∙ e) in
            let here : one (s many) ≡ one (t many) = ap one (same many differs) in
            let rest : count_below s many + one (t number) ≡ count_below t many + one (s number) =
            below_changed number many (omega (arith, less, differs)) same in
            omega (arith, here, rest)
      ] refl

module _ (test : ℕ → Bool) where
  below_none : (many : ℕ) → ((n : ℕ) → test n ≡ false) → count_below test many ≡ 0
  unfolding count_below
  below_none zero none = refl
  below_none (suc many) none =
      let here : one (test many) ≡ 0 = ap one (none many) in
      omega (arith, here, below_none many none)

  below_few : (many : ℕ) → count_below test many ≤ many
  unfolding count_below
  below_few zero = omega arith
  below_few (suc many) = omega (arith, one_at_most (test many), below_few many)

-- THE STORED BINDINGS OF A HOST

pub count_same : (held held' : ℕ → Option Binding) (host : ℕ) →
    ((n : ℕ) → n < 2 ^ 16 → held_counts_for host (held' n) ≡ held_counts_for host (held n)) →
    count_held held' host ≡ count_held held host
count_same held held' host same =
    below_same (λ n. held_counts_for host (held' n)) (λ n. held_counts_for host (held n)) (2 ^ 16) same

pub count_changed : (held held' : ℕ → Option Binding) (host number : ℕ) → number < 2 ^ 16 →
    ((n : ℕ) → n ≢ number → held' n ≡ held n) →
    count_held held' host + cond {A = ℕ} (held_counts_for host (held number)) 1 0
    ≡ count_held held host + cond {A = ℕ} (held_counts_for host (held' number)) 1 0
count_changed held held' host number less same =
    below_changed (λ n. held_counts_for host (held' n)) (λ n. held_counts_for host (held n)) number (2 ^ 16) less
    (λ n differs. ap (held_counts_for host) (same n differs))

pub count_none : (held : ℕ → Option Binding) (host : ℕ) → ((n : ℕ) → held n ≡ None) → count_held held host ≡ 0
count_none held host none = below_none (λ n. held_counts_for host (held n)) (2 ^ 16)
    (λ n. ap (held_counts_for host) (none n))

pub count_few : (held : ℕ → Option Binding) (host : ℕ) → count_held held host ≤ 2 ^ 16
count_few held host = below_few (λ n. held_counts_for host (held n)) (2 ^ 16)

-- THE LIST

module _ (many address host : ℕ) where
  -- Returns whether the binding that is found at a number of the protocol counts for the host.
  abbrev found_for : List Binding → Protocol → ℕ → Bool
  found_for list q n = held_counts_for host (find (λ b. has_number address q n b.row) list)

  abbrev found : List Binding → Protocol → ℕ
  found list q = count_below (found_for list q) many

  -- Each binding that is found has a number below the bound.
  abbrev AreBelow : List Binding → Type 0
  AreBelow list = (q : Protocol) (n : ℕ) (b : Binding) → find (λ b. has_number address q n b.row) list ≡ Some b →
      n < many

  below_tail : (x : Binding) (xs : List Binding) → AreBelow (x ∷ xs) → AreBelow xs
  below_tail x xs below q n b e =
      let head : Bool → Option Binding = λ v. cond v (Some x) (find (λ b. has_number address q n b.row) xs) in
      elim (has_number address q n x.row) as (λ v. has_number address q n x.row ≡ v → n < many) [
        | true ↦ λ h. below q n x (ap head h)
        | false ↦ λ h. below q n b (ap head h ∙ e)
      ] refl

  -- A binding at the address is counted at its own number and protocol alone.
  module _ (x : Binding) (xs : List Binding) (at : is_at address x.row ≡ true) where
    abbrev counted : Bool
    counted = eqb x.row.inside.address host && not x.row.fixed

    elsewhere : (q : Protocol) (n : ℕ) → has_number address q n x.row ≡ false → found_for (x ∷ xs) q n
        ≡ found_for xs q n
    elsewhere q n h = ap (λ v. held_counts_for host (cond v (Some x) (find (λ b. has_number address q n b.row) xs))) h

    not_number : (q : Protocol) (n : ℕ) → n ≢ x.row.external.number → has_number address q n x.row ≡ false
    not_number q n differs =
        elim (has_number address q n x.row) as (λ v. has_number address q n x.row ≡ v → v ≡ false) [
          | true ↦ λ h. absurd (differs (sym (number_of_it address q n x.row h)))
          | false ↦ λ h. refl
        ] refl

    of_other : (q : Protocol) → q ≢ x.row.protocol → found (x ∷ xs) q ≡ found xs q
    of_other q differs =
        below_same (found_for (x ∷ xs) q) (found_for xs q) many
        (λ n less. elsewhere q n (not_has address q n x.row differs))

    of_own : AreBindingsApart (map row (x ∷ xs)) → AreBelow (x ∷ xs) → (q : Protocol) → q ≡ x.row.protocol →
        found (x ∷ xs) q ≡ found xs q + one counted
    of_own apart below q p =
        let number : ℕ = x.row.external.number in
        let head : Bool → Option Binding = λ v. cond v (Some x) (find (λ b. has_number address q number b.row) xs) in
        let has : has_number address q number x.row ≡ true = has_it address q number x.row p (eqb-true _ _ at) refl in
        let once : Once (λ b. has_number address q number b.row) (x ∷ xs) =
        once_number address q number (x ∷ xs) apart in
        let none : find (λ b. has_number address q number b.row) xs ≡ None = find_nowhere _ xs (once.0 has) in
        let before : one (found_for xs q number) ≡ 0 = ap (λ o. one (held_counts_for host o)) none in
        let after : one (found_for (x ∷ xs) q number)
        ≡ one counted = ap (λ v. one (held_counts_for host (head v))) has in
        let changed : found (x ∷ xs) q + one (found_for xs q number)
        ≡ found xs q + one (found_for (x ∷ xs) q number) =
        below_changed (found_for (x ∷ xs) q) (found_for xs q) number many (below q number x (ap head has))
        (λ n differs. elsewhere q n (not_number q n differs)) in
        omega (arith, changed, before, after)

    of_each : AreBindingsApart (map row (x ∷ xs)) → AreBelow (x ∷ xs) → (q : Protocol) →
        found (x ∷ xs) q ≡ found xs q + one (same_protocol q x.row.protocol && counted)
    of_each apart below q =
        elim (same_protocol q x.row.protocol) as
        (λ v. same_protocol q x.row.protocol ≡ v → found (x ∷ xs) q ≡ found xs q + one (v && counted)) [
          | true ↦ λ h. of_own apart below q (protocol_is q x.row.protocol h)
          | false ↦ λ h.
              let differs : q ≢ x.row.protocol =
              λ e. true≢false (sym (ap (same_protocol q) (sym e) ∙ same_itself q) ∙ h) in
              omega (arith, of_other q differs)
        ] refl

    one_more : count_for address host (x ∷ xs) ≡ one counted + count_for address host xs
    one_more =
        let rest : List Binding = filter (λ b. counts_for address host b.row) xs in
        ap (λ v. length (cond (v && counted) (x ∷ rest) rest)) at
        ∙ (elim counted as (λ v. length (cond v (x ∷ rest) rest) ≡ one v + length rest) [
          | true ↦ omega arith
          | false ↦ omega arith
        ])

  -- The count over the three protocols.
  abbrev found_in_all : List Binding → ℕ
  found_in_all list = (found list Icmp + found list Tcp) + found list Udp

  one_protocol : (p : Protocol) (v : Bool) →
      (one (same_protocol Icmp p && v) + one (same_protocol Tcp p && v)) + one (same_protocol Udp p && v) ≡ one v
  one_protocol Icmp v = omega arith
  one_protocol Tcp v = omega arith
  one_protocol Udp v = omega arith

  count_found : (list : List Binding) → AreBindingsApart (map row list) → AreBelow list →
      count_for address host list ≡ found_in_all list
  count_found [] apart below =
      let none : (q : Protocol) → found [] q ≡ 0 = λ q. below_none (found_for [] q) many (λ n. refl) in
      omega (arith, none Icmp, none Tcp, none Udp)
  count_found (x ∷ xs) apart below =
      let rest : count_for address host xs ≡ found_in_all xs = count_found xs apart.1 (below_tail x xs below) in
      let passing : List Binding = filter (λ b. counts_for address host b.row) xs in
      elim (is_at address x.row) as
      (λ v. is_at address x.row ≡ v → count_for address host (x ∷ xs) ≡ found_in_all (x ∷ xs)) [
        | true ↦ λ at.
            let each = of_each x xs at apart below in
            let own = one_protocol x.row.protocol (counted x xs at) in
            omega (arith, rest, one_more x xs at, each Icmp, each Tcp, each Udp, own)
        | false ↦ λ away.
            let without : count_for address host (x ∷ xs) ≡ count_for address host xs =
            ap (λ v. length (cond (v && (eqb x.row.inside.address host && not x.row.fixed)) (x ∷ passing) passing))
            away in
            let not_there : (q : Protocol) (n : ℕ) → has_number address q n x.row ≡ false =
            λ q n. ap (λ v. v && (same_protocol q x.row.protocol && eqb x.row.external.number n)) away in
            let same : (q : Protocol) → found (x ∷ xs) q ≡ found xs q =
            λ q. below_same (found_for (x ∷ xs) q) (found_for xs q) many (λ n less. missed q n (not_there q n)) in
            omega (arith, rest, without, same Icmp, same Tcp, same Udp)
      ] refl
    where
      missed : (q : Protocol) (n : ℕ) → has_number address q n x.row ≡ false → found_for (x ∷ xs) q n ≡ found_for xs q n
      missed q n h = ap (λ v. held_counts_for host (cond v (Some x) (find (λ b. has_number address q n b.row) xs))) h

-- LISTS WITH THE SAME ROWS

-- A row counts for a host as its binding does.
abbrev for_row : ℕ → Option Row → Bool
for_row host None = false
for_row host (Some r) = eqb r.inside.address host && not r.fixed

by_row : (host : ℕ) (o : Option Binding) → held_counts_for host o ≡ for_row host (option_map row o)
by_row host None = refl
by_row host (Some b) = refl

some_held : (h : Option Binding) (r : Row) → option_map row h ≡ Some r → (c : Binding) × (h ≡ Some c)
some_held None r e = cc
some_held (Some c) r e = (c, refl)

-- The same for each bound on the numbers that have a stored binding.
module _ (many address host : ℕ) (held : Protocol → ℕ → Option Binding) where
  abbrev held_in : Protocol → ℕ
  held_in q = count_below (λ n. held_counts_for host (held q n)) many

  count_within : (list : List Binding) → AreBindingsApart (map row list) →
      ((q : Protocol) (n : ℕ) → option_map row (find (λ b. has_number address q n b.row) list)
      ≡ option_map row (held q n)) →
      ((q : Protocol) (n : ℕ) (b : Binding) → held q n ≡ Some b → n < many) →
      count_for address host list ≡ (held_in Icmp + held_in Tcp) + held_in Udp
  count_within list apart rows small =
      let below : AreBelow many address host list =
      λ q n b e. let h = some_held (held q n) (row b) (sym (rows q n) ∙ ap (option_map row) e) in small q n h.0 h.1 in
      let same : (q : Protocol) → found many address host list q ≡ held_in q =
      λ q. below_same (found_for many address host list q) (λ n. held_counts_for host (held q n)) many
      (λ n less. by_row host (find (λ b. has_number address q n b.row) list)
      ∙ (ap (for_row host) (rows q n) ∙ sym (by_row host (held q n)))) in
      omega (arith, count_found many address host list apart below, same Icmp, same Tcp, same Udp)

pub count_is_held : CountIsHeld
count_is_held address host held list apart rows small = count_within (2 ^ 16) address host held list apart rows small

-- The candidates of a number are the numbers of its class: those from its own place on, and then those before it.
use Rattle.std.proofs.Common.{inl, inr, ◌≡◌, ◌≢◌, ℕ, zero, suc, ◌+◌, ◌-◌, ◌*◌, ◌/◌, ◌%◌, ◌<◌, ◌≤◌, Bool, true, false, ◌&&◌, cond, nat_lt, nat_le, List, [], ◌∷◌, ◌++◌, length, map, slice_index_or, Option, Some, None, refl, sym, ◌∙◌, ap, arith}
use Rattle.std.specs.{Prelude.filter, List.range_with_len}
use Rattle.std.proofs.lemmas.{Bool.{and_parts, and_from, cases_lt, true≢false, ltb-true, ltb-false, lt-ltb, le-ltb, leb-true, le-leb}, Nat.mod_below}
use Rattle.std.proofs.lemmas.List.FromFn.{length-map-range_with_len, get_or-map-range_with_len}
use Rattle.napt_wire.specs.declared.{Endpoint.Endpoint, Protocol.{Protocol, TheVariants.{Icmp, Tcp, Udp}}}
use Rattle.napt_rules.specs.Prelude.{is_port_for, is_number_for, numbers_below, numbers_for, upwards, start_of, mixed, candidates_in_class, NumberAssignment, Seed}
use Rattle.napt_laws.proofs.Classes.{port_from_test, test_from_port}
use Rattle.napt_table.{specs.{declared.candidate_class.CandidateClass.CandidateClass, Classes.{port_class, class_of, member, from_place, place_of_class}}, proofs.Ports.by_class}

-- FILTERS OF A RANGE

-- Of the n numbers from a on, the m that pass the test are f i, f (i + 1) and so on.
record Passing (test : ℕ → Bool) (f : ℕ → ℕ) (a n i m : ℕ) : Type 0 where
  sound : (j : ℕ) → i ≤ j → j < i + m → (a ≤ f j) × (f j < a + n) × (test (f j) ≡ true)
  whole : (x : ℕ) → a ≤ x → x < a + n → test x ≡ true → (j : ℕ) × (i ≤ j) × (j < i + m) × (x ≡ f j)

module _ (test : ℕ → Bool) (f : ℕ → ℕ) (rises : (i j : ℕ) → i < j → f i < f j) where
  first : (a i j : ℕ) → i ≤ j → a ≡ f j → a ≤ f i → j ≡ i
  first a i j from is above = elim (cases_lt i j) as (λ _. j ≡ i) [
    | inl less ↦ let higher : f i < f j = rises i j less in absurd (omega (arith, higher, is, above))
    | inr not_less ↦ omega (arith, not_less, from)
  ]

  past : (a n i m : ℕ) → Passing test f a (suc n) i m → test a ≡ false → Passing test f (a + 1) n i m
  past a n i m p fails = record {
    sound = λ j from to.
        let (above, below, passes) = p.sound j from to in
        let differs : a ≢ f j = λ e. true≢false (sym passes ∙ ap test (sym e) ∙ fails) in
        (omega (arith, above, differs), omega (arith, below), passes);
    whole = λ x from to passes. p.whole x (omega arith) (omega arith) passes;
  }

  after : (a n i m : ℕ) → Passing test f a (suc n) i (suc m) → a ≡ f i → Passing test f (a + 1) n (i + 1) m
  after a n i m p is = record {
    sound = λ j from to.
        let (above, below, passes) = p.sound j (omega arith) (omega arith) in
        let higher : f i < f j = rises i j (omega arith) in
        (omega (arith, is, higher), omega (arith, below), passes);
    whole = λ x from to passes.
        let (j, j_from, j_to, j_is) = p.whole x (omega arith) (omega arith) passes in
        let differs : j ≢ i = λ e. let same : x ≡ f i = j_is ∙ ap f e in omega (arith, same, is, from) in
        (j, omega (arith, j_from, differs), omega (arith, j_to), j_is);
  }

  kept_are : (n a i m : ℕ) → Passing test f a n i m → filter test (range_with_len a n) ≡ map f (range_with_len i m)
  kept_are zero a i zero p = refl
  kept_are zero a i (suc m) p =
      let (above, below, passes) = p.sound i (omega arith) (omega arith) in
      absurd (omega (arith, above, below))
  kept_are (suc n) a i zero p =
      let fails : test a ≡ false = elim (test a) as (λ v. test a ≡ v → v ≡ false) [
        | true ↦ λ e.
            let (j, from, to, is) = p.whole a (omega arith) (omega arith) e in
            absurd (omega (arith, from, to))
        | false ↦ λ e. refl
      ] refl in
      ap (λ v. cond v (a ∷ filter test (range_with_len (a + 1) n)) (filter test (range_with_len (a + 1) n))) fails
      ∙ kept_are n (a + 1) i zero (past a n i zero p fails)
  kept_are (suc n) a i (suc m) p = elim (test a) as (λ v. test a ≡ v →
      cond v (a ∷ filter test (range_with_len (a + 1) n)) (filter test (range_with_len (a + 1) n))
      ≡ f i ∷ map f (range_with_len (i + 1) m)) [
        | true ↦ λ e.
            let (j, from, to, is) = p.whole a (omega arith) (omega arith) e in
            let (above, below, passes) = p.sound i (omega arith) (omega arith) in
            let head : a ≡ f i = is ∙ ap f (first a i j from is above) in
            ap (λ (x : ℕ). x ∷ filter test (range_with_len (a + 1) n)) head
            ∙ ap (λ (l : List ℕ). f i ∷ l) (kept_are n (a + 1) (i + 1) m (after a n i m p head))
        | false ↦ λ e. kept_are n (a + 1) i (suc m) (past a n i (suc m) p e)
      ] refl

  kept_below : (limit i m : ℕ) → Passing test f 0 limit i m → filter test (numbers_below limit)
      ≡ map f (range_with_len i m)
  unfolding numbers_below
  kept_below limit i m p = kept_are limit 0 i m p

filter_both : (p q : ℕ → Bool) (xs : List ℕ) → filter q (filter p xs) ≡ filter (λ x. p x && q x) xs
filter_both p q [] = refl
filter_both p q (x ∷ xs) = grind (arith, filter_both p q xs)

-- A CLASS WITH THE CANDIDATES OF A NUMBER, the first of which is at a place

record IsClassOf (fits : ℕ → Bool) (number place : ℕ) (class : CandidateClass) : Type 0 where
  some : 0 < class.count
  rises : (i j : ℕ) → i < j → member class i < member class j
  sound : (j : ℕ) → j < class.count → (member class j < 65536) × (fits (member class j) ≡ true)
  whole : (x : ℕ) → x < 65536 → fits x ≡ true → (j : ℕ) × (j < class.count) × (x ≡ member class j)
  within : place ≤ class.count
  from_it : (j : ℕ) → place ≤ j → number ≤ member class j
  before_it : (j : ℕ) → j < place → member class j < number

module _ (fits : ℕ → Bool) (number place : ℕ) (class : CandidateClass) (s : IsClassOf fits number place class) where
  at_or_after : (j : ℕ) → number ≤ member class j → place ≤ j
  at_or_after j high = elim (cases_lt j place) as (λ _. place ≤ j) [
    | inl less ↦ let low : member class j < number = s.before_it j less in absurd (omega (arith, low, high))
    | inr not_less ↦ not_less
  ]

  before : (j : ℕ) → member class j < number → j < place
  before j low = elim (cases_lt j place) as (λ _. j < place) [
    | inl less ↦ less
    | inr not_less ↦ let high : number ≤ member class j = s.from_it j not_less in absurd (omega (arith, low, high))
  ]

  upper : filter (nat_le number) (filter fits (numbers_below 65536))
      ≡ map (member class) (range_with_len place (class.count - place))
  upper = filter_both fits (nat_le number) (numbers_below 65536)
      ∙ kept_below (λ x. fits x && nat_le number x) (member class) s.rises 65536 place (class.count - place) (record {
        sound = λ j from to.
            let within = s.within in
            let (small, passes) = s.sound j (omega (arith, from, to, within)) in (
              omega arith,
              omega (arith, small),
              and_from (fits (member class j)) (nat_le number (member class j)) passes
                  (le-leb number (member class j) (s.from_it j from)),
            );
        whole = λ x from to e.
            let (passes, above) = and_parts (fits x) (nat_le number x) e in
            let (j, below, is) = s.whole x (omega (arith, to)) passes in
            let high : number ≤ x = leb-true number x above in
            let late : place ≤ j = at_or_after j (omega (arith, high, is)) in
            (j, late, omega (arith, below, late), is);
      })

  lower : filter (λ other. nat_lt other number) (filter fits (numbers_below 65536))
      ≡ map (member class) (range_with_len 0 place)
  lower = filter_both fits (λ other. nat_lt other number) (numbers_below 65536)
      ∙ kept_below (λ x. fits x && nat_lt x number) (member class) s.rises 65536 0 place (record {
        sound = λ j from to.
            let within = s.within in
            let (small, passes) = s.sound j (omega (arith, to, within)) in (
              omega arith,
              omega (arith, small),
              and_from (fits (member class j)) (nat_lt (member class j) number) passes
                  (lt-ltb (member class j) number (s.before_it j (omega (arith, to)))),
            );
        whole = λ x from to e.
            let (passes, lower) = and_parts (fits x) (nat_lt x number) e in
            let (j, below, is) = s.whole x (omega (arith, to)) passes in
            let low : x < number = ltb-true x number lower in
            let early : j < place = before j (omega (arith, low, is)) in
            (j, omega arith, omega (arith, early), is);
      })

  both_parts : upwards number (filter fits (numbers_below 65536)) ≡ from_place class place
  both_parts =
      ap (λ (l : List ℕ). l ++ filter (λ other. nat_lt other number) (filter fits (numbers_below 65536))) upper
      ∙ ap (λ (l : List ℕ). map (member class) (range_with_len place (class.count - place)) ++ l) lower

  whole_is : filter fits (numbers_below 65536) ≡ map (member class) (range_with_len 0 class.count)
  whole_is = kept_below fits (member class) s.rises 65536 0 class.count (record {
    sound = λ j from to.
        let (small, passes) = s.sound j (omega (arith, to)) in (omega arith, omega (arith, small), passes);
    whole = λ x from to e.
        let (j, below, is) = s.whole x (omega (arith, to)) e in (j, omega arith, omega (arith, below), is);
  })

  -- The same class, from another of its numbers on.
  from_other : (k : ℕ) → k < class.count → IsClassOf fits (member class k) k class
  from_other k within = record {
    some = s.some;
    rises = s.rises;
    sound = s.sound;
    whole = s.whole;
    within = omega (arith, within);
    from_it = λ j from. elim (cases_lt k j) as (λ _. member class k ≤ member class j) [
      | inl less ↦ let higher : member class k < member class j = s.rises k j less in omega (arith, higher)
      | inr not_less ↦
          let same : k ≡ j = omega (arith, from, not_less) in
          let alike : member class k ≡ member class j = ap (member class) same in
          omega (arith, alike)
    ];
    before_it = λ j to. s.rises j k to;
  }

  -- The element at a place of the filtered range.
  at_place : (k d : ℕ) → k < class.count → slice_index_or (filter fits (numbers_below 65536)) k d ≡ member class k
  at_place k d within =
      ap (λ (l : List ℕ). slice_index_or l k d) whole_is
      ∙ get_or-map-range_with_len (member class) 0 class.count k k d within (omega arith)

  count_is : length (filter fits (numbers_below 65536)) ≡ class.count
  count_is = ap length whole_is ∙ length-map-range_with_len (member class) 0 class.count

-- THE CLASSES

-- Every other number from the least on, all on one side of 1024: the ports with its parity on that side.
ports_of : (least many : ℕ) (low : Bool) (port : ℕ) → port < 65536 → 0 < many →
    nat_lt port 1024 ≡ low → port % 2 ≡ least % 2 → 0 < least → least + 2 * many ≤ 65537 →
    (port - least) / 2 ≤ many →
    ((n : ℕ) → least ≤ n → n + 1 < least + 2 * many → nat_lt n 1024 ≡ low) →
    ((n : ℕ) → 0 < n → n < 65536 → n % 2 ≡ least % 2 → nat_lt n 1024 ≡ low →
    (least ≤ n) × (n < least + 2 * many)) →
    IsClassOf (is_port_for true port) port ((port - least) / 2) (record { least = least; count = many; step = 2 })
ports_of least many low port number_small some side parity positive small fits within between = record {
  some = some;
  rises = λ i j less. omega arith;
  sound = λ j h. (
    omega (arith, h, small),
    test_from_port true port (least + 2 * j) (record {
      positive = omega (arith, positive);
      small = omega (arith, h, small);
      side = within (least + 2 * j) (omega arith) (omega (arith, h)) ∙ sym side;
      parity = λ kept. omega (arith, parity);
    }),
  );
  whole = λ x x_small e.
      let is = port_from_test true port x x_small e in
      let there = between x is.positive is.small (is.parity refl ∙ parity) (is.side ∙ side) in
      let alike = is.parity refl in
      ((x - least) / 2, omega (arith, there.0, there.1), omega (arith, alike, parity, there.0));
  within = fits;
  from_it = λ j from. omega (arith, from, parity);
  before_it = λ j to. omega (arith, to, parity);
}

low_between : (least many n : ℕ) → nat_lt n 1024 ≡ true → least ≤ n → 1024 ≤ least + 2 * many →
    (least ≤ n) × (n < least + 2 * many)
low_between least many n low h end =
    let below : n < 1024 = ltb-true n 1024 low in
    (h, omega (arith, below, end))

high_between : (least many n : ℕ) → nat_lt n 1024 ≡ false → n < 65536 → n % 2 ≡ least % 2 → least ≤ 1025 →
    least + 2 * many ≡ 65536 + least % 2 → (least ≤ n) × (n < least + 2 * many)
high_between least many n high small parity h end =
    let above : 1024 ≤ n = ltb-false n 1024 high in
    (omega (arith, above, parity, h), omega (arith, small, parity, end))

module _ (port : ℕ) (small : port < 65536) where
  low_odd : nat_lt port 1024 ≡ true → port % 2 ≡ 1 →
      IsClassOf (is_port_for true port) port ((port - 1) / 2) (record { least = 1; count = 512; step = 2 })
  low_odd low odd =
      let below : port < 1024 = ltb-true port 1024 low in
      ports_of 1 512 true port small (omega arith) low odd (omega arith) (omega arith) (omega arith)
      (λ n _ h. lt-ltb n 1024 (omega (arith, h)))
      (λ n h _ _ side. low_between 1 512 n side (omega (arith, h)) (omega arith))

  low_even : nat_lt port 1024 ≡ true → port % 2 ≡ 0 →
      IsClassOf (is_port_for true port) port ((port - 2) / 2) (record { least = 2; count = 511; step = 2 })
  low_even low even =
      let below : port < 1024 = ltb-true port 1024 low in
      ports_of 2 511 true port small (omega arith) low even (omega arith) (omega arith) (omega arith)
      (λ n _ h. lt-ltb n 1024 (omega (arith, h)))
      (λ n h _ parity side. low_between 2 511 n side (omega (arith, h, parity)) (omega arith))

  high_odd : nat_lt port 1024 ≡ false → port % 2 ≡ 1 →
      IsClassOf (is_port_for true port) port ((port - 1025) / 2) (record { least = 1025; count = 32256; step = 2 })
  high_odd high odd =
      ports_of 1025 32256 false port small (omega arith) high odd (omega arith) (omega arith) (omega arith)
      (λ n h _. le-ltb n 1024 (omega (arith, h)))
      (λ n _ small parity side. high_between 1025 32256 n side small parity (omega arith) refl)

  high_even : nat_lt port 1024 ≡ false → port % 2 ≡ 0 →
      IsClassOf (is_port_for true port) port ((port - 1024) / 2) (record { least = 1024; count = 32256; step = 2 })
  high_even high even =
      ports_of 1024 32256 false port small (omega arith) high even (omega arith) (omega arith) (omega arith)
      (λ n h _. le-ltb n 1024 (omega (arith, h)))
      (λ n _ small parity side. high_between 1024 32256 n side small parity (omega arith) refl)

  kept_class : IsClassOf (is_port_for true port) port
      ((port - (port_class true port).least) / (port_class true port).step) (port_class true port)
  kept_class =
      by_class (λ class. IsClassOf (is_port_for true port) port ((port - class.least) / class.step) class) port
      low_odd low_even high_odd high_even

  -- All numbers on one side of 1024.
  free_side : (least many : ℕ) (low : Bool) → nat_lt port 1024 ≡ low → 0 < many → 0 < least → least + many ≤ 65536 →
      (port - least) / 1 ≤ many → ((n : ℕ) → least ≤ n → n < least + many → nat_lt n 1024 ≡ low) →
      ((n : ℕ) → 0 < n → n < 65536 → nat_lt n 1024 ≡ low → (least ≤ n) × (n < least + many)) →
      (port < least → port ≡ 0) →
      IsClassOf (is_port_for false port) port ((port - least) / 1) (record { least = least; count = many; step = 1 })
  free_side least many low side some positive fits near within between below = record {
    some = some;
    rises = λ i j less. omega (arith, less);
    sound = λ j h. (
      omega (arith, h, fits),
      test_from_port false port (least + 1 * j) (record {
        positive = omega (arith, positive);
        small = omega (arith, h, fits);
        side = within (least + 1 * j) (omega arith) (omega (arith, h)) ∙ sym side;
        parity = λ kept. cc;
      }),
    );
    whole = λ x x_small e.
        let is = port_from_test false port x x_small e in
        let there = between x is.positive is.small (is.side ∙ side) in
        (x - least, omega (arith, there.0, there.1), omega (arith, there.0));
    within = near;
    from_it = λ j from. omega (arith, from);
    before_it = λ j to. omega (arith, to);
  }

  free_class : IsClassOf (is_port_for false port) port
      ((port - (port_class false port).least) / (port_class false port).step) (port_class false port)
  free_class = elim (nat_lt port 1024) as (λ v. nat_lt port 1024 ≡ v →
      (let class : CandidateClass = cond v (record { least = 1; count = 1023; step = 1 }) (record {
        least = 1024;
        count = 64512;
        step = 1;
      }) in IsClassOf (is_port_for false port) port ((port - class.least) / class.step) class)) [
        | true ↦ λ low.
            let below : port < 1024 = ltb-true port 1024 low in
            free_side 1 1023 true low (omega arith) (omega arith) (omega arith) (omega arith)
            (λ n _ h. lt-ltb n 1024 (omega (arith, h)))
            (λ n h _ side. let under : n < 1024 = ltb-true n 1024 side in (omega (arith, h), omega (arith, under)))
            (λ h. omega (arith, h))
        | false ↦ λ high.
            let above : 1024 ≤ port = ltb-false port 1024 high in
            free_side 1024 64512 false high (omega arith) (omega arith) (omega arith) (omega arith)
            (λ n h _. le-ltb n 1024 (omega (arith, h)))
            (λ n _ h side. let over : 1024 ≤ n = ltb-false n 1024 side in (omega (arith, over), omega (arith, h)))
            (λ h. absurd (omega (arith, h, above)))
      ] refl

  is_port_class : (keeps : Bool) → IsClassOf (is_port_for keeps port) port
      ((port - (port_class keeps port).least) / (port_class keeps port).step) (port_class keeps port)
  is_port_class true = kept_class
  is_port_class false = free_class

is_identifier_class : (keeps : Bool) (number : ℕ) → number < 65536 →
    IsClassOf (is_number_for keeps Icmp number) number ((number - 0) / 1) (record {
      least = 0;
      count = 65536;
      step = 1;
    })
is_identifier_class keeps number small = record {
  some = omega arith;
  rises = λ i j less. omega arith;
  sound = λ j h. (omega (arith, h), refl);
  whole = λ x h e. (x, h, omega arith);
  within = omega arith;
  from_it = λ j from. omega arith;
  before_it = λ j to. omega arith;
}

is_class_of : (keeps : Bool) (protocol : Protocol) (number : ℕ) → number < 65536 →
    IsClassOf (is_number_for keeps protocol number) number
    ((number - (class_of keeps protocol number).least) / (class_of keeps protocol number).step)
    (class_of keeps protocol number)
is_class_of keeps Icmp number small = is_identifier_class keeps number small
is_class_of keeps Tcp number small = is_port_class number small keeps
is_class_of keeps Udp number small = is_port_class number small keeps

-- THE LAW

module _ (keeps : Bool) (protocol : Protocol) (inside : Endpoint) (small : inside.number < 65536) where
  abbrev class : CandidateClass
  class = class_of keeps protocol inside.number

  abbrev numbers : List ℕ
  numbers = numbers_for keeps protocol inside.number

  abbrev fits : ℕ → Bool
  fits = is_number_for keeps protocol inside.number

  abbrev own : ℕ
  own = (inside.number - class.least) / class.step

  is_own : IsClassOf fits inside.number own class
  is_own = is_class_of keeps protocol inside.number small

  from_start : (seed : Option Seed) → upwards (start_of seed numbers protocol inside) numbers
      ≡ from_place class (place_of_class seed class protocol inside)
  from_start None = both_parts fits inside.number own class is_own
  from_start (Some seed) =
      let hash : ℕ = mixed seed protocol inside in
      let many : 0 < class.count = is_own.some in
      let place : ℕ = hash % class.count in
      let within : place < class.count = mod_below hash class.count many in
      let first : start_of (Some seed) numbers protocol inside ≡ member class place =
      ap (λ n. slice_index_or numbers (hash % n) inside.number) (count_is fits inside.number own class is_own)
      ∙ at_place fits inside.number own class is_own place inside.number within in
      ap (λ n. upwards n numbers) first
      ∙ both_parts fits (member class place) place class (from_other fits inside.number own class is_own place within)

pub candidates_by_class : (choosing : NumberAssignment) (protocol : Protocol) (inside : Endpoint) →
    inside.number < 65536 →
    (class : CandidateClass) → class ≡ class_of choosing.keeps_parity protocol inside.number →
    (place : ℕ) → place ≡ place_of_class choosing.seed class protocol inside →
    from_place class place ≡ candidates_in_class choosing protocol inside
candidates_by_class choosing protocol inside small class class_is place place_is =
    ap (from_place class) place_is
    ∙ (ap (λ (k : CandidateClass). from_place k (place_of_class choosing.seed k protocol inside)) class_is
    ∙ sym (from_start choosing.keeps_parity protocol inside small choosing.seed))

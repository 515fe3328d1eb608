-- The candidates of a number are the numbers to which it may be mapped, each once; and the first of them.
use Rattle.std.proofs.Common.{◌≡◌, ◌≢◌, ℕ, zero, suc, ◌+◌, ◌%◌, ◌<◌, ◌≤◌, ◌==◌, Bool, true, false, not, ◌&&◌, ◌||◌, cond, nat_lt, nat_le, List, [], ◌∷◌, ◌++◌, length, slice_index_or, Option, Some, None, refl, sym, ◌∙◌, ap, subst, arith, filter}
use Rattle.std.specs.{Bool.beq, Cmp.booleans_Decides, List.{All, AllPairs, Contains, range_with_len}}
use Rattle.std.proofs.lemmas.{Bool.{and_parts, and_from, ltb-true, lt-ltb, leb-true, leb-false, le-leb, Decides.{Decides-eqb, nat_tests}}, Nat.mod_below}
use Rattle.std.proofs.lemmas.List.Elements.{All-append, All-contains, All-filter, Contains-append_left, Contains-append_right, filter_passes}
use Rattle.std.proofs.lemmas.List.{FromFn.{length-range_with_len, get_or-range_with_len}, Kept.{AllPairs-cons, AllPairs-filter, AllPairs-from_increasing}}
use Rattle.napt_rules.specs.Prelude.{Each, IsPortFor, IsNumberFor, is_port_for, is_number_for, numbers_below, numbers_for, mixed, start_of, upwards, candidates, IsFirstCandidate, CandidatesBeginWithTheirFirst, CandidatesAreTheirClass, CandidatesDiffer, NumberAssignment, Seed, Endpoint, Protocol, Icmp, Tcp, Udp}

-- THE TEST

or_parity : (keeps : Bool) (a b : ℕ) → (not keeps || (a % 2 == b % 2)) ≡ true → keeps ≡ true → a % 2 ≡ b % 2
or_parity true a b e kept = (Decides-eqb (a % 2) (b % 2)).0 e
or_parity false a b e kept = cc

parity_or : (keeps : Bool) (a b : ℕ) → (keeps ≡ true → a % 2 ≡ b % 2) → (not keeps || (a % 2 == b % 2)) ≡ true
parity_or true a b same = (Decides-eqb (a % 2) (b % 2)).1 (same refl)
parity_or false a b same = refl

pub port_from_test : (keeps : Bool) (port n : ℕ) → n < 65536 → is_port_for keeps port n ≡ true → IsPortFor keeps port n
port_from_test keeps port n small e =
    let parity : Bool = not keeps || (n % 2 == port % 2) in
    let a = and_parts (nat_lt 0 n) (beq (nat_lt n 1024) (nat_lt port 1024) && parity) e in
    let b = and_parts (beq (nat_lt n 1024) (nat_lt port 1024)) parity a.1 in
    record {
      positive = ltb-true 0 n a.0;
      small = small;
      side = (booleans_Decides (nat_lt n 1024) (nat_lt port 1024)).0 b.0;
      parity = or_parity keeps n port b.1;
    }

pub test_from_port : (keeps : Bool) (port n : ℕ) → IsPortFor keeps port n → is_port_for keeps port n ≡ true
test_from_port keeps port n is =
    let parity : Bool = not keeps || (n % 2 == port % 2) in
    and_from (nat_lt 0 n) (beq (nat_lt n 1024) (nat_lt port 1024) && parity) (lt-ltb 0 n is.positive)
    (and_from (beq (nat_lt n 1024) (nat_lt port 1024)) parity
    ((booleans_Decides (nat_lt n 1024) (nat_lt port 1024)).1 is.side) (parity_or keeps n port is.parity))

number_from_test : (keeps : Bool) (protocol : Protocol) (number n : ℕ) → n < 65536 →
    is_number_for keeps protocol number n ≡ true → IsNumberFor keeps protocol number n
number_from_test keeps Icmp number n small e = small
number_from_test keeps Tcp number n small e = port_from_test keeps number n small e
number_from_test keeps Udp number n small e = port_from_test keeps number n small e

test_from_number : (keeps : Bool) (protocol : Protocol) (number n : ℕ) → IsNumberFor keeps protocol number n →
    is_number_for keeps protocol number n ≡ true
test_from_number keeps Icmp number n is = refl
test_from_number keeps Tcp number n is = test_from_port keeps number n is
test_from_number keeps Udp number n is = test_from_port keeps number n is

pub small_number : (keeps : Bool) (protocol : Protocol) (number n : ℕ) → IsNumberFor keeps protocol number n → n < 65536
small_number keeps Icmp number n is = is
small_number keeps Tcp number n is = is.small
small_number keeps Udp number n is = is.small

-- THE NUMBERS BELOW A LIMIT

below_rise : (limit : ℕ) → AllPairs (λ m n. m < n) (numbers_below limit)
unfolding numbers_below
below_rise limit = AllPairs-from_increasing (range_with_len 0 limit) (λ k h.
    let in' : k + 1 < limit = rw (← length-range_with_len 0 limit) h in
    rw (get_or-range_with_len 0 limit k 0 (omega arith), get_or-range_with_len 0 limit (k + 1) 0 in') (omega arith))

below_small : (limit : ℕ) → All (λ n. n < limit) (numbers_below limit)
unfolding numbers_below
below_small limit k d h =
    let in' : k < limit = rw (← length-range_with_len 0 limit) h in
    rw (get_or-range_with_len 0 limit k d in') (omega arith)

below_all : (limit n : ℕ) → n < limit → Contains (numbers_below limit) n
unfolding numbers_below
below_all limit n h =
    (n, rw (length-range_with_len 0 limit) h, get_or-range_with_len 0 limit n n h ∙ omega arith)

-- LISTS

Contains-filter : {X : Type 0} (p : X → Bool) (xs : List X) (x : X) → Contains xs x → p x ≡ true →
    Contains (filter p xs) x
Contains-filter p [] x (k, h, is) passes = absurd (omega (arith, h))
Contains-filter {X} p (y ∷ xs) x (zero, h, is) passes =
    subst (λ v. Contains (cond v (y ∷ filter p xs) (filter p xs)) x) (sym (ap p is ∙ passes)) (0, omega arith, is)
Contains-filter {X} p (y ∷ xs) x (suc k, h, is) passes =
    let (j, in', is') = Contains-filter p xs x (k, omega (arith, h), is) passes in
    elim (p y) as (λ v. Contains (cond v (y ∷ filter p xs) (filter p xs)) x)
    [ true ↦ (suc j, omega (arith, in'), is') | false ↦ (j, in', is') ]

pub AllPairs-append : {X : Type 0} (R : X → X → Type 0) (xs ys : List X) → AllPairs R xs → AllPairs R ys →
    All (λ x. All (R x) ys) xs → AllPairs R (xs ++ ys)
AllPairs-append R [] ys a b across = b
AllPairs-append R (x ∷ xs) ys a b across =
    AllPairs-cons R x (xs ++ ys)
    (All-append (R x) xs ys (λ k d h. a 0 (suc k) d (omega arith) (omega (arith, h)))
    (across 0 x (omega arith)))
    (AllPairs-append R xs ys (λ i j d less h. a (suc i) (suc j) d (omega (arith, less)) (omega (arith, h))) b
    (λ k d h. across (suc k) d (omega (arith, h))))

-- Of rising numbers, the least is the first.
least_first : (xs : List ℕ) (x : ℕ) → AllPairs (λ m n. m < n) xs → All (λ n. x ≤ n) xs → Contains xs x →
    (others : List ℕ) × (xs ≡ x ∷ others)
least_first [] x rise least (k, h, is) = absurd (omega (arith, h))
least_first (y ∷ xs) x rise least (zero, h, is) = (xs, ap (λ n. n ∷ xs) is)
least_first (y ∷ xs) x rise least (suc k, h, is) =
    let later : y < slice_index_or xs k x = rise 0 (suc k) x (omega arith) h in
    let first : x ≤ y = least 0 x (omega arith) in
    absurd (omega (arith, later, first, is))

pub each_from : (P : ℕ → Type 0) (xs : List ℕ) → All P xs → Each P xs
each_from P [] all = tt
each_from P (x ∷ xs) all = (all 0 x (omega arith), each_from P xs (λ k d h. all (suc k) d (omega (arith, h))))

rising_differ : (xs : List ℕ) → AllPairs (λ m n. m < n) xs → AllPairs (λ m n. m ≢ n) xs
rising_differ xs rise i j d less h = let lower = rise i j d less h in λ same. omega (arith, lower, same)

above_differs : (number m n : ℕ) → number ≤ m → n < number → m ≢ n
above_differs number m n above below = λ same. omega (arith, above, below, same)

-- RISING NUMBERS, FROM ONE OF THEM ON

same_place : (xs : List ℕ) (k : ℕ) (c d : ℕ) → k < length xs → slice_index_or xs k c ≡ slice_index_or xs k d
same_place [] k c d h = absurd (omega (arith, h))
same_place (x ∷ xs) zero c d h = refl
same_place (x ∷ xs) (suc k) c d h = same_place xs k c d (omega (arith, h))

none_below : (xs : List ℕ) (x : ℕ) → All (λ n. x < n) xs → filter (λ o. nat_lt o x) xs ≡ []
none_below [] x above = refl
none_below (y ∷ xs) x above =
    let later : x < y = above 0 x (omega arith) in
    let no : nat_lt y x ≡ false = grind (arith, nat_tests) in
    ap (λ v. cond v (y ∷ filter (λ o. nat_lt o x) xs) (filter (λ o. nat_lt o x) xs)) no
    ∙ none_below xs x (λ k d h. above (suc k) d (omega (arith, h)))

-- Of rising numbers, as many are below the one at a place as the place says.
below_place : (xs : List ℕ) (k d : ℕ) → AllPairs (λ m n. m < n) xs → k < length xs →
    length (filter (λ o. nat_lt o (slice_index_or xs k d)) xs) ≡ k
below_place [] k d rise h = absurd (omega (arith, h))
below_place (x ∷ xs) zero d rise h =
    let no : nat_lt x x ≡ false = grind (arith, nat_tests) in
    ap (λ v. length (cond v (x ∷ filter (λ o. nat_lt o x) xs) (filter (λ o. nat_lt o x) xs))) no
    ∙ ap length (none_below xs x (λ k d h. rise 0 (suc k) d (omega arith) (omega (arith, h))))
below_place (x ∷ xs) (suc k) d rise h =
    let first : ℕ = slice_index_or xs k d in
    let later : x < first = rise 0 (suc k) d (omega arith) h in
    let yes : nat_lt x first ≡ true = lt-ltb x first later in
    ap (λ v. length (cond v (x ∷ filter (λ o. nat_lt o first) xs) (filter (λ o. nat_lt o first) xs))) yes
    ∙ ap suc (below_place xs k d (λ i j e less g. rise (suc i) (suc j) e (omega (arith, less)) (omega (arith, g)))
    (omega (arith, h)))

module _ (start : ℕ) (numbers : List ℕ) where
  abbrev from_it : List ℕ
  from_it = filter (nat_le start) numbers

  abbrev before_it : List ℕ
  before_it = filter (λ other. nat_lt other start) numbers

  upwards_all : (P : ℕ → Type 0) → All P numbers → All P (upwards start numbers)
  upwards_all P all = All-append P from_it before_it (All-filter (nat_le start) P numbers all)
      (All-filter (λ other. nat_lt other start) P numbers all)

  upwards_has : (n : ℕ) → Contains numbers n → Contains (upwards start numbers) n
  upwards_has n in' = elim (nat_le start n) as (λ v. nat_le start n ≡ v → Contains (upwards start numbers) n) [
    | true ↦ λ e. Contains-append_left from_it before_it n (Contains-filter (nat_le start) numbers n in' e)
    | false ↦ λ e.
        let less : nat_lt n start ≡ true = lt-ltb n start (leb-false start n e) in
        Contains-append_right from_it before_it n (Contains-filter (λ other. nat_lt other start) numbers n in' less)
  ] refl

  module _ (rise : AllPairs (λ m n. m < n) numbers) where
    from_rise : AllPairs (λ m n. m < n) from_it
    from_rise = AllPairs-filter (λ m n. m < n) (nat_le start) numbers rise

    before_rise : AllPairs (λ m n. m < n) before_it
    before_rise = AllPairs-filter (λ m n. m < n) (λ other. nat_lt other start) numbers rise

    from_above : All (λ n. start ≤ n) from_it
    from_above k d h = leb-true start (slice_index_or from_it k d) (filter_passes (nat_le start) numbers k d h)

    before_below : All (λ n. n < start) before_it
    before_below k d h =
        ltb-true (slice_index_or before_it k d) start (filter_passes (λ other. nat_lt other start) numbers k d h)

    upwards_first : Contains numbers start → (others : List ℕ) × (upwards start numbers ≡ start ∷ others)
    upwards_first in' =
        let e : nat_le start start ≡ true = le-leb start start (omega arith) in
        let (rest, starts) = least_first from_it start from_rise from_above
        (Contains-filter (nat_le start) numbers start in' e) in
        (rest ++ before_it, ap (λ (l : List ℕ). l ++ before_it) starts)

    upwards_differ : AllPairs (λ m n. m ≢ n) (upwards start numbers)
    upwards_differ =
        AllPairs-append (λ m n. m ≢ n) from_it before_it (rising_differ from_it from_rise)
        (rising_differ before_it before_rise)
        (λ i d h j e g. above_differs start (slice_index_or from_it i d) (slice_index_or before_it j e)
        (from_above i d h) (before_below j e g))

-- THE NUMBERS THAT MAY STAND FOR A NUMBER

module _ (keeps : Bool) (protocol : Protocol) (number : ℕ) where
  abbrev numbers : List ℕ
  numbers = numbers_for keeps protocol number

  numbers_are : All (IsNumberFor keeps protocol number) numbers
  numbers_are k d h = number_from_test keeps protocol number (slice_index_or numbers k d)
      (All-filter (is_number_for keeps protocol number) (λ n. n < 65536) (numbers_below 65536) (below_small 65536) k d
      h)
      (filter_passes (is_number_for keeps protocol number) (numbers_below 65536) k d h)

  numbers_have : (n : ℕ) → IsNumberFor keeps protocol number n → Contains numbers n
  numbers_have n is =
      Contains-filter (is_number_for keeps protocol number) (numbers_below 65536) n
      (below_all 65536 n (small_number keeps protocol number n is)) (test_from_number keeps protocol number n is)

  numbers_rise : AllPairs (λ m n. m < n) numbers
  numbers_rise = AllPairs-filter (λ m n. m < n) (is_number_for keeps protocol number) (numbers_below 65536)
      (below_rise 65536)

some_of : (xs : List ℕ) (n : ℕ) → Contains xs n → 0 < length xs
some_of xs n (k, h, is) = omega (arith, h)

module _ (keeps : Bool) (protocol : Protocol) (inside : Endpoint)
    (is : IsNumberFor keeps protocol inside.number inside.number) where
  abbrev own : List ℕ
  own = numbers_for keeps protocol inside.number

  place_within : (seed : Seed) → mixed seed protocol inside % length own < length own
  place_within seed =
      let some : 0 < length own = some_of own inside.number (numbers_have keeps protocol inside.number inside.number
      is) in
      mod_below (mixed seed protocol inside) (length own) some

  start_in : (seed : Option Seed) → Contains own (start_of seed own protocol inside)
  start_in None = numbers_have keeps protocol inside.number inside.number is
  start_in (Some seed) =
      let place : ℕ = mixed seed protocol inside % length own in (
        place,
        place_within seed,
        same_place own place (slice_index_or own place inside.number) inside.number
            (place_within seed),
      )

  start_first : (seed : Option Seed) → IsFirstCandidate seed keeps protocol inside (start_of seed own protocol inside)
  start_first None = refl
  start_first (Some seed) = below_place own (mixed seed protocol inside % length own) inside.number
      (numbers_rise keeps protocol inside.number) (place_within seed)

-- A property of each number that may stand for a number holds of its candidates.
pub each_candidate : (P : ℕ → Type 0) (choosing : NumberAssignment) (protocol : Protocol) (inside : Endpoint) →
    ((n : ℕ) → IsNumberFor choosing.keeps_parity protocol inside.number n → P n) →
    Each P (candidates choosing None protocol inside)
each_candidate P choosing protocol inside holds =
    let numbers : List ℕ = numbers_for choosing.keeps_parity protocol inside.number in
    let start : ℕ = start_of choosing.seed numbers protocol inside in
    each_from P (upwards start numbers) (upwards_all start numbers P (λ k d h.
    holds (slice_index_or numbers k d) (numbers_are choosing.keeps_parity protocol inside.number k d h)))

-- THE LAWS

pub candidates_begin : CandidatesBeginWithTheirFirst
candidates_begin choosing protocol inside is =
    let numbers : List ℕ = numbers_for choosing.keeps_parity protocol inside.number in
    let start : ℕ = start_of choosing.seed numbers protocol inside in
    let (others, begins) = upwards_first start numbers (numbers_rise choosing.keeps_parity protocol inside.number)
    (start_in choosing.keeps_parity protocol inside is choosing.seed) in
    (start, others, begins, start_first choosing.keeps_parity protocol inside is choosing.seed)

pub candidates_are_those : CandidatesAreTheirClass
candidates_are_those choosing protocol inside n =
    let numbers : List ℕ = numbers_for choosing.keeps_parity protocol inside.number in
    let start : ℕ = start_of choosing.seed numbers protocol inside in (
      λ h. All-contains (IsNumberFor choosing.keeps_parity protocol inside.number) (upwards start numbers) n
          (upwards_all start numbers (IsNumberFor choosing.keeps_parity protocol inside.number)
          (numbers_are choosing.keeps_parity protocol inside.number)) h,
      λ h. upwards_has start numbers n (numbers_have choosing.keeps_parity protocol inside.number n h),
    )

pub candidates_differ : CandidatesDiffer
candidates_differ choosing protocol inside =
    let numbers : List ℕ = numbers_for choosing.keeps_parity protocol inside.number in
    upwards_differ (start_of choosing.seed numbers protocol inside) numbers
    (numbers_rise choosing.keeps_parity protocol inside.number)

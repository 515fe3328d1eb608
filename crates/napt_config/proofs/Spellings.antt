-- A value that is spelled is read back, and a text that is read is the spelling of its value.
use Rattle.std.proofs.lemmas.Grind.{common_steps}
use Rattle.std.proofs.Common.{◌≡◌, ℕ, zero, suc, ◌+◌, ◌-◌, ◌%◌, ◌^◌, ◌<◌, ◌≤◌, ◌==◌, ◌&&◌, ◌||◌, Bool, true, false, cond, not, List, [], ◌∷◌, ◌++◌, length, get_or, take, drop, Option, Some, None, nat_lt, nat_le, decimal, refl, sym, ap, ◌∙◌, inl, inr, le-leb, le-ltb, lt-ltb, ltb-true, leb-true, eq-eqb, eqb-true, ne_eqb, append_assoc, take-append-drop, arith, ok_or, option_and_then}
use Rattle.std.specs.{Char.is_ascii_digit, Int.{w32, to_be_bytes}, List.{list_all, list_any, position_or_len, before_first, after_first}, Net.Grammar.IsDotted}
use Rattle.std.specs.{Net.Text.dotted_text, Str.Parse.digits_value}
use Rattle.std.proofs.lemmas.Bool.{cases_lt, and_parts, and_from, and_left, and_right, both_ways, not-true, not-false, not_from_false, Decides.nat_tests}
use Rattle.std.proofs.lemmas.{Fmt.{decimal_is_IsNumeral, decimal_digit, first_decimal, decimal-digits_value, digits_decimal}, List.{drop_all, drop_more}}
use Rattle.std.proofs.{lemmas.List.{Folds.list_any-append, Sums.prefix_len_stops}, Math.Seq.{take-append_seam, drop-append-add}}
use Rattle.std.proofs.lemmas.{Nat.{from_be_bytes-to_be_bytes_4, be_bytes_4}, Option.{cond_some, option_and_then_some, none-some}}
use Rattle.napt_config.specs.Prelude.{ConfigFault, PrefixModel, IsPrefix, TransportAddressModel, IsTransportAddress, address_of, address_text, is_decimal, number_of, is_slash, is_colon, prefix_at, prefix_of_text, prefix_text, transport_address_at, transport_address_of_text, transport_address_text, IsReadBack}
use Rattle.napt_config.proofs.{Addresses.{address_of-dotted, dotted-address_of}, Numbers.{digits_model, number_of-nothing}}

-- ---- addresses

dotted : (address : ℕ) → IsDotted (address_text address) (to_be_bytes w32 address)
unfolding address_text
dotted address = grind (arith, common_steps, get_or)

pub address_of-text : (address : ℕ) → address < 2 ^ 32 → address_of (address_text address) ≡ Some address
address_of-text address small = address_of-dotted _ _ (dotted address)
    ∙ ap Some (from_be_bytes-to_be_bytes_4 address small)

four_bytes : (a b c d i : ℕ) → a < 256 → b < 256 → c < 256 → d < 256 → get_or (a ∷ b ∷ c ∷ d ∷ []) i 0 < 256
four_bytes a b c d zero fa fb fc fd = fa
four_bytes a b c d (suc zero) fa fb fc fd = fb
four_bytes a b c d (suc (suc zero)) fa fb fc fd = fc
four_bytes a b c d (suc (suc (suc zero))) fa fb fc fd = fd
four_bytes a b c d (suc (suc (suc (suc i)))) fa fb fc fd = omega arith

pub address_text-of : (text : List ℕ) (address : ℕ) → address_of text ≡ Some address → text ≡ address_text address
unfolding address_text
address_text-of text address is = grind (arith, common_steps, dotted-address_of, be_bytes_4, four_bytes)

-- ---- numbers

is_number-decimal : (n : ℕ) → n < 2 ^ 64 → is_decimal (decimal n) ≡ true
is_number-decimal n small =
    let (numeral, _) = decimal_is_IsNumeral n small in
    let digits = digits_decimal digits_model n small in
    let first : (nat_lt 1 (length (decimal n)) && (get_or (decimal n) 0 0 == 48)) ≡ false =
    elim (cases_lt n 10) [
      | inl one ↦ and_left _ _ (le-ltb 1 (length (decimal n)) (omega (arith, ap length (decimal_digit n one))))
      | inr more ↦
          let above = first_decimal n (omega arith) small in
          and_right _ _ (ne_eqb (get_or (decimal n) 0 0) 48 (omega arith))
    ] in
    and_from _ _ (and_from _ _ (lt-ltb 0 _ numeral.0) digits) (not_from_false _ first)

pub number_of-decimal : (least most n : ℕ) → least ≤ n → n ≤ most → most < 2 ^ 64 → number_of least most (decimal n)
    ≡ Some n
unfolding number_of
number_of-decimal least most n low high bound =
    grind (arith, common_steps, decimal_is_IsNumeral, nat_le, and_from, le-leb, is_number-decimal)

pub decimal-number_of : (least most n : ℕ) (text : List ℕ) → most < 2 ^ 64 → number_of least most text ≡ Some n →
    text ≡ decimal n
unfolding number_of
decimal-number_of least most n text bound is =
    let (tests, value) = cond_some _ _ n is in
    let (number, range) = and_parts _ _ tests in
    let (texts, first) = and_parts _ _ number in
    let (some, digits) = and_parts _ _ texts in
    let high = (and_parts _ _ range).1 in
    let alone : get_or text 0 0 ≡ 48 → length text ≡ 1 = λ zero_first.
    elim (cases_lt 1 (length text)) [
      | inl more ↦ absurd (both_ways _ (not-true _ first) (and_from _ _ (lt-ltb _ _ more) (eq-eqb _ _ zero_first)))
      | inr one ↦ omega (arith, ltb-true 0 (length text) some)
    ] in
    sym (decimal-digits_value digits_model text digits (ltb-true 0 (length text) some) alone
    (omega (arith, leb-true (digits_value 10 text) most high))) ∙ ap decimal value

-- ---- separators

none_among_digits : (p : ℕ → Bool) (text : List ℕ) → ((c : ℕ) → is_ascii_digit c ≡ true → p c ≡ false) →
    list_all is_ascii_digit text ≡ true → list_any p text ≡ false
none_among_digits p [] other digits = refl
none_among_digits p (c ∷ text) other digits =
    let (here, more) = and_parts (is_ascii_digit c) (list_all is_ascii_digit text) digits in
    rw (other c here, none_among_digits p text other more)

none_in_dotted : (p : ℕ → Bool) (a b c d : ℕ) → list_any p (decimal a) ≡ false → list_any p (decimal b) ≡ false →
    list_any p (decimal c) ≡ false → list_any p (decimal d) ≡ false → p 46 ≡ false
    → list_any p (dotted_text a b c d) ≡ false
none_in_dotted p a b c d of_a of_b of_c of_d dot = simp (list_any-append, of_a, of_b, of_c, of_d, dot)

none_in_address : (p : ℕ → Bool) (address : ℕ) → ((c : ℕ) → is_ascii_digit c ≡ true → p c ≡ false) → p 46 ≡ false →
    list_any p (address_text address) ≡ false
unfolding address_text
none_in_address p address other dot =
    grind (arith, common_steps, none_among_digits, digits_decimal, digits_model, none_in_dotted, get_or)

later_by_one : (b later : Bool) (n m : ℕ) → (b || later) ≡ false → (later ≡ false → n ≡ m) → cond (not b) (1 + n) 0
    ≡ suc m
later_by_one true later n m none more = cc
later_by_one false later n m none more = omega (arith, more none)

place_of_mark : (p : ℕ → Bool) (front : List ℕ) (mark : ℕ) (rest : List ℕ) → list_any p front ≡ false → p mark ≡ true →
    position_or_len p (front ++ mark ∷ rest) ≡ length front
place_of_mark p [] mark rest none here = rw here
place_of_mark p (c ∷ front) mark rest none here = later_by_one (p c) (list_any p front) _ (length front) none
    (λ none_later. place_of_mark p front mark rest none_later here)

before_mark : (p : ℕ → Bool) (front : List ℕ) (mark : ℕ) (rest : List ℕ) → list_any p front ≡ false → p mark ≡ true →
    before_first p (front ++ mark ∷ rest) ≡ front
before_mark p front mark rest none here = ap (λ at. take at (front ++ mark ∷ rest))
    (place_of_mark p front mark rest none here) ∙ take-append_seam front (mark ∷ rest)

after_mark : (p : ℕ → Bool) (front : List ℕ) (mark : ℕ) (rest : List ℕ) → list_any p front ≡ false → p mark ≡ true →
    after_first p (front ++ mark ∷ rest) ≡ rest
after_mark p front mark rest none here = ap (λ at. drop (at + 1) (front ++ mark ∷ rest))
    (place_of_mark p front mark rest none here) ∙ drop-append-add front (mark ∷ rest) 1

rejoined : (p : ℕ → Bool) (text : List ℕ) → position_or_len p text < length text → (mark : ℕ) × (p mark ≡ true)
    × (text ≡ before_first p text ++ mark ∷ after_first p text)
rejoined p text lt =
    let at = position_or_len p text in (
      get_or text at 0,
      not-false _ (prefix_len_stops (λ c. not (p c)) text 0 lt),
      sym (take-append-drop at text)
          ∙ ap (λ rest. take at text ++ rest) (drop_more text at 0 lt),
    )

no_digit_is_slash : (c : ℕ) → is_ascii_digit c ≡ true → is_slash c ≡ false
no_digit_is_slash c digit = grind (arith, nat_tests)

no_digit_is_colon : (c : ℕ) → is_ascii_digit c ≡ true → is_colon c ≡ false
no_digit_is_colon c digit = grind (arith, nat_tests)

-- A text with a number after the separator has the separator, since the number is not empty.
separated : (p : ℕ → Bool) (least most n : ℕ) (text : List ℕ) → number_of least most (after_first p text) ≡ Some n →
    position_or_len p text < length text
separated p least most n text read = grind (arith, common_steps, cases_lt, number_of-nothing)

-- ---- prefixes and transport addresses

same_join : (front back a d : List ℕ) (mark at : ℕ) → front ≡ a → back ≡ d → mark ≡ at → front ++ mark ∷ back ≡ a ++ at
    ∷ d
same_join front back a d mark at same_front same_back same_mark = rw (same_front, same_back, same_mark)

both_read : {A : Type 0} (f : ℕ → ℕ → Option A) (first second : Option ℕ) (x y : ℕ) (r : Option A) → first ≡ Some x →
    second ≡ Some y → f x y ≡ r → option_and_then (λ x. option_and_then (f x) second) first ≡ r
both_read f first second x y r first_is second_is made = rw (first_is, second_is) made

-- An address, a separator that is no digit and no dot, and a number.
module _ (at least most : ℕ) (bound : most < 2 ^ 64) (no_digit : (c : ℕ) → is_ascii_digit c ≡ true → (c == at) ≡ false)
    (no_dot : (46 == at) ≡ false) where
  marked_text-of : (text : List ℕ) (address n : ℕ) → address_of (before_first (λ c. c == at) text) ≡ Some address →
      number_of least most (after_first (λ c. c == at) text) ≡ Some n →
      text ≡ address_text address ++ (at ∷ []) ++ decimal n
  marked_text-of text address n found counted =
      let (mark, is_mark, joined) = rejoined (λ c. c == at) text (separated (λ c. c == at) least most n text counted) in
      joined ∙ same_join _ _ _ _ mark at (address_text-of _ address found)
      (decimal-number_of least most n _ bound counted) (eqb-true mark at is_mark)
      ∙ sym (append_assoc (address_text address) (at ∷ []) (decimal n))

  marked_of-text : {A : Type 0} (f : ℕ → ℕ → Option A) (address n : ℕ) (r : Option A) → address < 2 ^ 32 → least ≤ n →
      n ≤ most → f address n ≡ r →
      (let text = address_text address ++ (at ∷ []) ++ decimal n in
      option_and_then (λ a. option_and_then (f a) (number_of least most (after_first (λ c. c == at) text)))
      (address_of (before_first (λ c. c == at) text)) ≡ r)
  marked_of-text f address n r small low high made =
      grind (
        arith,
        common_steps,
        none_in_address,
        eq-eqb,
        append_assoc,
        before_mark,
        after_mark,
        both_read,
        address_of-text,
        number_of-decimal,
      )

network_text-of : (text : List ℕ) (network : PrefixModel) → prefix_of_text text ≡ Some network →
    text ≡ prefix_text network
unfolding prefix_of_text prefix_text
network_text-of text network is =
    option_and_then_some _ (address_of (before_first is_slash text)) network is λ address found more.
    option_and_then_some _ (number_of 0 32 (after_first is_slash text)) network more λ bits counted made.
    let (_, same) = cond_some (address % 2 ^ (32 - bits) == 0) (record { address = address; bits = bits }) network
    made in
    marked_text-of 47 0 32 (omega arith) no_digit_is_slash refl text address bits found counted ∙ ap prefix_text same

network_of-text : (network : PrefixModel) → IsPrefix network → prefix_of_text (prefix_text network) ≡ Some network
unfolding prefix_of_text prefix_text
network_of-text network fine = marked_of-text 47 0 32 (omega arith) no_digit_is_slash refl prefix_at network.address
    network.bits (Some network) fine.address (omega arith) fine.bits (rw (eq-eqb _ _ fine.no_host_bits) refl)

socket_text-of : (text : List ℕ) (socket : TransportAddressModel) → transport_address_of_text text ≡ Some socket →
    text ≡ transport_address_text socket
unfolding transport_address_of_text transport_address_text
socket_text-of text socket is =
    option_and_then_some _ (address_of (before_first is_colon text)) socket is λ address found more.
    option_and_then_some _ (number_of 1 65535 (after_first is_colon text)) socket more λ port counted made.
    let at : TransportAddressModel = record { address = address; port = port } in
    let same : at ≡ socket = cc in
    marked_text-of 58 1 65535 (omega arith) no_digit_is_colon refl text address port found counted
    ∙ ap transport_address_text same

socket_of-text : (socket : TransportAddressModel) → IsTransportAddress socket →
    transport_address_of_text (transport_address_text socket) ≡ Some socket
unfolding transport_address_of_text transport_address_text
socket_of-text socket fine = marked_of-text 58 1 65535 (omega arith) no_digit_is_colon refl transport_address_at
    socket.address
    socket.port (Some socket) fine.address fine.low (omega (arith, fine.high)) refl

-- ---- whole results

read_back : {A : Type 0} (spelling : A → List ℕ) (IsValue : A → Type 0) (fault : ConfigFault) (text : List ℕ)
    (o : Option A)
    → ((x : A) → o ≡ Some x → text ≡ spelling x) → ((x : A) → IsValue x → text ≡ spelling x → o ≡ Some x) →
    IsReadBack spelling IsValue fault text (ok_or o fault)
read_back spelling IsValue fault text None spelled only = record {
  spelled = tt;
  only = λ x fine is.
      absurd (none-some x (only x fine is));
  refused = refl;
}
read_back spelling IsValue fault text (Some y) spelled only = record {
  spelled = spelled y refl;
  only = λ x fine is.
      let same : Some y ≡ Some x = only x fine is in cc;
  refused = tt;
}

pub networks_read_back : (fault : ConfigFault) (text : List ℕ) → IsReadBack prefix_text IsPrefix fault text
    (ok_or (prefix_of_text text) fault)
networks_read_back fault text = grind (arith, common_steps, read_back, network_text-of, network_of-text)

pub sockets_read_back : (fault : ConfigFault) (text : List ℕ) →
    IsReadBack transport_address_text IsTransportAddress fault text
    (ok_or (transport_address_of_text text) fault)
sockets_read_back fault text = grind (arith, common_steps, read_back, socket_text-of, socket_of-text)

pub address_reads_back : (text : List ℕ) (address x : ℕ) → address_of text ≡ Some address → x < 2 ^ 32 →
    text ≡ address_text x → x ≡ address
address_reads_back text address x read small is = grind (arith, common_steps, address_of-text)

pub address_not_read : (text : List ℕ) (x : ℕ) → address_of text ≡ None → x < 2 ^ 32 → text ≡ address_text x → ⊥
address_not_read text x none small is = none-some x (sym none ∙ ap address_of is ∙ address_of-text x small)

-- The transport checksum is right after a rewrite exactly if it was right before.
use Rattle.std.proofs.lemmas.Grind.{common_steps}
use Rattle.std.proofs.Common.{◌≡◌, ℕ, ◌+◌, ◌/◌, ◌%◌, ◌≤◌, ◌==◌, ◌||◌, Bool, true, false, List, [], ◌∷◌, ◌++◌, length, Some, None, sum, arith, refl, ◌∙◌, ap, nat_le, nat_lt, if◌then◌else◌, option_map}
use Rattle.std.proofs.lemmas.Bool.{or_parts, Decides.nat_tests}
use Rattle.napt_wire.proofs.{Changes.{IsWritten, part, changed-append, word-same, part-changed_other, sum-part-changed}, Checksums.sum-append}
use Rattle.napt_wire.proofs.EndReplacement.{address-within, address_same, end_address, end-written, numbers, numbers-written, other}
use Rattle.napt_wire.proofs.WithEnd.{Carries, KeepsHeader, end_keeps_header, first_byte, same_start}
use Rattle.napt_wire.proofs.WithInner.{PassesError, error_kept, inner_header, inner_room, quoted-part, quoted-written}
use Rattle.napt_wire.specs.Prelude.{Side, Way, word_at, words, canon, canon_udp, is_right, address, protocol_number, transport_start, form_at, number_place, number_at, inner_datagram_start, pseudo_words, message_length, checksummed_words, transport_right, word_change, with_changes, end_words, end_changes, reverted_changes, inner_end, HasHeaders, Endpoint, Change, TransportForm, DatagramEnd, Source, Destination}
use Rattle.napt_wire.specs.declared.transport_form.TransportForm.TheVariants.{Udp, Tcp, Request, Reply, Error}

-- A checksum that is present exactly if it was before, with a right sum if it had one, is right exactly if it was.
same_right : (gone gone' : Bool) (old new : List ℕ) → gone' ≡ gone →
    (gone ≡ false → sum new % 65535 ≡ sum old % 65535) →
    option_map is_right (if gone' then None else Some new) ≡ option_map is_right (if gone then None else Some old)
same_right true gone' old new e h = rw e refl
same_right false gone' old new e h = rw (e, h refl) refl

same_length : (at : ℕ) (old new : List ℕ) → KeepsHeader at old new → message_length at new ≡ message_length at old
same_length at old new keeps = grind (arith, common_steps, nat_tests, first_byte)

-- The residue of the covered words after the words of an end and the checksum are replaced.
is_zero : (n : ℕ) → (n == 0) ≡ true → n ≡ 0
is_zero n h = grind (arith, nat_tests)

residue_or : (b : Bool) (n : ℕ) → (b ≡ true → n ≡ 0) → (if b then 65535 else n) % 65535 ≡ n % 65535
residue_or true n h = rw (h refl) refl
residue_or false n h = refl

canon_udp_residue : (check : ℕ) (old new : List ℕ) → (check == 0) ≡ false → canon_udp check old new % 65535
    ≡ canon check old new % 65535
unfolding canon_udp
canon_udp_residue check old new h =
    rw h (residue_or (canon check old new == 0) (canon check old new) (λ e. is_zero (canon check old new) e))

echo_residue : (part new_part check old number : ℕ) → new_part + (0 + old + check) ≡ part
    + (0 + number + canon check (old ∷ []) (number ∷ [])) → new_part % 65535 ≡ part % 65535
unfolding canon
echo_residue part new_part check old number h = omega arith

-- A UDP checksum is 0 after an update exactly if it was 0 before.
zero_kept : (check : ℕ) (b z : Bool) (n : ℕ) → (check == 0) ≡ b → (n == 0) ≡ z →
    ((if b then 0 else (if z then 65535 else n)) == 0) ≡ b
zero_kept check true z n h e = refl
zero_kept check false true n h e = refl
zero_kept check false false n h e = e

canon_udp_zero : (check : ℕ) (old new : List ℕ) → (canon_udp check old new == 0) ≡ (check == 0)
unfolding canon_udp
canon_udp_zero check old new = zero_kept check (check == 0) (canon check old new == 0) (canon check old new) refl refl

at_least : (a b : ℕ) → nat_lt a b ≡ false → b ≤ a
at_least a b h = grind (arith, nat_tests)

-- The words of an end and the checksum are replaced: UDP, TCP and echo.
udp_total : (part new_part pseudo new_pseudo check port number before after : ℕ) → (check == 0) ≡ false →
    new_part + (0 + port + check) ≡ part + (0 + number + canon_udp check (before / 65536 ∷ before % 65536 ∷ port ∷ [])
    (after / 65536 ∷ after % 65536 ∷ number ∷ [])) →
    new_pseudo + (before / 65536 + before % 65536) ≡ pseudo + (after / 65536 + after % 65536) →
    (new_pseudo + new_part) % 65535 ≡ (pseudo + part) % 65535
unfolding canon
udp_total part new_part pseudo new_pseudo check port number before after nonzero h p =
    omega (
      arith,
      canon_udp_residue check (before / 65536 ∷ before % 65536 ∷ port ∷ []) (after / 65536 ∷ after % 65536
          ∷ number ∷ []) nonzero,
    )

tcp_total : (part new_part pseudo new_pseudo check port number before after : ℕ) →
    new_part + (0 + port + check) ≡ part + (0 + number + canon check (before / 65536 ∷ before % 65536 ∷ port ∷ [])
    (after / 65536 ∷ after % 65536 ∷ number ∷ [])) →
    new_pseudo + (before / 65536 + before % 65536) ≡ pseudo + (after / 65536 + after % 65536) →
    (new_pseudo + new_part) % 65535 ≡ (pseudo + part) % 65535
unfolding canon
tcp_total part new_part pseudo new_pseudo check port number before after h p = omega arith

joined : (xs ys xs' ys' : List ℕ) → (sum xs' + sum ys') % 65535 ≡ (sum xs + sum ys) % 65535 → sum (xs' ++ ys') % 65535
    ≡ sum (xs ++ ys) % 65535
joined xs ys xs' ys' h = rw (sum-append xs' ys', sum-append xs ys) h

if_true : (b : Bool) (xs : List Change) → b ≡ true → (if b then xs else []) ≡ xs
if_true true xs h = refl
if_true false xs h = cc

is_there : (a b : ℕ) → a ≤ b → nat_le a b ≡ true
is_there a b h = grind (arith, nat_tests)

whole_tcp : (start place size number check : ℕ) (bytes : List ℕ) → start + 18 ≤ length bytes →
    part start size (with_changes (word_change bytes (start + place) number
    ∷ (if nat_le (start + 18) (length bytes) then word_change bytes (start + 16) check ∷ [] else [])) bytes)
    ≡ part start size (with_changes (word_change bytes (start + place) number ∷ word_change bytes (start + 16) check
    ∷ []) bytes)
whole_tcp start place size number check bytes there =
    ap (λ (l : List Change). part start size (with_changes (word_change bytes (start + place) number ∷ l) bytes))
    (if_true (nat_le (start + 18) (length bytes)) (word_change bytes (start + 16) check ∷ [])
    (is_there (start + 18) (length bytes) there))

-- The sum of the pseudo-header after an address is replaced.
pseudo_sum : (at : ℕ) (end : DatagramEnd) (new size : ℕ) (bytes after : List ℕ) → address at end after ≡ new →
    address at (other end) after ≡ address at (other end) bytes → protocol_number at after ≡ protocol_number at bytes →
    sum (pseudo_words at size after) + (address at end bytes / 65536 + address at end bytes % 65536)
    ≡ sum (pseudo_words at size bytes) + (new / 65536 + new % 65536)
pseudo_sum at Source new size bytes after read same protocol = rw (read, same, protocol) (omega arith)
pseudo_sum at Destination new size bytes after read same protocol = rw (read, same, protocol) (omega arith)

-- UDP and TCP: after an end is replaced, the sums of the pseudo-header and of the message change together. `place` is
-- the offset of one of the ports.
module _ (at place : ℕ) (end : DatagramEnd) (new : Endpoint) (bytes after : List ℕ) (small : place ≤ 2)
    (even : place % 2 ≡ 0)
    (keeps : KeepsHeader at bytes after) (read : address at end after ≡ new.address)
    (same : address at (other end) after ≡ address at (other end) bytes) where
  abbrev begin : ℕ
  begin = transport_start at bytes

  abbrev old : Endpoint
  old = record { address = address at end bytes; number = word_at (begin + place) bytes }

  abbrev with_check : ℕ → ℕ → List Change
  with_check check value = word_change bytes (begin + place) new.number ∷ word_change bytes (begin + check) value ∷ []

  pseudo : (size : ℕ) → sum (pseudo_words at size after) + (old.address / 65536 + old.address % 65536)
      ≡ sum (pseudo_words at size bytes) + (new.address / 65536 + new.address % 65536)
  pseudo size = pseudo_sum at end new.address size bytes after read same (keeps.first (at + 9) (omega arith))

  udp_right : (let value : ℕ = canon_udp (word_at (begin + 6) bytes) (end_words old) (end_words new) in
      IsWritten begin (with_check 6 value) bytes after →
      ((size : ℕ) → part begin size after ≡ part begin size (with_changes (with_check 6 value) bytes)) →
      option_map is_right (checksummed_words Udp at after) ≡ option_map is_right (checksummed_words Udp at bytes))
  udp_right w parts =
      let size : ℕ = word_at (begin + 4) bytes in
      let field : word_at (begin + 4) after ≡ word_at (begin + 4) bytes =
      word-same begin (begin + 4) _ bytes after w (omega arith) (omega arith) in
      rw (same_start at bytes after keeps, field, keeps.long)
      (same_right (word_at (begin + 6) bytes == 0 || nat_lt size 8 || nat_lt (length bytes) (begin + size)) _
      (pseudo_words at size bytes ++ words (part begin size bytes)) (pseudo_words at size after
      ++ words (part begin size after))
      (rw (w.stands.1.0, canon_udp_zero (word_at (begin + 6) bytes) (end_words old) (end_words new)) refl)
      (λ there.
      let lengths = or_parts (word_at (begin + 6) bytes == 0 || nat_lt size 8) (nat_lt (length bytes) (begin + size))
      there in
      let both = or_parts (word_at (begin + 6) bytes == 0) (nat_lt size 8) lengths.0 in
      let eight : 8 ≤ size = at_least size 8 both.1 in
      joined (pseudo_words at size bytes) (words (part begin size bytes)) (pseudo_words at size after)
      (words (part begin size after))
      (udp_total _ _ _ _ (word_at (begin + 6) bytes) old.number new.number old.address new.address both.0
      (rw (parts size) (sum-part-changed begin size (with_check 6 _) bytes
      (at_least (length bytes) (begin + size) lengths.1) (omega arith))) (pseudo size))))

  tcp_right : (let value : ℕ = canon (word_at (begin + 16) bytes) (end_words old) (end_words new) in
      ((size : ℕ) → part begin size after ≡ part begin size (with_changes (word_change bytes (begin + place) new.number
      ∷ (if nat_le (begin + 18) (length bytes) then word_change bytes (begin + 16) value ∷ [] else [])) bytes)) →
      option_map is_right (checksummed_words Tcp at after) ≡ option_map is_right (checksummed_words Tcp at bytes))
  tcp_right parts =
      let size : ℕ = message_length at bytes in
      rw (same_start at bytes after keeps, same_length at bytes after keeps, keeps.long)
      (same_right (nat_lt size 18 || nat_lt (length bytes) (begin + size)) _
      (pseudo_words at size bytes ++ words (part begin size bytes)) (pseudo_words at size after
      ++ words (part begin size after)) refl
      (λ there.
      let both = or_parts (nat_lt size 18) (nat_lt (length bytes) (begin + size)) there in
      let enough : 18 ≤ size = at_least size 18 both.0 in
      let whole : begin + size ≤ length bytes = at_least (length bytes) (begin + size) both.1 in
      joined (pseudo_words at size bytes) (words (part begin size bytes)) (pseudo_words at size after)
      (words (part begin size after))
      (tcp_total _ _ _ _ (word_at (begin + 16) bytes) old.number new.number old.address new.address
      (rw (parts size, whole_tcp begin place size new.number _ bytes (omega arith))
      (sum-part-changed begin size (with_check 16 _) bytes whole (omega arith))) (pseudo size))))

echo_right : (begin size number : ℕ) (bytes after : List ℕ) →
    (let old : ℕ = word_at (begin + 4) bytes in
    part begin size after ≡ part begin size (with_changes
    (word_change bytes (begin + 4) number ∷ word_change bytes (begin + 2)
    (canon (word_at (begin + 2) bytes) (old ∷ []) (number ∷ [])) ∷ []) bytes)) →
    option_map is_right (if nat_lt size 6 || nat_lt (length bytes) (begin + size) then None
    else Some (words (part begin size after)))
    ≡ option_map is_right (if nat_lt size 6 || nat_lt (length bytes) (begin + size) then None
    else Some (words (part begin size bytes)))
echo_right begin size number bytes after parts =
    same_right (nat_lt size 6 || nat_lt (length bytes) (begin + size)) _ (words (part begin size bytes))
    (words (part begin size after)) refl
    (λ there.
    let both = or_parts (nat_lt size 6) (nat_lt (length bytes) (begin + size)) there in
    let enough : 6 ≤ size = at_least size 6 both.0 in
    echo_residue _ _ (word_at (begin + 2) bytes) (word_at (begin + 4) bytes) number
    (rw parts (sum-part-changed begin size (word_change bytes (begin + 4) number ∷ word_change bytes (begin + 2) _
    ∷ []) bytes
    (at_least (length bytes) (begin + size) both.1) (omega arith))))

-- A datagram whose end was replaced, by the form of its transport header: the end before, and the words of the
-- transport header that were written.
abbrev end_was : TransportForm → DatagramEnd → ℕ → List ℕ → Endpoint
end_was form end at bytes = record {
  address = address at end bytes;
  number =
      number_at (transport_start at bytes) (number_place form end) bytes;
}

abbrev numbers_of : TransportForm → DatagramEnd → ℕ → Endpoint → List ℕ → List Change
numbers_of form end at new bytes = numbers form end (transport_start at bytes) (end_was form end at bytes) new bytes

right_of_form : (form : TransportForm) (end : DatagramEnd) (at : ℕ) (new : Endpoint) (bytes after : List ℕ) →
    KeepsHeader at bytes after → address at end after ≡ new.address →
    address at (other end) after ≡ address at (other end) bytes →
    IsWritten (transport_start at bytes) (numbers_of form end at new bytes) bytes after →
    ((size : ℕ) → part (transport_start at bytes) size after
    ≡ part (transport_start at bytes) size (with_changes (numbers_of form end at new bytes) bytes)) →
    option_map is_right (checksummed_words form at after) ≡ option_map is_right (checksummed_words form at bytes)
right_of_form Udp Source at new bytes after keeps read same w parts =
    udp_right at 0 Source new bytes after (omega arith) (omega arith) keeps read same w parts
right_of_form Udp Destination at new bytes after keeps read same w parts =
    udp_right at 2 Destination new bytes after (omega arith) (omega arith) keeps read same w parts
right_of_form Tcp Source at new bytes after keeps read same w parts =
    tcp_right at 0 Source new bytes after (omega arith) (omega arith) keeps read same parts
right_of_form Tcp Destination at new bytes after keeps read same w parts =
    tcp_right at 2 Destination new bytes after (omega arith) (omega arith) keeps read same parts
right_of_form Request Source at new bytes after keeps read same w parts =
    grind (arith, common_steps, nat_tests, same_start, same_length, echo_right)
right_of_form Request Destination at new bytes after keeps read same w parts =
    grind (arith, common_steps, nat_tests, same_start, same_length)
right_of_form Reply Source at new bytes after keeps read same w parts =
    grind (arith, common_steps, nat_tests, same_start, same_length)
right_of_form Reply Destination at new bytes after keeps read same w parts =
    grind (arith, common_steps, nat_tests, same_start, same_length, echo_right)
right_of_form Error end at new bytes after keeps read same w parts = refl

-- The transport checksum of a datagram whose end was replaced, perhaps with other words before it.
right_kept : (at : ℕ) (end : DatagramEnd) (new : Endpoint) (bytes after : List ℕ) → HasHeaders at bytes →
    KeepsHeader at bytes after → form_at at after ≡ form_at at bytes →
    IsWritten at (end_changes at end new bytes) bytes after →
    ((size : ℕ) → part (transport_start at bytes) size after
    ≡ part (transport_start at bytes) size (with_changes (numbers_of (form_at at bytes) end at new bytes) bytes)) →
    transport_right at after ≡ transport_right at bytes
unfolding transport_right
right_kept at end new bytes after room keeps form_is w parts =
    rw form_is
    (right_of_form (form_at at bytes) end at new bytes after keeps (end_address at end new bytes after w.stands)
    (address_same at end new bytes after room w) (numbers-written at end new bytes after room w) parts)

end_part : (at size : ℕ) (end : DatagramEnd) (new : Endpoint) (bytes : List ℕ) → HasHeaders at bytes →
    part (transport_start at bytes) size (with_changes (end_changes at end new bytes) bytes)
    ≡ part (transport_start at bytes) size (with_changes (numbers_of (form_at at bytes) end at new bytes) bytes)
unfolding end_changes
end_part at size end new bytes room =
    grind (arith, common_steps, nat_tests, part, changed-append, part-changed_other, address-within)

pub end_right : (at : ℕ) (end : DatagramEnd) (new : Endpoint) (bytes : List ℕ) → HasHeaders at bytes →
    form_at at (with_changes (end_changes at end new bytes) bytes) ≡ form_at at bytes →
    transport_right at (with_changes (end_changes at end new bytes) bytes) ≡ transport_right at bytes
end_right at end new bytes room form_is =
    right_kept at end new bytes _ room (end_keeps_header at end new bytes room) form_is
    (end-written at end new bytes room) (λ size. end_part at size end new bytes room)

-- The transport checksum of a quoted datagram whose end is replaced.
pub error_right : (side : Side) (way : Way) (new : Endpoint) (bytes : List ℕ) → PassesError side bytes →
    Carries (form_at (inner_datagram_start bytes) bytes) new.number →
    transport_right (inner_datagram_start bytes) (with_changes (reverted_changes way new bytes) bytes)
    ≡ transport_right (inner_datagram_start bytes) bytes
error_right side way new bytes p carries =
    let at : ℕ = inner_datagram_start bytes in
    let room = inner_room side at bytes p.inner_good in
    right_kept at (inner_end way) new bytes _ room (inner_header side way new bytes p)
    (error_kept side way new bytes p carries).inner_form
    (quoted-written side way new bytes p)
    (λ size. quoted-part side way new bytes p (transport_start at bytes) size (omega (arith, room.header))
    ∙ end_part at size (inner_end way) new bytes room)

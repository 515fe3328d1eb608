-- An ICMP error is still an ICMP error after the inside end that it quotes is restored.
use Rattle.std.proofs.lemmas.Grind.{common_steps}
use Rattle.std.proofs.Common.{◌≡◌, ℕ, ◌+◌, ◌-◌, ◌%◌, ◌≤◌, ◌==◌, ◌||◌, Bool, true, false, not, List, [], ◌∷◌, ◌++◌, length, drop, Ok, sum, slice_index, arith, refl, sym, ◌∙◌, ap, subst, nat_lt, length-drop, map}
use Rattle.std.proofs.{lemmas.{Bool.{or_parts, Decides.nat_tests}, List.map-append}, Math.Seq.take-length}
use Rattle.napt_wire.proofs.Changes.{IsWritten, byte-stays, written-front, written-edits, AreWithin, AreEdits, AreClear, Stands, clear-within, clear-append, clear-part, stands-append, stands-edits, edits-higher, part, within-edits, edits-append, word-stays, changed-append, part-changed_other, sum-part-changed}
use Rattle.napt_wire.proofs.Checksums.{sum-append, sum-cons}
use Rattle.napt_wire.proofs.EndReplacement.{address-edits, address-within, end-edits, there-of_within, other_clear, end-clear, end_address, address_stands, address_same}
use Rattle.napt_wire.proofs.ReadingChecks.{AllPass, Passes, room_of, passes_of_read}
use Rattle.napt_wire.proofs.WithEnd.{Carries, KeepsBody, KeepsHeader, written_keeps_body, header_keeps, end_keeps_header, first_byte, same_form, same_start, passes_kept, residue_zero, zero_residue}
use Rattle.napt_wire.specs.Prelude.{word_at, double_word_at, words, canon, address, header_length, transport_start, form_at, inner_datagram_start, inner, kind, kind_of, is_error, CanCarry, reading, message_checks, error_checks, has_bad_inner, is_quotable, has_zero_port, word_change, with_changes, old_words, new_words, address_changes, end_changes, reverted_changes, inner_end, outer_end, BodyIsFound, body_of, quoted_of, HasHeaders, AreWordsThere, Body, QuotedHeader, Side, Way, Outgoing, Incoming, Endpoint, Change, TransportForm, Source, Destination}
use Rattle.napt_wire.specs.declared.transport_form.TransportForm.TheVariants.{Error}
use Rattle.napt_wire.specs.declared.packet.Body.TheVariants as bodies

-- The datagram at `at` may be quoted by an error.
pub record GoodInner (side : Side) (at : ℕ) (bytes : List ℕ) : Type 0 where
  pub passes : has_bad_inner side at bytes ≡ false
  pub long : nat_lt (header_length at bytes) 20 ≡ false
  pub room : nat_lt (length bytes) (transport_start at bytes + 8) ≡ false
  pub quoted : not (is_quotable side (form_at at bytes)) ≡ false
  pub ours : not (address at Source bytes == address 0 Destination bytes) ≡ false

good_inner : (side : Side) (at : ℕ) (bytes : List ℕ) → has_bad_inner side at bytes ≡ false → GoodInner side at bytes
unfolding has_bad_inner
good_inner side at bytes h = grind (arith, common_steps, nat_tests, or_parts)

pub inner_room : (side : Side) (at : ℕ) (bytes : List ℕ) → GoodInner side at bytes → HasHeaders at bytes
inner_room side at bytes good = grind (arith, common_steps, nat_tests)

pub long-stays : (place : ℕ) (changes : List Change) (bytes : List ℕ) → AreClear place 4 changes →
    double_word_at place (with_changes changes bytes) ≡ double_word_at place bytes
long-stays place changes bytes clear = grind (arith, common_steps, nat_tests, word-stays, clear-part)

-- The ICMP checksum stays right.
icmp_residue : (sum_new sum_old check : ℕ) (old new : List ℕ) → sum_new + (sum old + check) ≡ sum_old
    + (sum new + canon check old new) → sum_new % 65535 ≡ sum_old % 65535
unfolding canon
icmp_residue sum_new sum_old check old new h = omega arith

sum-map-append : (f : Change → ℕ) (xs : List Change) (c : Change) → sum (map f (xs ++ c ∷ [])) ≡ sum (map f xs) + f c
sum-map-append f xs c = ap sum (map-append f xs (c ∷ [])) ∙ sum-append (map f xs) (f c ∷ [])
    ∙ ap (λ (n : ℕ). sum (map f xs) + n) (sum-cons (f c) [] ∙ omega arith)

-- Properties of an error that follow from the checks.
pub record PassesError (side : Side) (bytes : List ℕ) : Type 0 where
  pub passes : Passes side bytes
  pub form_is : form_at 0 bytes ≡ Error
  pub right : sum (words (drop (transport_start 0 bytes) bytes)) % 65535 ≡ 0
  pub inner_good : GoodInner side (inner_datagram_start bytes) bytes
  pub ports : has_zero_port (form_at (inner_datagram_start bytes) bytes)
      (transport_start (inner_datagram_start bytes) bytes) bytes ≡ false

pub passes_error : (side : Side) (bytes : List ℕ) → Passes side bytes → form_at 0 bytes ≡ Error → PassesError side bytes
passes_error side bytes p form_is = grind (arith, common_steps, nat_tests, residue_zero, good_inner)

pub same_number : (a b : ℕ) → not (a == b) ≡ false → a ≡ b
same_number a b h = grind (arith, nat_tests)

number_same : (a b : ℕ) → a ≡ b → not (a == b) ≡ false
number_same a b h = grind (arith, nat_tests)

-- The parts of an error that do not change.
pub record KeepsError (side : Side) (old new : List ℕ) : Type 0 where
  pub passes : Passes side new
  pub same_form : form_at 0 new ≡ form_at 0 old
  pub same_start : transport_start 0 new ≡ transport_start 0 old
  pub inner_form : form_at (inner_datagram_start old) new ≡ form_at (inner_datagram_start old) old
  pub inner_start : transport_start (inner_datagram_start old) new ≡ transport_start (inner_datagram_start old) old
  pub inner_room : HasHeaders (inner_datagram_start old) new

whole_part : (begin n : ℕ) (bytes : List ℕ) → begin + n ≡ length bytes → part begin n bytes ≡ drop begin bytes
whole_part begin n bytes h =
    let size : n ≡ length (drop begin bytes) = omega (arith, length-drop begin bytes) in
    rw size (take-length (drop begin bytes))

-- An error after an end of the datagram that it quotes is replaced.
module _ (side : Side) (way : Way) (new : Endpoint) (bytes : List ℕ) (p : PassesError side bytes) where
  abbrev at : ℕ
  at = inner_datagram_start bytes

  abbrev message : ℕ
  message = transport_start 0 bytes

  abbrev quoted : List Change
  quoted = end_changes at (inner_end way) new bytes

  abbrev check : Change
  check = word_change bytes (message + 2) (canon (word_at (message + 2) bytes) (old_words quoted) (new_words quoted))

  abbrev outer : List Change
  outer = address_changes 0 (outer_end way) new.address bytes

  abbrev after : List ℕ
  after = with_changes (reverted_changes way new bytes) bytes

  room : HasHeaders 0 bytes
  room = room_of side bytes p.passes

  within : HasHeaders at bytes
  within = inner_room side at bytes p.inner_good

  -- All words that are replaced: those of the quoted datagram, the ICMP checksum, and those of the error's own header.
  outer-edits : AreEdits 0 (message + 4) bytes (check ∷ outer)
  outer-edits = (
    omega arith,
    omega arith,
    omega arith,
    refl,
    clear-within 10 20 (message + 2) 2 outer (address-within 0 (outer_end way) new.address bytes)
        (omega (arith, room.header)),
    edits-higher 0 20 (message + 4) bytes outer (omega (arith, room.header))
        (address-edits 0 (outer_end way) new.address bytes),
  )

  outer-within : AreWithin 0 (message + 4) (check ∷ outer)
  outer-within =
      within-edits 0 (message + 4) 0 (message + 4) bytes (check ∷ outer) (omega arith) (omega arith) outer-edits

  message-edits : AreEdits message (length bytes) bytes (quoted ++ check ∷ [])
  message-edits = edits-append message (message + 4) at (length bytes) bytes quoted (check ∷ []) (omega arith)
      (omega arith) (omega (arith, room.transport_start)) (omega arith)
      (end-edits at (inner_end way) new bytes within) (omega arith)

  pub error-edits : AreEdits 0 (length bytes) bytes (reverted_changes way new bytes)
  unfolding reverted_changes
  error-edits = edits-append 0 (message + 4) at (length bytes) bytes quoted (check ∷ outer) (omega arith) (omega arith)
      (omega (arith, room.transport_start)) (omega arith) (end-edits at (inner_end way) new bytes within) outer-edits

  -- The changes leave alone what comes before the ICMP checksum, except the header checksum and the address.
  pub error-clear : (i n : ℕ) → (20 ≤ message → i + n ≤ message + 2) → AreClear i n outer →
      AreClear i n (reverted_changes way new bytes)
  unfolding reverted_changes
  error-clear i n before clear =
      let low : i + n ≤ message + 2 = before room.header in
      clear-append i n quoted (check ∷ outer)
      (clear-within at (length bytes) i n quoted (within-edits at (length bytes) at (length bytes) bytes quoted
      (omega arith) (omega arith) (end-edits at (inner_end way) new bytes within)) (omega arith))
      ((λ h k. absurd (omega arith)), clear)

  -- The words of the quoted datagram and the error's own address are the ones that were written.
  pub quoted-written : IsWritten at quoted bytes after
  unfolding reverted_changes
  quoted-written = written-front 0 at 0 (message + 4) quoted (check ∷ outer) bytes after (omega arith) (omega arith)
      outer-within (written-edits 0 (length bytes) (quoted ++ check ∷ outer) bytes error-edits (omega arith))

  pub outer-stands : (word_at (message + 2) after ≡ check.new) × Stands outer after
  unfolding reverted_changes
  outer-stands = (stands-append quoted (check ∷ outer) after
      (stands-edits 0 (length bytes) bytes (quoted ++ check ∷ outer) bytes error-edits (omega arith))).1

  pub outer_address : address 0 (outer_end way) after ≡ new.address
  outer_address = address_stands 0 (outer_end way) new.address bytes after outer-stands.1

  pub quoted-part : (begin size : ℕ) → at ≤ begin → part begin size after ≡ part begin size (with_changes quoted bytes)
  unfolding reverted_changes
  quoted-part begin size behind =
      ap (part begin size) (changed-append quoted (check ∷ outer) bytes)
      ∙ part-changed_other begin size 0 (message + 4) (check ∷ outer) (with_changes quoted bytes) outer-within
      (omega arith)

  outer_last : after ≡ with_changes outer (with_changes (quoted ++ check ∷ []) bytes)
  unfolding reverted_changes
  outer_last = changed-append quoted (check ∷ outer) bytes
      ∙ sym (ap (with_changes outer) (changed-append quoted (check ∷ []) bytes))

  -- The error's own header and the quoted one are unchanged so.
  own_header : KeepsHeader 0 bytes after
  own_header = rw outer_last (header_keeps 0 (outer_end way) new.address (quoted ++ check ∷ []) bytes room
      (within-edits message (length bytes) message (length bytes) bytes (quoted ++ check ∷ []) (omega arith)
      (omega arith) message-edits))

  pub inner_header : KeepsHeader at bytes after
  inner_header = record {
    long = own_header.long;
    first = λ i (low, high). quoted-written.stays i low (end-clear at i 1 (inner_end way) new bytes within
        (omega (arith, high)) (clear-within (at + 10) (at + 20) i 1
        (address_changes at (inner_end way) new.address bytes) (address-within at (inner_end way)
        new.address bytes) (omega (arith, high))));
    right = ap (λ (xs : List ℕ). sum (words xs) % 65535) (quoted-part at (header_length at bytes) (omega arith))
        ∙ (end_keeps_header at (inner_end way) new bytes within).right;
  }

  inner_start : transport_start at after ≡ transport_start at bytes
  inner_start = same_start at bytes after inner_header

  -- The ICMP checksum stays right.
  message_right : sum (words (drop message after)) % 65535 ≡ 0
  message_right =
      let n : ℕ = length bytes - message in
      let all : message + n ≡ length bytes = omega (arith, room.transport_start) in
      let list : List Change = quoted ++ check ∷ [] in
      let total : sum (words (part message n (with_changes list bytes))) + sum (old_words list)
      ≡ sum (words (part message n bytes)) + sum (new_words list) =
      sum-part-changed message n list bytes (omega arith) (rw all message-edits) in
      ap (λ (xs : List ℕ). sum (words xs) % 65535)
      (sym (whole_part message n after (all ∙ sym own_header.long)) ∙ ap (part message n) outer_last
      ∙ part-changed_other message n 10 20 outer (with_changes list bytes)
      (address-within 0 (outer_end way) new.address bytes) (omega (arith, room.header)))
      ∙ icmp_residue _ _ (word_at (message + 2) bytes) (old_words quoted) (new_words quoted)
      (ap (λ (s : ℕ). sum (words (part message n (with_changes list bytes))) + s)
      (sym (sum-map-append (λ (d : Change). d.old) quoted check))
      ∙ total ∙ ap (λ (s : ℕ). sum (words (part message n bytes)) + s)
      (sum-map-append (λ (d : Change). d.new) quoted check))
      ∙ ap (λ (xs : List ℕ). sum (words xs) % 65535) (whole_part message n bytes all) ∙ p.right

  inner_good : address at Source after ≡ address 0 Destination after → form_at at after ≡ form_at at bytes →
      has_bad_inner side at after ≡ false
  unfolding has_bad_inner
  inner_good ours inner_form =
      rw (
        own_header.long,
        first_byte at bytes after inner_header,
        inner_header.right,
        inner_header.first (at + 6) (omega arith),
        inner_header.first (at + 6 + 1) (omega arith),
        inner_header.first (at + 9) (omega arith),
        inner_form,
        number_same _ _ ours,
      ) (ap (λ (b : Bool). b || false) (or_parts _ _ p.inner_good.passes).0)

  kept_with : address at Source after ≡ address 0 Destination after → Carries (form_at at bytes) new.number →
      KeepsError side bytes after
  kept_with ours carries =
      let type : slice_index after message ≡ slice_index bytes message =
      byte-stays message (reverted_changes way new bytes) bytes (error-clear message 1 (omega arith)
      (clear-within 10 20 message 1 outer (address-within 0 (outer_end way) new.address bytes)
      (omega (arith, room.header)))) in
      let body : KeepsBody (form_at 0 bytes) message bytes after = rw p.form_is (type, refl) in
      let inner_body : KeepsBody (form_at at bytes) (transport_start at bytes) bytes after =
      written_keeps_body at (inner_end way) new bytes after within quoted-written carries p.ports in
      let start_is : transport_start 0 after ≡ message = same_start 0 bytes after own_header in
      let inner_form : form_at at after ≡ form_at at bytes = same_form at bytes after inner_header inner_body in
      let errors : AllPass (error_checks side after) =
      rw start_is (
        zero_residue (sum (words (drop message after))) message_right,
        (
          inner_good ours inner_form,
          (
            rw (inner_form, inner_start) inner_body.1,
            tt,
          ),
        ),
      ) in
      record {
        passes = passes_kept side bytes after p.passes own_header body
            (subst (λ (f : TransportForm). AllPass (message_checks f side after)) (sym p.form_is) errors);
        same_form = same_form 0 bytes after own_header body;
        same_start = start_is;
        inner_form = inner_form;
        inner_start = inner_start;
        inner_room = record {
          header = rw inner_start within.header;
          transport_start = rw (inner_start, own_header.long) within.transport_start;
        };
      }

-- The source of the quoted datagram is still the destination of the error.
ours_kept : (side : Side) (way : Way) (new : Endpoint) (bytes : List ℕ) (p : PassesError side bytes) →
    (let after : List ℕ = with_changes (reverted_changes way new bytes) bytes in
    address (inner_datagram_start bytes) Source after ≡ address 0 Destination after)
ours_kept side Incoming new bytes p =
    end_address (inner_datagram_start bytes) Source new bytes _ (quoted-written side Incoming new bytes p).stands
    ∙ sym (outer_address side Incoming new bytes p)
ours_kept side Outgoing new bytes p =
    address_same (inner_datagram_start bytes) Destination new bytes _
    (inner_room side (inner_datagram_start bytes) bytes p.inner_good)
    (quoted-written side Outgoing new bytes p)
    ∙ same_number (address (inner_datagram_start bytes) Source bytes) (address 0 Destination bytes) p.inner_good.ours
    ∙ sym (long-stays 16 (reverted_changes Outgoing new bytes) bytes (error-clear side Outgoing new bytes p 16 4
    (omega arith) (other_clear 0 Source new.address bytes)))

pub error_kept : (side : Side) (way : Way) (new : Endpoint) (bytes : List ℕ) → PassesError side bytes →
    Carries (form_at (inner_datagram_start bytes) bytes) new.number →
    KeepsError side bytes (with_changes (reverted_changes way new bytes) bytes)
error_kept side way new bytes p = kept_with side way new bytes p (ours_kept side way new bytes p)

-- Every word that is replaced lies within the bytes.
pub error_there : (side : Side) (way : Way) (new : Endpoint) (bytes : List ℕ) → PassesError side bytes →
    AreWordsThere (reverted_changes way new bytes) bytes
error_there side way new bytes p =
    there-of_within 0 (reverted_changes way new bytes) bytes
    (within-edits 0 (length bytes) 0 (length bytes) bytes (reverted_changes way new bytes) (omega arith) (omega arith)
    (error-edits side way new bytes p))

-- The form of a packet that the caller knows to be an error, and the number that it can carry.
error_form : (form : TransportForm) (bytes : List ℕ) → is_error (kind_of form bytes) ≡ true → form ≡ Error
error_form form bytes h = grind (arith, common_steps, nat_tests)

pub error_of : (bytes : List ℕ) → is_error (kind bytes) ≡ true → form_at 0 bytes ≡ Error
unfolding kind
error_of bytes h = error_form (form_at 0 bytes) bytes h

pub is_error_of : (bytes : List ℕ) → form_at 0 bytes ≡ Error → is_error (kind bytes) ≡ true
unfolding kind
is_error_of bytes h = rw h refl

pub carries_inner : (bytes : List ℕ) (number : ℕ) → form_at 0 bytes ≡ Error → CanCarry (kind bytes) number →
    Carries (form_at (inner_datagram_start bytes) bytes) number
unfolding kind inner
carries_inner bytes number e h = rw e at h

-- The body of an error has the form and the offset of the transport header that it quotes.
body_error : (form : TransportForm) (bytes : List ℕ) (quoted : QuotedHeader) →
    body_of form bytes ≡ bodies.Error quoted →
    (form ≡ Error) × (quoted ≡ quoted_of bytes)
body_error form bytes quoted h = grind (arith, common_steps, nat_tests)

pub quoted_form : (bytes : List ℕ) (start : ℕ) (body : Body) (quoted : QuotedHeader) → BodyIsFound bytes start body →
    body ≡ bodies.Error quoted → (form_at 0 bytes ≡ Error) × (quoted ≡ quoted_of bytes)
quoted_form bytes start body quoted found h = body_error (form_at 0 bytes) bytes quoted (sym found.body_is ∙ h)

pub not_error : (bytes : List ℕ) (start : ℕ) (body : Body) → BodyIsFound bytes start body → form_at 0 bytes ≡ Error →
    ((quoted : QuotedHeader) → body ≡ bodies.Error quoted → ⊥) → ⊥
not_error bytes start body found e h = h (quoted_of bytes)
    (found.body_is ∙ ap (λ (f : TransportForm). body_of f bytes) e)

pub error_found : (side : Side) (start : ℕ) (body : Body) (old new : List ℕ) →
    BodyIsFound old start body → form_at 0 old ≡ Error → KeepsError side old new → BodyIsFound new start body
error_found side start body old new found form_is keeps = grind (arith, common_steps, nat_tests)

-- The same for a packet that the caller knows to be an error.
pub error_kept_of : (side : Side) (way : Way) (new : Endpoint) (bytes : List ℕ) → is_error (kind bytes) ≡ true →
    CanCarry (kind bytes) new.number → reading side bytes ≡ Ok bytes →
    KeepsError side bytes (with_changes (reverted_changes way new bytes) bytes)
error_kept_of side way new bytes error number h =
    error_kept side way new bytes (passes_error side bytes (passes_of_read side bytes bytes h) (error_of bytes error))
    (carries_inner bytes new.number (error_of bytes error) number)

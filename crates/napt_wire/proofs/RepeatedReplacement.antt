-- After two replacements of an end only the last one counts, and replacing an end by itself changes nothing.
use Rattle.std.proofs.lemmas.Grind.{common_steps}
use Rattle.std.proofs.Common.{◌≡◌, ℕ, ◌+◌, ◌/◌, ◌%◌, ◌<◌, List, [], ◌∷◌, ◌++◌, set, map, arith, refl, sym, ◌∙◌, ap, subst, ◌*◌, ◌==◌, Bool, true, false, length, sum, if◌then◌else◌, zero, suc, slice_index, Ok, All}
use Rattle.std.proofs.lemmas.{List.{set-set, set_comm, map-append, set-get_or, Elements.{All-head, All-tail}}, Bool.Decides.nat_tests}
use Rattle.napt_wire.proofs.Changes.{IsClear, AreClear, AreEdits, Stands, stands-append, length-changed, stands-join}
use Rattle.napt_wire.specs.Prelude.{word_at, with_word_at, byte_at, with_changes, old_words, new_words, word_change, address_changes, end_changes, with_destination, inner_end, outer_end, reverted_changes, reverted, Change, canon, canon_udp, address, transport_start, form_at, number_place, number_at, inner_datagram_start, end_at, inner, protocol_of, destination, kind, kind_of, local_of, local_end, HasHeaders, Endpoint, TransportForm, DatagramEnd, Source, Destination, LastDestinationCounts, LastReversionCounts, IsCanonicalAt, IsQuotedCanonical, IsErrorCanonicalBy, OwnDestinationsChangeNothing, OwnSourcesChangeNothing, Side, Way, reading, Outside, Incoming}
use Rattle.napt_wire.proofs.{EndReplacement.{address_stands, end-edits, end-written, if_there, numbers}, ReadingChecks.{passes_of_read, room_of}}
use Rattle.napt_wire.proofs.WithEnd.{end_keeps_header, end_form, same_start, carries_of, Carries, plain_of}
use Rattle.napt_wire.specs.declared.transport_form.TransportForm.TheVariants.{Udp, Tcp, Request, Reply, Error}
use Rattle.napt_wire.proofs.WithInner.{PassesError, KeepsError, passes_error, error_of, error_kept, error-edits, outer-stands, quoted-written, carries_inner, inner_room, same_number}
use Rattle.napt_wire.proofs.ReplacedEnds.{HasNumber, comes_to, quotes}

-- WORDS

-- Writing a word twice is the same as writing the last value.
pub put_put : (place first last : ℕ) (bytes : List ℕ) → with_word_at place last (with_word_at place first bytes)
    ≡ with_word_at place last bytes
put_put place first last bytes = grind (arith, common_steps, nat_tests, set_comm, set-set)

-- Two words that share no byte can be written in either order.
one_byte : (place byte at word : ℕ) (bytes : List ℕ) → (place < at + 2 → at < place + 1 → ⊥) →
    set (with_word_at at word bytes) place byte ≡ with_word_at at word (set bytes place byte)
one_byte place byte at word bytes clear =
    set_comm (set bytes at (word / 256)) (at + 1) place (word % 256) byte (λ e. omega arith)
    ∙ ap (λ (l : List ℕ). set l (at + 1) (word % 256)) (set_comm bytes at place (word / 256) byte (λ e. omega arith))

put_swap : (a v b w : ℕ) (bytes : List ℕ) → IsClear a 2 b →
    with_word_at a v (with_word_at b w bytes) ≡ with_word_at b w (with_word_at a v bytes)
put_swap a v b w bytes clear =
    ap (λ (l : List ℕ). set l (a + 1) (v % 256)) (one_byte a (v / 256) b w bytes (λ h k. clear h (omega arith)))
    ∙ one_byte (a + 1) (v % 256) b w (set bytes a (v / 256)) (λ h k. clear (omega arith) (omega arith))

put_changed : (c : Change) (changes : List Change) (bytes : List ℕ) → AreClear c.place 2 changes →
    with_word_at c.place c.new (with_changes changes bytes) ≡ with_changes changes (with_word_at c.place c.new bytes)
put_changed c [] bytes clear = refl
put_changed c (d ∷ changes) bytes clear =
    put_changed c changes (with_word_at d.place d.new bytes) clear.1
    ∙ ap (with_changes changes) (put_swap c.place c.new d.place d.new bytes clear.0)

abbrev pub places : List Change → List ℕ
places changes = map (λ (c : Change). c.place) changes

-- Changes with the same offsets and new words give the same bytes.
changed_same : (xs ys : List Change) (bytes : List ℕ) → places xs ≡ places ys → new_words xs ≡ new_words ys →
    with_changes xs bytes ≡ with_changes ys bytes
changed_same [] [] bytes p n = refl
changed_same [] (y ∷ ys) bytes p n = cc
changed_same (x ∷ xs) [] bytes p n = cc
changed_same (x ∷ xs) (y ∷ ys) bytes p n =
    grind (arith, common_steps, nat_tests, changed_same xs ys (with_word_at x.place x.new bytes) (cc) (cc))

-- Changes at the same offsets as earlier ones overwrite them.
overwritten : (low high : ℕ) (old : List ℕ) (xs ys : List Change) (bytes : List ℕ) → places xs ≡ places ys →
    AreEdits low high old xs → with_changes ys (with_changes xs bytes) ≡ with_changes ys bytes
overwritten low high old [] [] bytes same edits = refl
overwritten low high old [] (y ∷ ys) bytes same edits = cc
overwritten low high old (x ∷ xs) [] bytes same edits = cc
overwritten low high old (x ∷ xs) (y ∷ ys) bytes same edits =
    grind (
      arith,
      common_steps,
      nat_tests,
      put_changed,
      put_put,
      overwritten low high old xs ys (with_word_at y.place y.new
          bytes) (cc) edits.5,
    )

-- `again` are changes made after `first`, and `last` those made without them: all have the same offsets, and `again`
-- and `last` write the same words.
abbrev pub Again : List Change → List Change → List Change → Type 0
Again first again last = (places first ≡ places last) × (places again ≡ places last) ×
    (new_words again ≡ new_words last)

pub again-twice : (low high : ℕ) (first again last : List Change) (bytes : List ℕ) → Again first again last →
    AreEdits low high bytes first → with_changes again (with_changes first bytes) ≡ with_changes last bytes
again-twice low high first again last bytes a edits =
    changed_same again last (with_changes first bytes) a.1 a.2 ∙ overwritten low high bytes first last bytes a.0 edits

maps : (f : Change → ℕ) (xs ys zs ws : List Change) → map f xs ≡ map f ys → map f zs ≡ map f ws → map f (xs ++ zs)
    ≡ map f (ys ++ ws)
maps f xs ys zs ws p q = map-append f xs zs ∙ (λ i. p i ++ q i) ∙ sym (map-append f ys ws)

pub again-append : (xs ys zs us vs ws : List Change) → Again xs ys zs → Again us vs ws →
    Again (xs ++ us) (ys ++ vs) (zs ++ ws)
again-append xs ys zs us vs ws a b = grind (arith, common_steps, nat_tests, maps)

-- The old words of edits are those at their offsets.
pub olds-stand : (low high : ℕ) (bytes : List ℕ) (changes : List Change) → AreEdits low high bytes changes →
    old_words changes ≡ map (λ (p : ℕ). word_at p bytes) (places changes)
olds-stand low high bytes [] edits = refl
olds-stand low high bytes (c ∷ changes) edits = λ i. edits.3 i ∷ olds-stand low high bytes changes edits.5 i

pub news-stand : (changes : List Change) (bytes : List ℕ) → Stands changes bytes →
    map (λ (p : ℕ). word_at p bytes) (places changes) ≡ new_words changes
news-stand [] bytes stands = refl
news-stand (c ∷ changes) bytes stands = λ i. stands.0 i ∷ news-stand changes bytes stands.1 i

-- CHECKSUMS

residues : (c o e d : ℕ) → ((c + o + 65534 * e) % 65535 + e + 65534 * d) % 65535 ≡ (c + o + 65534 * d) % 65535
residues c o e d = omega arith

pub canon_twice : (c : ℕ) (old between last : List ℕ) → canon (canon c old between) between last ≡ canon c old last
unfolding canon
canon_twice c old between last = residues c (sum old) (sum between) (sum last)

canon_65535 : (old new : List ℕ) → canon 65535 old new ≡ canon 0 old new
unfolding canon
canon_65535 old new = omega arith

udp_by : (c : ℕ) (old between last : List ℕ) (x : ℕ) → canon c old between ≡ x →
    canon_udp (if c == 0 then 0 else (if x == 0 then 65535 else x)) between last ≡ canon_udp c old last
unfolding canon_udp
udp_by c old between last x e =
    let twice : canon x between last ≡ canon c old last = ap (λ (y : ℕ). canon y between last) (sym e)
    ∙ canon_twice c old between last in
    grind (arith, nat_tests, twice, canon_65535 between last)

pub udp_twice : (c : ℕ) (old between last : List ℕ) → canon_udp (canon_udp c old between) between last
    ≡ canon_udp c old last
unfolding canon_udp
udp_twice c old between last = udp_by c old between last (canon c old between) refl

-- AN END

-- Replacing an address that was replaced before writes the same words as if it had not been.
pub address_again : (at : ℕ) (end : DatagramEnd) (first last : ℕ) (old after : List ℕ) →
    Stands (address_changes at end first old) after →
    Again (address_changes at end first old) (address_changes at end last after) (address_changes at end last old)
address_again at end first last old after h = grind (arith, common_steps, nat_tests, address_stands, canon_twice)

-- An end with this address, and with the number that is in the bytes.
abbrev pub read_end : TransportForm → DatagramEnd → ℕ → ℕ → List ℕ → Endpoint
read_end form end start address bytes =
    record { address = address; number = number_at start (number_place form end) bytes }

there_stands : (b : Bool) (c : Change) (bytes : List ℕ) → b ≡ true → Stands (if_there b c) bytes →
    word_at c.place bytes ≡ c.new
there_stands true c bytes h stands = stands.0
there_stands false c bytes h stands = cc

tcp_again : (a b : Bool) (place check first last v w x : ℕ) (bytes after : List ℕ) → a ≡ b → (b ≡ true → w ≡ x) →
    Again (word_change bytes place first ∷ if_there b (word_change bytes check v))
    (word_change after place last ∷ if_there a (word_change after check w))
    (word_change bytes place last ∷ if_there b (word_change bytes check x))
tcp_again a true place check first last v w x bytes after e h =
    rw e (refl, refl, ap (λ (n : ℕ). last ∷ n ∷ []) (h refl))
tcp_again a false place check first last v w x bytes after e h = rw e (refl, refl, refl)

numbers_again : (form : TransportForm) (end : DatagramEnd) (start address : ℕ) (old first last : Endpoint)
    (bytes after : List ℕ) →
    length after ≡ length bytes → address ≡ first.address → Stands (numbers form end start old first bytes) after →
    Again (numbers form end start old first bytes) (numbers form end start (read_end form end start address after) last
    after) (numbers form end start old last bytes)
numbers_again form end start address old first last bytes after h k g =
    grind (arith, common_steps, nat_tests, udp_twice, tcp_again, there_stands, canon_twice)

-- Replacing an end that was replaced before writes the same words as if it had not been, also after other changes.
pub end_again : (at : ℕ) (end : DatagramEnd) (first last : Endpoint) (bytes after : List ℕ) →
    form_at at after ≡ form_at at bytes → transport_start at after ≡ transport_start at bytes →
    length after ≡ length bytes →
    Stands (end_changes at end first bytes) after →
    Again (end_changes at end first bytes) (end_changes at end last after) (end_changes at end last bytes)
unfolding end_changes
end_again at end first last bytes after form_is start_is long stands =
    let form : TransportForm = form_at at bytes in
    let start : ℕ = transport_start at bytes in
    let old : Endpoint = read_end form end start (address at end bytes) bytes in
    let both = stands-append (numbers form end start old first bytes) (address_changes at end first.address bytes) after
    stands in
    rw (form_is, start_is)
    (again-append (numbers form end start old first bytes) (numbers form end start (read_end form end start
    (address at end after) after) last after) (numbers form end start old last bytes)
    (address_changes at end first.address bytes) (address_changes at end last.address after)
    (address_changes at end last.address bytes)
    (numbers_again form end start (address at end after) old first last bytes after long
    (address_stands at end first.address bytes after both.1) both.0)
    (address_again at end first.address last.address bytes after both.1))

pub end_twice : (at : ℕ) (end : DatagramEnd) (first last : Endpoint) (bytes : List ℕ) → HasHeaders at bytes →
    (let after : List ℕ = with_changes (end_changes at end first bytes) bytes in form_at at after ≡ form_at at bytes →
    with_changes (end_changes at end last after) after ≡ with_changes (end_changes at end last bytes) bytes)
end_twice at end first last bytes room form_is =
    grind (arith, common_steps, nat_tests, end_keeps_header, again-twice, end_again, same_start, end-written, end-edits)

pub last_destination_counts : LastDestinationCounts
unfolding with_destination
last_destination_counts side packet reads plain first last carries =
    let p = passes_of_read side packet packet reads in
    end_twice 0 Destination first last packet (room_of side packet p)
    (end_form side Destination first packet p (carries_of packet first.number carries))

-- AN END THAT IS REPLACED BY ITSELF

canon_same : (check : ℕ) (words : List ℕ) → check < 65535 → canon check words words ≡ check
unfolding canon
canon_same check words h = omega arith

udp_same : (check : ℕ) (words : List ℕ) → check < 65536 → canon_udp check words words ≡ check
unfolding canon_udp canon
udp_same check words h =
    let x : (check + sum words + 65534 * sum words) % 65535 ≡ check % 65535 = omega arith in
    grind (arith, nat_tests, x)

module _ (bytes : List ℕ) (small : (i : ℕ) → slice_index bytes i < 256) where
  word_small : (place : ℕ) → word_at place bytes < 65536
  word_small place = omega (arith, small place, small (place + 1))

  put_same : (place : ℕ) → with_word_at place (word_at place bytes) bytes ≡ bytes
  put_same place =
      let high : word_at place bytes / 256 ≡ slice_index bytes place = omega (arith, small place, small (place + 1)) in
      let low : word_at place bytes % 256 ≡ slice_index bytes (place + 1) =
      omega (arith, small place, small (place + 1)) in
      ap (λ (h : ℕ). set (set bytes place h) (place + 1) (word_at place bytes % 256)) high
      ∙ ap (λ (l : List ℕ). set l (place + 1) (word_at place bytes % 256)) (set-get_or bytes place 0)
      ∙ ap (set bytes (place + 1)) low
      ∙ set-get_or bytes (place + 1) 0

  -- If the bytes already have each word that is written, nothing changes.
  changed_none : (changes : List Change) → Stands changes bytes → with_changes changes bytes ≡ bytes
  changed_none [] stands = refl
  changed_none (c ∷ changes) stands =
      ap (with_changes changes) (ap (λ (w : ℕ). with_word_at c.place w bytes) (sym stands.0) ∙ put_same c.place)
      ∙ changed_none changes stands.1

  address_own : (at : ℕ) (end : DatagramEnd) → word_at (at + 10) bytes < 65535 →
      Stands (address_changes at end (address at end bytes) bytes) bytes
  address_own at end h = grind (arith, common_steps, nat_tests, canon_same, word_small)

  if_own : (b : Bool) (c : Change) → word_at c.place bytes ≡ c.new → Stands (if_there b c) bytes
  if_own true c h = (h, tt)
  if_own false c h = tt

  -- The bytes already have the number of an end and its checksum, whatever its address.
  numbers_own : (form : TransportForm) (end : DatagramEnd) (start : ℕ) (own : Endpoint) →
      own.number ≡ number_at start (number_place form end) bytes → IsQuotedCanonical (protocol_of form) start bytes →
      HasNumber form end → Stands (numbers form end start own own bytes) bytes
  numbers_own form end start own h k g =
      grind (arith, common_steps, nat_tests, udp_same, word_small, if_own, canon_same)

  end_own : (at : ℕ) (end : DatagramEnd) → word_at (at + 10) bytes < 65535 →
      IsQuotedCanonical (protocol_of (form_at at bytes)) (transport_start at bytes) bytes →
      HasNumber (form_at at bytes) end →
      Stands (end_changes at end (end_at at end bytes) bytes) bytes
  unfolding end_changes
  end_own at end header canonical has =
      grind (arith, common_steps, nat_tests, stands-join, numbers, numbers_own, address_own)

  own_source : PassesError Outside bytes → word_at 10 bytes < 65535 →
      word_at (transport_start 0 bytes + 2) bytes < 65535 →
      word_at (inner_datagram_start bytes + 10) bytes < 65535 →
      IsQuotedCanonical (protocol_of (form_at (inner_datagram_start bytes) bytes))
      (transport_start (inner_datagram_start bytes) bytes) bytes →
      with_changes (reverted_changes Incoming (end_at (inner_datagram_start bytes) Source bytes) bytes) bytes ≡ bytes
  unfolding reverted_changes
  own_source p outer check inside canonical =
      let at : ℕ = inner_datagram_start bytes in
      let own : Endpoint = end_at at Source bytes in
      let quoted : List Change = end_changes at Source own bytes in
      let stands = end_own at Source inside canonical (quotes (form_at at bytes) p.inner_good.quoted) in
      let same : old_words quoted ≡ new_words quoted =
      olds-stand at (length bytes) bytes quoted
      (end-edits at Source own bytes (inner_room Outside at bytes p.inner_good))
      ∙ news-stand quoted bytes stands in
      let ours : address 0 Destination bytes ≡ own.address =
      sym (same_number (address at Source bytes) (address 0 Destination bytes) p.inner_good.ours) in
      changed_none _ (stands-join quoted _ bytes stands (
        sym (ap (canon (word_at (transport_start 0 bytes + 2) bytes) (old_words quoted)) (sym same)
            ∙ canon_same (word_at (transport_start 0 bytes + 2) bytes) (old_words quoted) check),
        subst (λ (x : ℕ). Stands (address_changes 0 Destination x bytes) bytes) ours (address_own 0 Destination outer),
      ))

small_at : (bytes : List ℕ) → All (λ b. b < 256) bytes → (i : ℕ) → slice_index bytes i < 256
small_at [] h i = omega arith
small_at (x ∷ xs) h zero = All-head (λ (b : ℕ). b < 256) x xs h
small_at (x ∷ xs) h (suc i) = small_at xs (All-tail (λ (b : ℕ). b < 256) x xs h) i

canonical_at : (form : TransportForm) (bytes : List ℕ) → IsCanonicalAt (kind_of form bytes) bytes →
    HasNumber form Destination →
    IsQuotedCanonical (protocol_of form) (transport_start 0 bytes) bytes
canonical_at form bytes h k = grind (arith, common_steps, nat_tests)

pub own_destinations_change_nothing : OwnDestinationsChangeNothing
unfolding with_destination destination kind
own_destinations_change_nothing packet all reads plain canonical =
    let p = passes_of_read _ packet packet reads in
    let form : TransportForm = form_at 0 packet in
    let has : HasNumber form Destination = comes_to form (byte_at (transport_start 0 packet) packet)
    (plain_of packet plain) p.bodies.1.0 in
    changed_none packet (small_at packet all) (end_changes 0 Destination (end_at 0 Destination packet) packet)
    (end_own packet (small_at packet all) 0 Destination canonical.0 (canonical_at form packet canonical.1 has) has)

by_form : (f : TransportForm) (packet : List ℕ) → All (λ b. b < 256) packet → reading Outside packet ≡ Ok packet →
    form_at 0 packet ≡ f → IsErrorCanonicalBy (kind_of f packet) packet →
    with_changes (reverted_changes Incoming (local_of (kind_of f packet) Incoming packet) packet) packet ≡ packet
unfolding inner
by_form Udp packet all reads is canonical = absurd canonical
by_form Tcp packet all reads is canonical = absurd canonical
by_form Request packet all reads is canonical = absurd canonical
by_form Reply packet all reads is canonical = absurd canonical
by_form Error packet all reads is canonical =
    own_source packet (small_at packet all)
    (passes_error Outside packet (passes_of_read Outside packet packet reads) is)
    canonical.0 canonical.1 canonical.2 canonical.3

pub own_sources_change_nothing : OwnSourcesChangeNothing
unfolding reverted kind local_end
own_sources_change_nothing packet all reads canonical = by_form (form_at 0 packet) packet all reads refl canonical

-- AN ERROR WHOSE QUOTED END IS REPLACED TWICE

-- The change of the ICMP checksum at `place`, which covers the changes of the quoted datagram.
abbrev pub check_of : ℕ → List Change → List ℕ → Change
check_of place quoted bytes =
    word_change bytes place (canon (word_at place bytes) (old_words quoted) (new_words quoted))

abbrev pub all_of : ℕ → ℕ → Way → Endpoint → List ℕ → List Change
all_of at place way end bytes =
    let quoted : List Change = end_changes at (inner_end way) end bytes in
    quoted ++ check_of place quoted bytes ∷ address_changes 0 (outer_end way) end.address bytes

module _ (side : Side) (way : Way) (first last : Endpoint) (bytes : List ℕ) (p : PassesError side bytes)
    (carries : Carries (form_at (inner_datagram_start bytes) bytes) first.number) where
  abbrev at : ℕ
  at = inner_datagram_start bytes

  abbrev start : ℕ
  start = transport_start 0 bytes

  abbrev end : DatagramEnd
  end = inner_end way

  abbrev quoted : List Change
  quoted = end_changes at end first bytes

  abbrev c : Change
  c = check_of (start + 2) quoted bytes

  abbrev outer : List Change
  outer = address_changes 0 (outer_end way) first.address bytes

  abbrev after : List ℕ
  after = with_changes (quoted ++ c ∷ outer) bytes

  abbrev again : List Change
  again = end_changes at end last after

  abbrev only : List Change
  only = end_changes at end last bytes

  room_within : HasHeaders at bytes
  room_within = inner_room side at bytes p.inner_good

  keeps : KeepsError side bytes after
  unfolding reverted_changes
  keeps = error_kept side way first bytes p carries

  inside : Stands quoted after
  unfolding reverted_changes
  inside = (quoted-written side way first bytes p).stands

  outside : (word_at (start + 2) after ≡ c.new) × Stands outer after
  unfolding reverted_changes
  outside = outer-stands side way first bytes p

  quoted_again : Again quoted again only
  quoted_again = end_again at end first last bytes after keeps.inner_form keeps.inner_start
      (length-changed (quoted ++ c ∷ outer) bytes) inside

  -- The change of the ICMP checksum.
  again_olds : old_words again ≡ new_words quoted
  again_olds = olds-stand at (length after) after again (end-edits at end last after keeps.inner_room)
      ∙ ap (map (λ (q : ℕ). word_at q after)) (quoted_again.1 ∙ sym quoted_again.0) ∙ news-stand quoted after inside

  only_olds : old_words only ≡ old_words quoted
  only_olds = olds-stand at (length bytes) bytes only (end-edits at end last bytes room_within)
      ∙ ap (map (λ (q : ℕ). word_at q bytes)) (sym quoted_again.0)
      ∙ sym (olds-stand at (length bytes) bytes quoted (end-edits at end first bytes room_within))

  check_new : (check_of (start + 2) again after).new ≡ (check_of (start + 2) only bytes).new
  check_new =
      let check = outside.0 in
      let same_news = quoted_again.2 in
      cc (
        canon_twice (word_at (start + 2) bytes) (old_words quoted) (new_words quoted) (new_words only),
        again_olds,
        only_olds,
      )

  all_again : Again (all_of at (start + 2) way first bytes) (all_of at (start + 2) way last after)
      (all_of at (start + 2) way last bytes)
  all_again = again-append quoted again only _ _ _ quoted_again
      (again-append (c ∷ []) (check_of (start + 2) again after ∷ []) (check_of (start + 2) only bytes ∷ []) outer
      (address_changes 0 (outer_end way) last.address after) (address_changes 0 (outer_end way) last.address bytes)
      (refl, refl, ap (λ (n : ℕ). n ∷ []) check_new)
      (address_again 0 (outer_end way) first.address last.address bytes after outside.1))

  pub error_twice : with_changes (reverted_changes way last (with_changes (reverted_changes way first bytes) bytes))
      (with_changes (reverted_changes way first bytes) bytes) ≡ with_changes (reverted_changes way last bytes) bytes
  unfolding reverted_changes
  error_twice =
      ap (λ (s : ℕ). with_changes (all_of (s + 8) (s + 2) way last after) after) keeps.same_start
      ∙ again-twice 0 (length bytes) (all_of at (start + 2) way first bytes) (all_of at (start + 2) way last after)
      (all_of at (start + 2) way last bytes) bytes all_again (error-edits side way first bytes p)

pub last_reversion_counts : LastReversionCounts
unfolding reverted
last_reversion_counts side packet reads error way first last carries =
    let form_is = error_of packet error in
    error_twice side way first last packet (passes_error side packet (passes_of_read side packet packet reads) form_is)
    (carries_inner packet first.number form_is carries)

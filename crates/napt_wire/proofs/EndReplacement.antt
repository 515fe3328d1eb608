-- The parts of a packet that the replacement of an end does not change.
use Rattle.std.proofs.lemmas.Grind.{common_steps}
use Rattle.std.proofs.Common.{◌≡◌, ℕ, ◌+◌, ◌*◌, ◌/◌, ◌%◌, ◌≤◌, Bool, true, false, List, [], ◌∷◌, ◌++◌, length, sum, arith, refl, nat_le, if◌then◌else◌}
use Rattle.std.proofs.lemmas.{Bool.Decides.nat_tests, List.Elements.{All-cons, All-head, All-tail}}
use Rattle.napt_wire.proofs.Changes.{AreWithin, AreEdits, AreClear, IsClear, Stands, IsWritten, written-edits, written-front, long-same, clear-append, clear-within, stands-append, part, length-changed, sum-part-changed, within-edits, edits-append, edits-higher}
use Rattle.napt_wire.specs.Prelude.{word_at, words, canon, address, address_place, transport_start, form_at, number_place, end_at, word_change, with_changes, address_words, address_changes, number_changes, end_changes, HasHeaders, AreWordsThere, Endpoint, Change, TransportForm, DatagramEnd, Source, Destination}

pub there-of_within : (low : ℕ) (xs : List Change) (bytes : List ℕ) → AreWithin low (length bytes) xs →
    AreWordsThere xs bytes
there-of_within low [] bytes a = λ k d h. absurd (omega arith)
there-of_within low (c ∷ xs) bytes a = All-cons (λ (d : Change). d.place + 2 ≤ length bytes) c xs a.1
    (there-of_within low xs bytes a.2)

-- The changes of an address and of the header checksum are edits of the IPv4 header.
pub address-edits : (at : ℕ) (end : DatagramEnd) (new : ℕ) (bytes : List ℕ) →
    AreEdits at (at + 20) bytes (address_changes at end new bytes)
address-edits at Source new bytes = omega arith
address-edits at Destination new bytes = omega arith

pub address-within : (at : ℕ) (end : DatagramEnd) (new : ℕ) (bytes : List ℕ) →
    AreWithin (at + 10) (at + 20) (address_changes at end new bytes)
address-within at Source new bytes = omega arith
address-within at Destination new bytes = omega arith

-- The sum of the header is unchanged modulo 65535 after an address and the header checksum are replaced.
address_residue : (sum_new sum_old check high low new : ℕ) →
    sum_new + (0 + check + high + low) ≡ sum_old
    + (0 + canon check (address_words (65536 * high + low)) (address_words new) + new / 65536 + new % 65536) →
    sum_new % 65535 ≡ sum_old % 65535
unfolding canon
address_residue sum_new sum_old check high low new h = omega arith

pub address-residue : (at n : ℕ) (end : DatagramEnd) (new : ℕ) (old bytes : List ℕ) → 20 ≤ n → at + n ≤ length bytes →
    AreEdits at (at + 20) bytes (address_changes at end new old) →
    sum (words (part at n (with_changes (address_changes at end new old) bytes))) % 65535
    ≡ sum (words (part at n bytes)) % 65535
address-residue at n Source new old bytes h there edits =
    address_residue _ _ (word_at (at + 10) old) (word_at (at + 12) old) (word_at (at + 12 + 2) old) new
    (sum-part-changed at n (address_changes at Source new old) bytes there
    (edits-higher at (at + 20) (at + n) bytes (address_changes at Source new old) (omega arith) edits))
address-residue at n Destination new old bytes h there edits =
    address_residue _ _ (word_at (at + 10) old) (word_at (at + 16) old) (word_at (at + 16 + 2) old) new
    (sum-part-changed at n (address_changes at Destination new old) bytes there
    (edits-higher at (at + 20) (at + n) bytes (address_changes at Destination new old) (omega arith) edits))

-- The changes of a number and of its checksum are edits, also if a short quoted TCP header has no checksum.
tcp_edits : (b : Bool) (start high k number check : ℕ) (bytes : List ℕ) → (b ≡ true → start + 18 ≤ high) →
    start + 8 ≤ high → k ≤ 2 → k % 2 ≡ 0 →
    AreEdits start high bytes (word_change bytes (start + k) number
    ∷ (if b then word_change bytes (start + 16) check ∷ [] else []))
tcp_edits true start high k number check bytes there h small even =
    let fits : start + 18 ≤ high = there refl in omega arith
tcp_edits false start high k number check bytes there h small even = omega arith

le_of : (a b : ℕ) → nat_le a b ≡ true → a ≤ b
le_of a b h = grind (arith, nat_tests)

pub number-edits : (form : TransportForm) (end : DatagramEnd) (start : ℕ) (old new : Endpoint) (bytes : List ℕ) →
    start + 8 ≤ length bytes →
    AreEdits start (length bytes) bytes (number_changes (number_place form end) form start old new bytes)
number-edits form end start old new bytes h = grind (arith, common_steps, nat_tests, tcp_edits, le_of)

pub number-there : (form : TransportForm) (end : DatagramEnd) (start : ℕ) (old new : Endpoint) (bytes : List ℕ) →
    start + 8 ≤ length bytes →
    AreWithin start (length bytes) (number_changes (number_place form end) form start old new bytes)
number-there form end start old new bytes h =
    within-edits start (length bytes) start (length bytes) bytes _ (omega arith) (omega arith)
    (number-edits form end start old new bytes h)

-- The changes of an end of the datagram at `at` are edits.
pub end-edits : (at : ℕ) (end : DatagramEnd) (new : Endpoint) (bytes : List ℕ) → HasHeaders at bytes →
    AreEdits at (length bytes) bytes (end_changes at end new bytes)
unfolding end_changes
end-edits at end new bytes room = grind (arith, common_steps, nat_tests, edits-append, number-edits, address-edits)

abbrev pub numbers : TransportForm → DatagramEnd → ℕ → Endpoint → Endpoint → List ℕ → List Change
numbers form end start old new bytes = number_changes (number_place form end) form start old new bytes

pub end-written : (at : ℕ) (end : DatagramEnd) (new : Endpoint) (bytes : List ℕ) → HasHeaders at bytes →
    IsWritten at (end_changes at end new bytes) bytes (with_changes (end_changes at end new bytes) bytes)
end-written at end new bytes room =
    written-edits at (length bytes) (end_changes at end new bytes) bytes (end-edits at end new bytes room) (omega arith)

-- The address that was written is read back.
halves : (n a b : ℕ) → a ≡ n / 65536 → b ≡ n % 65536 → 65536 * a + b ≡ n
halves n a b ha hb = omega arith

pub address_stands : (at : ℕ) (end : DatagramEnd) (new : ℕ) (old bytes : List ℕ) →
    Stands (address_changes at end new old) bytes → address at end bytes ≡ new
address_stands at Source new old bytes stands = halves new _ _ stands.1.0 stands.1.1.0
address_stands at Destination new old bytes stands = halves new _ _ stands.1.0 stands.1.1.0

abbrev pub other : DatagramEnd → DatagramEnd
other Source = Destination
other Destination = Source

-- The changes leave the IPv4 header alone, except the header checksum and the address.
pub end-clear : (at i n : ℕ) (end : DatagramEnd) (new : Endpoint) (bytes : List ℕ) → HasHeaders at bytes →
    i + n ≤ at + 20 →
    AreClear i n (address_changes at end new.address bytes) → AreClear i n (end_changes at end new bytes)
unfolding end_changes
end-clear at i n end new bytes room before clear =
    clear-append i n _ (address_changes at end new.address bytes)
    (clear-within (transport_start at bytes) (length bytes) i n _
    (number-there (form_at at bytes) end (transport_start at bytes)
    (end_at at end bytes) new bytes room.transport_start) (omega (arith, room.header))) clear

pub other_clear : (at : ℕ) (end : DatagramEnd) (new : ℕ) (bytes : List ℕ) →
    AreClear (at + address_place (other end)) 4 (address_changes at end new bytes)
other_clear at Source new bytes = omega arith
other_clear at Destination new bytes = omega arith

-- The address of the end is the one that was written.
pub end_address : (at : ℕ) (end : DatagramEnd) (new : Endpoint) (bytes after : List ℕ) →
    Stands (end_changes at end new bytes) after → address at end after ≡ new.address
unfolding end_changes
end_address at end new bytes after stands =
    address_stands at end new.address bytes after
    (stands-append _ (address_changes at end new.address bytes) after stands).1

-- The address of the other end is unchanged.
pub address_same : (at : ℕ) (end : DatagramEnd) (new : Endpoint) (bytes after : List ℕ) → HasHeaders at bytes →
    IsWritten at (end_changes at end new bytes) bytes after →
    address at (other end) after ≡ address at (other end) bytes
address_same at Source new bytes after room w =
    long-same at (at + 16) (end_changes at Source new bytes) bytes after w (omega arith)
    (end-clear at (at + 16) 4 Source new bytes room (omega arith) (other_clear at Source new.address bytes))
address_same at Destination new bytes after room w =
    long-same at (at + 12) (end_changes at Destination new bytes) bytes after w (omega arith)
    (end-clear at (at + 12) 4 Destination new bytes room (omega arith) (other_clear at Destination new.address bytes))

-- The number and the checksum of the end are the ones that were written.
pub numbers-written : (at : ℕ) (end : DatagramEnd) (new : Endpoint) (bytes after : List ℕ) → HasHeaders at bytes →
    IsWritten at (end_changes at end new bytes) bytes after →
    IsWritten (transport_start at bytes) (numbers (form_at at bytes) end (transport_start at bytes)
    (end_at at end bytes) new bytes)
    bytes after
unfolding end_changes
numbers-written at end new bytes after room w =
    written-front at (transport_start at bytes) (at + 10) (at + 20) _ (address_changes at end new.address bytes) bytes
    after
    (omega (arith, room.header)) room.header (address-within at end new.address bytes) w

-- A TCP checksum, if it is present.
abbrev pub if_there : Bool → Change → List Change
if_there b c = if b then c ∷ [] else []

pub there_clear : (b : Bool) (i n : ℕ) (c d : Change) → IsClear i n c.place → IsClear i n d.place →
    AreClear i n (c ∷ if_there b d)
there_clear true i n c d p q = (p, (q, tt))
there_clear false i n c d p q = (p, tt)

-- Every word that is replaced lies within the bytes.
pub end-there : (at : ℕ) (end : DatagramEnd) (new : Endpoint) (bytes : List ℕ) → HasHeaders at bytes →
    AreWordsThere (end_changes at end new bytes) bytes
end-there at end new bytes room =
    there-of_within at (end_changes at end new bytes) bytes
    (within-edits at (length bytes) at (length bytes) bytes (end_changes at end new bytes) (omega arith) (omega arith)
    (end-edits at end new bytes room))

pub there-front : (xs ys : List Change) (bytes : List ℕ) → AreWordsThere (xs ++ ys) bytes → AreWordsThere xs bytes
there-front [] ys bytes h = λ k d l. absurd (omega arith)
there-front (c ∷ xs) ys bytes h =
    All-cons (λ (d : Change). d.place + 2 ≤ length bytes) c xs (All-head (λ (d : Change). d.place + 2 ≤ length bytes) c
    (xs ++ ys) h)
    (there-front xs ys bytes (All-tail (λ (d : Change). d.place + 2 ≤ length bytes) c (xs ++ ys) h))

pub there-rest : (xs ys : List Change) (bytes : List ℕ) → AreWordsThere (xs ++ ys) bytes → AreWordsThere ys bytes
there-rest [] ys bytes h = h
there-rest (c ∷ xs) ys bytes h = there-rest xs ys bytes (All-tail (λ (d : Change). d.place + 2 ≤ length bytes) c
    (xs ++ ys) h)

pub there-changed : (xs ys : List Change) (bytes : List ℕ) → AreWordsThere ys bytes →
    AreWordsThere ys (with_changes xs bytes)
there-changed xs ys bytes h = λ k d l. rw length-changed (h k d l)

-- The rewritten packet (RFC 3022 sections 4.1 to 4.3, RFC 5508 section 4). An address and a number are replaced, with
-- each checksum that covers them. No other byte changes.
use Rattle.std.specs.Prelude.{ℕ, ◌+◌, ◌/◌, ◌%◌, List, [], ◌∷◌, ◌++◌, length, map, Option, Some, None, nat_le, if◌then◌else◌}
use Rattle.napt_wire.specs.{Bytes.{word_at, with_word_at}, Checksum.{canon, canon_udp}}
use Rattle.napt_wire.specs.{Fields.{address, address_place, transport_start, form_at, number_place, end_at, inner_datagram_start}, declared.{Endpoint.Endpoint, Way.Way}}
use Rattle.napt_wire.specs.declared.{Way.TheVariants.{Outgoing, Incoming}, transport_form.{TransportForm.{TransportForm, TheVariants.{Udp, Tcp, Error}}, DatagramEnd.DatagramEnd}}
use Rattle.napt_wire.specs.declared.{transport_form.DatagramEnd.TheVariants.{Source, Destination}, header_rewrite.Change.Change}

-- Returns the change that replaces the word at an offset.
abbrev pub word_change : List ℕ → ℕ → ℕ → Change
word_change bytes place new = record { place = place; old = word_at place bytes; new = new }

abbrev pub old_words : List Change → List ℕ
old_words changes = map (λ (c : Change). c.old) changes

abbrev pub new_words : List Change → List ℕ
new_words changes = map (λ (c : Change). c.new) changes

-- Returns the bytes after each change is written.
abbrev pub with_changes : List Change → List ℕ → List ℕ
with_changes [] bytes = bytes
with_changes (c ∷ changes) bytes = with_changes changes (with_word_at c.place c.new bytes)

-- Returns the two words of an address. `end_words` has the three words of an end that a TCP or UDP checksum covers: its
-- address, as part of the pseudo-header, and its port.
abbrev pub address_words : ℕ → List ℕ
address_words address = address / 65536 ∷ address % 65536 ∷ []

abbrev pub end_words : Endpoint → List ℕ
end_words end = end.address / 65536 ∷ end.address % 65536 ∷ end.number ∷ []

-- Returns the changes that replace an address of the datagram at `at`, and the header checksum that covers it.
abbrev pub address_changes : ℕ → DatagramEnd → ℕ → List ℕ → List Change
address_changes at end new bytes =
    word_change bytes (at + 10) (canon (word_at (at + 10) bytes) (address_words (address at end bytes))
    (address_words new))
    ∷ word_change bytes (at + address_place end) (new / 65536)
    ∷ word_change bytes (at + address_place end + 2) (new % 65536) ∷ []

-- Returns the change of the transport checksum, in a transport header of this form at offset `start`, if an end is
-- replaced. An ICMP checksum covers only the identifier. A TCP checksum is replaced only if it lies within the bytes,
-- as in any whole segment; an error may quote less.
abbrev pub checksum_changes : TransportForm → ℕ → Endpoint → Endpoint → List ℕ → List Change
checksum_changes Udp start old new bytes =
    word_change bytes (start + 6) (canon_udp (word_at (start + 6) bytes) (end_words old) (end_words new)) ∷ []
checksum_changes Tcp start old new bytes =
    if nat_le (start + 18) (length bytes)
    then word_change bytes (start + 16) (canon (word_at (start + 16) bytes) (end_words old) (end_words new)) ∷ []
    else []
checksum_changes Error start old new bytes = []
checksum_changes _ start old new bytes =
    word_change bytes (start + 2) (canon (word_at (start + 2) bytes) (old.number ∷ []) (new.number ∷ [])) ∷ []

-- Returns the changes that replace the number of an end, if it has one, and the transport checksum that covers it.
abbrev pub number_changes : Option ℕ → TransportForm → ℕ → Endpoint → Endpoint → List ℕ → List Change
number_changes None form start old new bytes = []
number_changes (Some place) form start old new bytes =
    word_change bytes (start + place) new.number ∷ checksum_changes form start old new bytes

-- Returns the changes that replace an end of the datagram at `at`.
unfoldable pub end_changes : ℕ → DatagramEnd → Endpoint → List ℕ → List Change
end_changes at end new bytes =
    number_changes (number_place (form_at at bytes) end) (form_at at bytes) (transport_start at bytes)
    (end_at at end bytes) new bytes
    ++ address_changes at end new.address bytes

unfoldable pub with_source : Endpoint → List ℕ → List ℕ
with_source source bytes = with_changes (end_changes 0 Source source bytes) bytes

unfoldable pub with_destination : Endpoint → List ℕ → List ℕ
with_destination destination bytes = with_changes (end_changes 0 Destination destination bytes) bytes

-- Returns the end of the quoted datagram that is inside. `outer_end` is the end of the ICMP error itself that is
-- translated with it.
abbrev pub inner_end : Way → DatagramEnd
inner_end Incoming = Source
inner_end Outgoing = Destination

abbrev pub outer_end : Way → DatagramEnd
outer_end Incoming = Destination
outer_end Outgoing = Source

-- Returns the changes that replace the inside end of the datagram that an ICMP error quotes, the error's own address,
-- and its ICMP checksum, which covers each replaced word of the quoted datagram.
unfoldable pub reverted_changes : Way → Endpoint → List ℕ → List Change
reverted_changes way end bytes =
    let quoted : List Change = end_changes (inner_datagram_start bytes) (inner_end way) end bytes in
    let checksum : ℕ = transport_start 0 bytes + 2 in
    quoted
    ++ word_change bytes checksum (canon (word_at checksum bytes) (old_words quoted) (new_words quoted))
    ∷ address_changes 0 (outer_end way) end.address bytes

unfoldable pub reverted : Way → Endpoint → List ℕ → List ℕ
reverted way end bytes = with_changes (reverted_changes way end bytes) bytes

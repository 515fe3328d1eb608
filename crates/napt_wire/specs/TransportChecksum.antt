-- Right transport checksums of datagrams. Reading checks the checksums of IPv4 headers and ICMP errors, which are
-- therefore right in every packet.
use Rattle.std.specs.Prelude.{ℕ, ◌+◌, ◌-◌, Bool, ◌||◌, ◌==◌, List, [], ◌∷◌, ◌++◌, length, take, drop, Option, Some, None, option_map, nat_lt, if◌then◌else◌}
use Rattle.napt_wire.specs.{Bytes.{word_at, words}, Checksum.is_right, Fields.{address, header_length, total_length, protocol_number, transport_start, form_at}}
use Rattle.napt_wire.specs.{Rewriting.address_words, declared.transport_form.TransportForm.{TransportForm, TheVariants.{Udp, Tcp, Error}}}
use Rattle.napt_wire.specs.declared.transport_form.DatagramEnd.TheVariants.{Source, Destination}

-- Returns the pseudo-header that UDP and TCP checksums cover, if the transport header and the data have `size` bytes:
-- both addresses, the protocol and the size (RFC 768, RFC 9293 section 3.1).
abbrev pub pseudo_words : ℕ → ℕ → List ℕ → List ℕ
pseudo_words at size bytes =
    address_words (address at Source bytes) ++ address_words (address at Destination bytes)
    ++ protocol_number at bytes ∷ size ∷ []

-- Returns the words of the transport header and the data, which have `size` bytes.
abbrev pub message_words : ℕ → ℕ → List ℕ → List ℕ
message_words at size bytes = words (take size (drop (transport_start at bytes) bytes))

-- Returns the number of bytes of the transport header and the data, by the lengths in the IPv4 header.
abbrev pub message_length : ℕ → List ℕ → ℕ
message_length at bytes = total_length at bytes - header_length at bytes

-- Returns the words that the transport checksum covers. There are none if a UDP checksum is absent, if the checksum and
-- the number do not fit the length fields, if the bytes are incomplete, or for an ICMP error.
abbrev pub checksummed_words : TransportForm → ℕ → List ℕ → Option (List ℕ)
checksummed_words Udp at bytes =
    let size : ℕ = word_at (transport_start at bytes + 4) bytes in
    if word_at (transport_start at bytes + 6) bytes == 0 || nat_lt size 8
    || nat_lt (length bytes) (transport_start at bytes + size)
    then None else Some (pseudo_words at size bytes ++ message_words at size bytes)
checksummed_words Tcp at bytes =
    let size : ℕ = message_length at bytes in
    if nat_lt size 18 || nat_lt (length bytes) (transport_start at bytes + size)
    then None else Some (pseudo_words at size bytes ++ message_words at size bytes)
checksummed_words Error at bytes = None
checksummed_words _ at bytes =
    let size : ℕ = message_length at bytes in
    if nat_lt size 6 || nat_lt (length bytes) (transport_start at bytes + size) then None
    else Some (message_words at size bytes)

-- Returns whether the transport checksum of the datagram at `at` is right, or none unless all its words are present.
unfoldable pub transport_right : ℕ → List ℕ → Option Bool
transport_right at bytes = option_map is_right (checksummed_words (form_at at bytes) at bytes)

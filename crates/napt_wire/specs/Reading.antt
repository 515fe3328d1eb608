-- The checks on an arriving packet, in their order. The first check that fails gives the cause.
use Rattle.std.specs.Prelude.{ℕ, ◌+◌, ◌*◌, ◌/◌, Bool, true, false, not, ◌&&◌, ◌||◌, List, [], ◌∷◌, ◌++◌, length, take, drop, Option, Some, None, Result, Ok, Err, nat_lt, ◌==◌, if◌then◌else◌}
use Rattle.napt_wire.specs.{Bytes.{byte_at, word_at, words}, Checksum.is_right}
use Rattle.napt_wire.specs.Fields.{version, header_length, total_length, fragment_offset, has_more_fragments, protocol_number, transport_start, form_at, address, inner_datagram_start}
use Rattle.napt_wire.specs.declared.Cause.{Cause, TheVariants.{Truncated, NotIpv4, BadHeader, BadChecksum, Fragment, Unsupported, BadInner, BadPort}}
use Rattle.napt_wire.specs.declared.{Side.{Side, TheVariants.{Inside, Outside}}, transport_form.TransportForm.{TransportForm, TheVariants.{Udp, Tcp, Request, Reply, Error}}}
use Rattle.napt_wire.specs.declared.transport_form.DatagramEnd.TheVariants.{Source, Destination}

-- Returns the IPv4 header of the datagram that begins at offset `at`.
abbrev pub header : ℕ → List ℕ → List ℕ
header at bytes = take (header_length at bytes) (drop at bytes)

-- Returns whether a protocol number is that of ICMP, TCP or UDP.
abbrev pub is_known_protocol : ℕ → Bool
is_known_protocol protocol = protocol == 1 || protocol == 6 || protocol == 17

abbrev pub has_ports : TransportForm → Bool
has_ports Udp = true
has_ports Tcp = true
has_ports _ = false

-- Returns whether the transport header is malformed: a UDP length is below 8 or exceeds the bytes present (RFC 768), a
-- TCP data offset is below 5 or points past them (RFC 9293 section 3.1), or there are fewer bytes than a header of this
-- form has (8 for ICMP, RFC 792).
abbrev pub has_bad_transport : TransportForm → List ℕ → Bool
has_bad_transport Udp payload =
    nat_lt (length payload) 8 || nat_lt (word_at 4 payload) 8 || nat_lt (length payload) (word_at 4 payload)
has_bad_transport Tcp payload =
    nat_lt (length payload) 20 || nat_lt (byte_at 12 payload / 16) 5 || nat_lt (length payload)
    (4 * (byte_at 12 payload / 16))
has_bad_transport _ payload = nat_lt (length payload) 8

-- Returns whether a message from this side is translated. Of ICMP (RFC 792) these are destination unreachable (3), time
-- exceeded (11) and parameter problem (12), echo requests from inside, and echo replies from outside.
abbrev pub is_translated_message : Side → TransportForm → ℕ → Bool
is_translated_message side Udp type = true
is_translated_message side Tcp type = true
is_translated_message Inside Request type = true
is_translated_message Outside Reply type = true
is_translated_message side Error type = type == 3 || type == 11 || type == 12
is_translated_message _ _ type = false

-- Returns whether an error from this side may quote a datagram of this form. A quoted echo, which went in the other
-- direction, is a request if the error comes from outside, and a reply if it comes from inside.
abbrev pub is_quotable : Side → TransportForm → Bool
is_quotable side Udp = true
is_quotable side Tcp = true
is_quotable Outside Request = true
is_quotable Inside Reply = true
is_quotable _ _ = false

-- Returns whether the datagram at offset `at`, which an error quotes, is bad (RFC 5508 section 4): it is too short or
-- damaged, it is not a first fragment, or its source is not the destination of the error.
unfoldable pub has_bad_inner : Side → ℕ → List ℕ → Bool
has_bad_inner side at bytes =
    nat_lt (length bytes) (at + 20)
    || not (version at bytes == 4)
    || nat_lt (header_length at bytes) 20
    || nat_lt (length bytes) (transport_start at bytes + 8)
    || not (is_right (words (header at bytes)))
    || not (fragment_offset at bytes == 0)
    || not (is_known_protocol (protocol_number at bytes))
    || not (is_quotable side (form_at at bytes))
    || not (address at Source bytes == address 0 Destination bytes)

-- Returns whether a transport header of this form, which begins at `start`, has ports and one of them is 0.
abbrev pub has_zero_port : TransportForm → ℕ → List ℕ → Bool
has_zero_port form start bytes = has_ports form && (word_at start bytes == 0 || word_at (start + 2) bytes == 0)

-- Returns the checks on the received bytes, each with the cause if it fails: the version and the lengths in the IPv4
-- header (RFC 791 section 3.1).
abbrev pub length_checks : List ℕ → List (Bool × Cause)
length_checks bytes =
    (nat_lt (length bytes) 20, Truncated)
    ∷ (not (version 0 bytes == 4), NotIpv4)
    ∷ (nat_lt (header_length 0 bytes) 20 || nat_lt (total_length 0 bytes) (header_length 0 bytes), BadHeader)
    ∷ (nat_lt (length bytes) (total_length 0 bytes), Truncated) ∷ []

-- Returns the checks on the datagram, without the bytes after its total length: the header checksum is right, it is not
-- a fragment, and its protocol is translated (RFC 791 section 3.1).
abbrev pub header_checks : List ℕ → List (Bool × Cause)
header_checks bytes =
    (not (is_right (words (header 0 bytes))), BadChecksum)
    ∷ (has_more_fragments 0 bytes || not (fragment_offset 0 bytes == 0), Fragment)
    ∷ (not (is_known_protocol (protocol_number 0 bytes)), Unsupported) ∷ []

-- Returns the checks on an ICMP error: the checksum of the whole message (RFC 792), the quoted datagram and its ports.
abbrev pub error_checks : Side → List ℕ → List (Bool × Cause)
error_checks side bytes =
    (not (is_right (words (drop (transport_start 0 bytes) bytes))), BadChecksum)
    ∷ (has_bad_inner side (inner_datagram_start bytes) bytes, BadInner)
    ∷ (
      has_zero_port (form_at (inner_datagram_start bytes) bytes) (transport_start (inner_datagram_start bytes) bytes)
          bytes,
      BadPort,
    ) ∷ []

-- Returns the checks after the two on the transport header: those on an ICMP error, or those on the ports.
abbrev pub message_checks : TransportForm → Side → List ℕ → List (Bool × Cause)
message_checks Udp side bytes = (has_zero_port (form_at 0 bytes) (transport_start 0 bytes) bytes, BadPort) ∷ []
message_checks Tcp side bytes = (has_zero_port (form_at 0 bytes) (transport_start 0 bytes) bytes, BadPort) ∷ []
message_checks Error side bytes = error_checks side bytes
message_checks _ side bytes = []

-- Returns the checks on the transport header, on the type of an ICMP message, and on the message.
abbrev pub body_checks : Side → List ℕ → List (Bool × Cause)
body_checks side bytes =
    (has_bad_transport (form_at 0 bytes) (drop (transport_start 0 bytes) bytes), BadHeader)
    ∷ (not (is_translated_message side (form_at 0 bytes) (byte_at (transport_start 0 bytes) bytes)), Unsupported)
    ∷ message_checks (form_at 0 bytes) side bytes

-- Returns the cause of the first check that fails, if any.
abbrev pub refusal : List (Bool × Cause) → Option Cause
refusal [] = None
refusal (check ∷ checks) = if check.0 then Some check.1 else refusal checks

-- Returns the datagram without the bytes after its total length.
abbrev pub datagram : List ℕ → List ℕ
datagram bytes = take (total_length 0 bytes) bytes

abbrev pub read_unless : Option Cause → List ℕ → Result (List ℕ) Cause
read_unless None packet = Ok packet
read_unless (Some cause) packet = Err cause

-- Returns the packet in the bytes that arrived from this side, or the cause for which it is dropped.
unfoldable pub reading : Side → List ℕ → Result (List ℕ) Cause
reading side bytes =
    read_unless (refusal (length_checks bytes ++ header_checks (datagram bytes) ++ body_checks side (datagram bytes)))
    (datagram bytes)

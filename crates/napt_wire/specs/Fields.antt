-- The fields of the datagram that begins at offset `at`: 0 for the packet itself, and `inner_datagram_start` for the
-- datagram that an ICMP error quotes. Layouts: RFC 791 and RFC 9293 (section 3.1), RFC 768, RFC 792.
use Rattle.std.specs.Prelude.{ℕ, ◌+◌, ◌*◌, ◌/◌, ◌<◌, Bool, true, false, not, List, bit_and, Option, Some, None, ◌==◌, if◌then◌else◌}
use Rattle.napt_wire.specs.{Bytes.{byte_at, word_at, double_word_at}, declared.{Endpoint.Endpoint, Flags.Flags, Inner.Inner, Kind.Kind, Protocol.Protocol, Way.Way}}
use Rattle.napt_wire.specs.declared.{Way.TheVariants.{Outgoing, Incoming}, transport_form.{TransportForm.{TransportForm, TheVariants.{Udp, Tcp, Request, Reply, Error}}, DatagramEnd.DatagramEnd}}
use Rattle.napt_wire.specs.declared.transport_form.DatagramEnd.TheVariants.{Source, Destination}
use Rattle.napt_wire.specs.declared.Kind.TheVariants as kinds
use Rattle.napt_wire.specs.declared.Protocol.TheVariants as protocols

abbrev pub version : ℕ → List ℕ → ℕ
version at bytes = byte_at at bytes / 16

-- Returns the header length in bytes. The field IHL counts units of four bytes.
abbrev pub header_length : ℕ → List ℕ → ℕ
header_length at bytes = 4 * bit_and (byte_at at bytes) 15

abbrev pub total_length : ℕ → List ℕ → ℕ
total_length at bytes = word_at (at + 2) bytes

-- Returns the offset of the fragment in its datagram, in units of eight bytes.
abbrev pub fragment_offset : ℕ → List ℕ → ℕ
fragment_offset at bytes = bit_and (word_at (at + 6) bytes) 8191

-- Returns whether the flag MF is set, so that more fragments follow.
abbrev pub has_more_fragments : ℕ → List ℕ → Bool
has_more_fragments at bytes = not (bit_and (word_at (at + 6) bytes) 8192 == 0)

abbrev pub protocol_number : ℕ → List ℕ → ℕ
protocol_number at bytes = byte_at (at + 9) bytes

abbrev pub address_place : DatagramEnd → ℕ
address_place Source = 12
address_place Destination = 16

abbrev pub address : ℕ → DatagramEnd → List ℕ → ℕ
address at end bytes = double_word_at (at + address_place end) bytes

-- Returns the offset at which the transport header begins.
abbrev pub transport_start : ℕ → List ℕ → ℕ
transport_start at bytes = at + header_length at bytes

-- Returns the form of an ICMP message with this type (RFC 792): 8 is an echo request and 0 an echo reply.
abbrev pub icmp_form : ℕ → TransportForm
icmp_form type = if type == 8 then Request else (if type == 0 then Reply else Error)

unfoldable pub form_at : ℕ → List ℕ → TransportForm
form_at at bytes =
    if protocol_number at bytes == 17 then Udp
    else (if protocol_number at bytes == 6 then Tcp else icmp_form (byte_at (transport_start at bytes) bytes))

-- Returns the offset in the transport header of an end's number, which is a port or an identifier, if the end has one.
-- The identifier of an echo belongs to the host that sent the request.
abbrev pub number_place : TransportForm → DatagramEnd → Option ℕ
number_place Udp Source = Some 0
number_place Udp Destination = Some 2
number_place Tcp Source = Some 0
number_place Tcp Destination = Some 2
number_place Request Source = Some 4
number_place Reply Destination = Some 4
number_place _ _ = None

-- Returns the number at an offset after `start`, or 0 if there is no offset.
abbrev pub number_at : ℕ → Option ℕ → List ℕ → ℕ
number_at start None bytes = 0
number_at start (Some place) bytes = word_at (start + place) bytes

-- Returns the endpoint at one end of the datagram that begins at `at`.
abbrev pub end_at : ℕ → DatagramEnd → List ℕ → Endpoint
end_at at end bytes = record {
  address = address at end bytes;
  number = number_at (transport_start at bytes) (number_place (form_at at bytes) end) bytes;
}

unfoldable pub source : List ℕ → Endpoint
source bytes = end_at 0 Source bytes

unfoldable pub destination : List ℕ → Endpoint
destination bytes = end_at 0 Destination bytes

-- Returns the control bits FIN, SYN, RST and ACK of a TCP header (RFC 9293 section 3.1).
abbrev pub flags_of : ℕ → Flags
flags_of bits = record {
  fin = not (bit_and bits 1 == 0);
  syn = not (bit_and bits 2 == 0);
  rst = not (bit_and bits 4 == 0);
  ack = not (bit_and bits 16 == 0);
}

unfoldable pub flags : List ℕ → Flags
flags bytes = flags_of (byte_at (transport_start 0 bytes + 13) bytes)

-- Returns the offset at which the datagram that an ICMP error quotes begins.
abbrev pub inner_datagram_start : List ℕ → ℕ
inner_datagram_start bytes = transport_start 0 bytes + 8

abbrev pub protocol_of : TransportForm → Protocol
protocol_of Udp = protocols.Udp
protocol_of Tcp = protocols.Tcp
protocol_of _ = protocols.Icmp

-- Returns the protocol and both ends of the datagram that begins at `at`.
abbrev pub inner_of : ℕ → List ℕ → Inner
inner_of at bytes = record {
  protocol = protocol_of (form_at at bytes);
  source = end_at at Source bytes;
  destination = end_at at Destination bytes;
}

unfoldable pub inner : List ℕ → Inner
inner bytes = inner_of (inner_datagram_start bytes) bytes

-- Returns the kind of a packet whose transport header has this form.
abbrev pub kind_of : TransportForm → List ℕ → Kind
kind_of Udp bytes = kinds.Udp
kind_of Tcp bytes = kinds.Tcp (flags bytes)
kind_of Error bytes = kinds.ErrorOf (inner bytes)
kind_of _ bytes = kinds.Echo

unfoldable pub kind : List ℕ → Kind
kind bytes = kind_of (form_at 0 bytes) bytes

-- Returns the end of a packet that is inside: the source of an outgoing one, the destination of an incoming one. For an
-- ICMP error it is the quoted datagram's destination if outgoing, and its source if incoming.
abbrev pub local_of : Kind → Way → List ℕ → Endpoint
local_of (kinds.ErrorOf inner) Outgoing bytes = inner.destination
local_of (kinds.ErrorOf inner) Incoming bytes = inner.source
local_of _ Outgoing bytes = source bytes
local_of _ Incoming bytes = destination bytes

abbrev pub opposite : Way → Way
opposite Outgoing = Incoming
opposite Incoming = Outgoing

unfoldable pub local_end : Way → List ℕ → Endpoint
local_end way bytes = local_of (kind bytes) way bytes

-- Returns the end of a packet that is outside, which is the other end.
unfoldable pub remote_end : Way → List ℕ → Endpoint
remote_end way bytes = local_of (kind bytes) (opposite way) bytes

-- A datagram of this protocol that an error quotes can carry this number: the ports of UDP and TCP are not 0.
abbrev pub CanQuote : Protocol → ℕ → Type 0
CanQuote protocols.Icmp number = Unit {0}
CanQuote _ number = 0 < number

-- Returns whether a packet of this kind is an ICMP error.
abbrev pub is_error : Kind → Bool
is_error (kinds.ErrorOf inner) = true
is_error _ = false

-- A packet of this kind can carry this number. The ports of UDP and TCP are not 0, also in a quoted datagram.
abbrev pub CanCarry : Kind → ℕ → Type 0
CanCarry kinds.Echo number = Unit {0}
CanCarry (kinds.ErrorOf inner) number = CanQuote inner.protocol number
CanCarry _ number = 0 < number

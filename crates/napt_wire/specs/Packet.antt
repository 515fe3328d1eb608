-- The fields of a `Packet`, which are found in its bytes once.
use Rattle.std.specs.Prelude.{◌≡◌, ℕ, List, Ok}
use Rattle.napt_wire.specs.{Fields.{transport_start, form_at, flags, inner_datagram_start}, Reading.reading, declared.{Side.Side, transport_form.TransportForm.TransportForm}}
use Rattle.napt_wire.specs.declared.{transport_form.TransportForm.TheVariants.{Udp, Tcp, Request, Reply, Error}, packet.{Body.Body, QuotedHeader.QuotedHeader}}
use Rattle.napt_wire.specs.declared.packet.Body.TheVariants as bodies

-- The bytes are a packet: on arrival from one of the two sides, reading returns them unchanged.
abbrev pub IsPacket : List ℕ → Type 0
IsPacket bytes = (side : Side) × (reading side bytes ≡ Ok bytes)

-- Returns the form and the offset of the transport header that an ICMP error quotes.
abbrev pub quoted_of : List ℕ → QuotedHeader
quoted_of bytes = record {
  form = form_at (inner_datagram_start bytes) bytes;
  start = transport_start (inner_datagram_start bytes) bytes;
}

-- Returns the body of a packet whose transport header has this form.
abbrev pub body_of : TransportForm → List ℕ → Body
body_of Udp bytes = bodies.Udp
body_of Tcp bytes = bodies.Tcp (flags bytes)
body_of Request bytes = bodies.Request
body_of Reply bytes = bodies.Reply
body_of Error bytes = bodies.Error (quoted_of bytes)

-- Returns the form of the transport header of a body.
abbrev pub form_of : Body → TransportForm
form_of bodies.Udp = Udp
form_of (bodies.Tcp flags) = Tcp
form_of bodies.Request = Request
form_of bodies.Reply = Reply
form_of (bodies.Error quoted) = Error

-- The stored offset of the transport header and the stored body are those of the datagram in the bytes.
pub record BodyIsFound (bytes : List ℕ) (start : ℕ) (body : Body) : Type 0 where
  pub start_is : start ≡ transport_start 0 bytes
  pub body_is : body ≡ body_of (form_at 0 bytes) bytes

-- The invariant of a `Packet`: its bytes are a packet, and the stored offset and body agree with them.
pub record PacketInvariant (bytes : List ℕ) (start : ℕ) (body : Body) : Type 0 where
  pub reads : IsPacket bytes
  pub found : BodyIsFound bytes start body

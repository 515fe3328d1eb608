-- The object of a packet of a run in JSON (RFC 8259), with the end of its line. Its members are always in this order,
-- and a member that does not apply is null.
--
-- No text in it is escaped (RFC 8259, section 7), since each is a name that is listed here or in the report, or an
-- address in dotted decimal: plain ASCII without a quote, a backslash or a control character.
use Rattle.std.specs.{Prelude.{ℕ, max, Bool, true, false, List, [], ◌∷◌, ◌++◌, codes, decimal, Option, Some, None}, Result.result_ok}
use Rattle.napt_wire.specs.{Fields.{form_at, kind, source, destination}, Reading.reading, declared.{Inner.Inner, Kind.Kind, Protocol.Protocol, Side.Side}}
use Rattle.napt_wire.specs.declared.{Side.TheVariants.{Inside, Outside}, transport_form.TransportForm.TransportForm}
use Rattle.napt_wire.specs.declared.Kind.TheVariants as kinds
use Rattle.napt_wire.specs.declared.Protocol.TheVariants as protocols
use Rattle.napt_wire.specs.declared.transport_form.TransportForm.TheVariants as forms
use Rattle.napt_config.specs.Text.{address_text}
use Rattle.napt_rules.specs.{Prelude.Arrival, declared.Outcome.{Outcome, TheVariants.{ToOutside, ToInside, Dropped}}}
use Rattle.napt_records.specs.Report.{cause_name, protocol_name}
use Rattle.napt_account.specs.declared.binding_tally.LogNote.{LogNote, TheVariants.{Nothing, Made, Found, Redirect}}
use Rattle.napt_log_text.specs.{declared.json_object.{PacketEnds.PacketEnds, PacketNumbers.{PacketNumbers, TheVariants.{Ports, Identifier, Absent}}}, Times.TimeText}

-- JSON

abbrev pub null : TimeText
null = codes "null"

abbrev pub boolean : Bool → TimeText
boolean true = codes "true"
boolean false = codes "false"

unfoldable pub quoted : TimeText → TimeText
quoted text = codes "\"" ++ text ++ codes "\""

-- Returns the member with a name and a value.
abbrev pub json_member : TimeText → TimeText → TimeText
json_member name value = codes "\"" ++ name ++ codes "\":" ++ value

-- Returns members with commas between them.
abbrev pub members : List TimeText → TimeText
members [] = []
members (last ∷ []) = last
members (first ∷ (next ∷ more)) = first ++ (codes "," ++ members (next ∷ more))

-- Returns members with commas between them, and the end of their object.
abbrev pub closed : List TimeText → TimeText
closed [] = codes "}"
closed (last ∷ []) = last ++ codes "}"
closed (first ∷ (next ∷ more)) = first ++ (codes "," ++ closed (next ∷ more))

abbrev pub object : List TimeText → TimeText
object list = codes "{" ++ closed list

-- ENDPOINTS

-- UDP and TCP have ports, an echo message has an identifier, and an ICMP error has no number of its own.
abbrev pub packet_numbers : Kind → PacketNumbers
packet_numbers kinds.Udp = Ports
packet_numbers (kinds.Tcp flags) = Ports
packet_numbers kinds.Echo = Identifier
packet_numbers (kinds.ErrorOf inner) = Absent

-- An ICMP error does not quote an error: the only ICMP messages that it quotes are echo messages (RFC 5508).
abbrev pub numbers_in : Protocol → PacketNumbers
numbers_in protocols.Icmp = Identifier
numbers_in protocols.Tcp = Ports
numbers_in protocols.Udp = Ports

abbrev pub ends_of : List ℕ → PacketEnds
ends_of packet = record {
  source = source packet;
  destination = destination packet;
  numbers = packet_numbers (kind packet);
}

abbrev pub ends_in : Inner → PacketEnds
ends_in inner = record {
  source = inner.source;
  destination = inner.destination;
  numbers = numbers_in inner.protocol;
}

abbrev pub port_text : PacketNumbers → ℕ → TimeText
port_text Ports number = decimal number
port_text Identifier number = null
port_text Absent number = null

-- The end that did not send the request has the number 0.
abbrev pub identifier_text : PacketNumbers → ℕ → ℕ → TimeText
identifier_text Ports one other = null
identifier_text Identifier one other = decimal (max one other)
identifier_text Absent one other = null

unfoldable pub end_members : PacketEnds → TimeText
end_members ends = members (
    json_member (codes "source") (quoted (address_text ends.source.address))
    ∷ json_member (codes "source_port") (port_text ends.numbers ends.source.number)
    ∷ json_member (codes "destination") (quoted (address_text ends.destination.address))
    ∷ json_member (codes "destination_port") (port_text ends.numbers ends.destination.number)
    ∷ json_member (codes "identifier") (identifier_text ends.numbers ends.source.number ends.destination.number)
    ∷ [])

-- PACKETS

abbrev pub form_name : TransportForm → TimeText
form_name forms.Udp = codes "udp"
form_name forms.Tcp = codes "tcp"
form_name forms.Request = codes "icmp-echo-request"
form_name forms.Reply = codes "icmp-echo-reply"
form_name forms.Error = codes "icmp-error"

-- Returns the packet that an ICMP error quotes.
unfoldable pub quoted_object : Inner → TimeText
quoted_object inner =
    object (json_member (codes "protocol") (quoted (protocol_name inner.protocol)) ∷ end_members (ends_in inner) ∷ [])

abbrev pub about_text : Kind → TimeText
about_text kinds.Udp = null
about_text (kinds.Tcp flags) = null
about_text kinds.Echo = null
about_text (kinds.ErrorOf inner) = quoted_object inner

unfoldable pub packet_object : List ℕ → TimeText
packet_object packet = object (
    json_member (codes "kind") (quoted (form_name (form_at 0 packet)))
    ∷ end_members (ends_of packet)
    ∷ json_member (codes "about") (about_text (kind packet))
    ∷ [])

abbrev pub packet_or_null : Option (List ℕ) → TimeText
packet_or_null None = null
packet_or_null (Some packet) = packet_object packet

-- WHAT BECAME OF A PACKET

abbrev pub json_side_name : Side → TimeText
json_side_name Inside = codes "inside"
json_side_name Outside = codes "outside"

abbrev pub outcome_name : Outcome → TimeText
outcome_name (ToOutside packet) = codes "to-outside"
outcome_name (ToInside packet) = codes "to-inside"
outcome_name (Dropped cause) = codes "dropped"

abbrev pub cause_text : Outcome → TimeText
cause_text (ToOutside packet) = null
cause_text (ToInside packet) = null
cause_text (Dropped cause) = quoted (cause_name cause)

abbrev pub note_text : LogNote → TimeText
note_text Nothing = null
note_text Made = quoted (codes "made")
note_text Found = quoted (codes "found")
note_text Redirect = quoted (codes "redirect")

-- Returns the effect of a packet that left on the first binding that it used.
abbrev pub binding_text : Outcome → LogNote → TimeText
binding_text (ToOutside packet) note = note_text note
binding_text (ToInside packet) note = note_text note
binding_text (Dropped cause) note = null

-- Returns whether a packet came from the inside and goes back in (RFC 4787, REQ-9).
abbrev pub is_hairpin : Side → Outcome → Bool
is_hairpin Inside (ToInside packet) = true
is_hairpin Inside (ToOutside packet) = false
is_hairpin Inside (Dropped cause) = false
is_hairpin Outside outcome = false

unfoldable pub fate_members : Side → Outcome → LogNote → TimeText
fate_members side outcome note = members (
    json_member (codes "side") (quoted (json_side_name side))
    ∷ json_member (codes "outcome") (quoted (outcome_name outcome))
    ∷ json_member (codes "cause") (cause_text outcome)
    ∷ json_member (codes "binding") (binding_text outcome note)
    ∷ json_member (codes "hairpin") (boolean (is_hairpin side outcome))
    ∷ [])

-- Returns the packet of an input, if its bytes can be read as one.
abbrev pub arrival_member : Arrival → Option (List ℕ)
arrival_member input = result_ok (reading input.side input.bytes)

-- Returns the packet that leaves.
abbrev pub packet_sent : Outcome → Option (List ℕ)
packet_sent (ToOutside packet) = Some packet
packet_sent (ToInside packet) = Some packet
packet_sent (Dropped cause) = None

-- Returns the object of a packet: its time in ns since 1970-01-01 UTC, and the packet as it arrived and as it leaves.
unfoldable pub object_of : ℕ → Arrival → Outcome → LogNote → TimeText
object_of number input outcome note = object (
    json_member (codes "number") (decimal number)
    ∷ json_member (codes "time") (decimal input.time)
    ∷ fate_members input.side outcome note
    ∷ json_member (codes "before") (packet_or_null (arrival_member input))
    ∷ json_member (codes "after") (packet_or_null (packet_sent outcome))
    ∷ [])

abbrev pub object_text : ℕ → Arrival → Outcome → LogNote → TimeText
object_text number input outcome note = object_of number input outcome note ++ codes "\n"

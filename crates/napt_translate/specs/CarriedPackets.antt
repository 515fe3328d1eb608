-- The protocol of a packet's binding: that of its header, or none for an ICMP error.
use Rattle.std.specs.Prelude.{Option, Some, None}
use Rattle.napt_wire.specs.declared.{Kind.Kind, Protocol.{Protocol, TheVariants.{Icmp, Tcp, Udp}}}
use Rattle.napt_wire.specs.declared.Kind.TheVariants as kinds

abbrev pub packet_carried : Kind → Option Protocol
packet_carried kinds.Udp = Some Udp
packet_carried (kinds.Tcp flags) = Some Tcp
packet_carried kinds.Echo = Some Icmp
packet_carried (kinds.ErrorOf inner) = None

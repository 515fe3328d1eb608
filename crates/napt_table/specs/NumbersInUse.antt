-- The external numbers in use, one set for each protocol.
use Rattle.std.specs.Prelude.{◌≡◌, Bool}
use Rattle.napt_wire.specs.declared.Protocol.{Protocol, TheVariants.{Icmp, Tcp, Udp}}
use Rattle.napt_table.specs.{Places.{UsedPlaces, is_used}, declared.bindings.{keys.ExternalNumberKey.ExternalNumberKey, numbers_in_use.NumbersInUse.NumbersInUse}}

abbrev pub numbers_of : NumbersInUse → Protocol → UsedPlaces
numbers_of numbers Icmp = numbers.icmp
numbers_of numbers Tcp = numbers.tcp
numbers_of numbers Udp = numbers.udp

abbrev pub is_in_use : NumbersInUse → ExternalNumberKey → Bool
is_in_use numbers key = is_used (numbers_of numbers key.protocol) key.number

pub record AreByProtocol (numbers : NumbersInUse) : Type 0 where
  pub icmp_is : numbers.icmp.protocol ≡ Icmp
  pub tcp_is : numbers.tcp.protocol ≡ Tcp
  pub udp_is : numbers.udp.protocol ≡ Udp

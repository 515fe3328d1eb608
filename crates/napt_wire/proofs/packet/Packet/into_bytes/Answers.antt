-- into_bytes: a packet has fewer than 2 ^ 16 bytes.
use Rattle.std.proofs.Common.{rules}
use Rattle.napt_wire.proofs.PacketNumbers.{length-packet}
use Rattle.napt_wire.proofs.packet.Packet.into_bytes.Goals as goal

pub returns-clause-short : goal.returns-clause-short
returns-clause-short c = let h = length-packet c.self.inside.bytes.items c.self.invariant.reads in search (rules, h)

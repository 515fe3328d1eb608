-- bytes_of: a packet has fewer than 2 ^ 16 bytes.
use Rattle.std.proofs.Common.{rules, sym, subst}
use Rattle.napt_wire.{specs.Packet.IsPacket, proofs.PacketNumbers.length-packet}
use Rattle.napt_run.proofs.outcome_writer.bytes_of.Goals as goal

pub returns-clause-short : goal.returns-clause-short
returns-clause-short c =
    let h = length-packet c.bytes-bytes.result.now
    (subst IsPacket (sym c.bytes-bytes.ensures.value) c.bytes-bytes.ensures.reads) in
    search (rules, h)

-- packets_carry_numbers: the packet that was read reads as itself, so its source number can be carried.
use Rattle.napt_wire.proofs.{PacketNumbers.source-carried, ReadingChecks.reads_again}
use Rattle.napt_wire.proofs.laws.packets_carry_numbers.Goals as goal

pub returns : goal.returns
returns c = λ side bytes packet reads plain. source-carried side packet (reads_again side bytes packet reads) plain

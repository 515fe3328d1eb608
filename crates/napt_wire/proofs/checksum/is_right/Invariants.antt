-- is_right: the sum that the loop has added and the remaining words are the whole sum, modulo 65535.
use Rattle.std.proofs.Common.{◌≡◌, ◌≤◌, length, sum, ◌+◌, ◌*◌, ◌%◌, ◌^◌}
use Rattle.napt_wire.specs.Bytes.{words}
use Rattle.napt_wire.proofs.checksum.is_right.Given as goal

-- The sum so far and the words of the rest are congruent to the whole sum, and the rest fits into 64 bits.
abbrev pub invariant-loop-rest : goal.invariant-loop-rest
invariant-loop-rest l = record {
  value : (l.sum + sum (words l.rest)) % 65535 ≡ sum (words l.fn.bytes) % 65535;
  room : l.sum + 2 ^ 32 * length l.rest ≤ 2 ^ 32 * 65535;
}

abbrev pub decreases-loop-rest : goal.decreases-loop-rest
decreases-loop-rest l = length l.rest

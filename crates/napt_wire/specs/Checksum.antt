-- Internet checksums as residues. A one's complement sum of 16-bit words (RFC 1071) is a sum modulo 65535, in which 0
-- and 0xFFFF are the same residue and -1 is 65534.
use Rattle.std.specs.Prelude.{ℕ, ◌+◌, ◌*◌, ◌%◌, Bool, List, sum, ◌==◌, if◌then◌else◌}

-- Returns the checksum after words that it covers are replaced (RFC 1624 equation 3, RFC 3022 section 4.2): the least
-- number that is congruent to `check + sum old - sum new` modulo 65535. It is therefore never 0xFFFF.
unfoldable pub canon : ℕ → List ℕ → List ℕ → ℕ
canon check old new = (check + sum old + 65534 * sum new) % 65535

-- Returns the same for UDP (RFC 768), where a field of 0 means that there is no checksum, and does not change. The
-- result is otherwise the congruent number in 1..=65535, because a checksum of 0 is sent as 0xFFFF.
unfoldable pub canon_udp : ℕ → List ℕ → List ℕ → ℕ
canon_udp check old new = if check == 0 then 0 else (if canon check old new == 0 then 65535 else canon check old new)

-- Returns whether the sum of the words that a checksum covers, including the checksum, is a multiple of 65535. Unless
-- all of them are 0, this is the one's complement sum 0xFFFF of RFC 1071.
abbrev pub is_right : List ℕ → Bool
is_right covered = sum covered % 65535 == 0

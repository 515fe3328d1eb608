-- Bytes, and the big-endian numbers in them. A byte past the end of the list reads as 0.
use Rattle.std.specs.Prelude.{ℕ, ◌+◌, ◌*◌, ◌/◌, ◌%◌, List, [], ◌∷◌, slice_index, slice_set}

abbrev pub byte_at : ℕ → List ℕ → ℕ
byte_at place bytes = slice_index bytes place

-- Returns the 16-bit number at an offset.
abbrev pub word_at : ℕ → List ℕ → ℕ
word_at place bytes = 256 * slice_index bytes place + slice_index bytes (place + 1)

-- Returns the 32-bit number at an offset.
abbrev pub double_word_at : ℕ → List ℕ → ℕ
double_word_at place bytes = 65536 * word_at place bytes + word_at (place + 2) bytes

-- Returns the bytes after a 16-bit number is written at an offset.
abbrev pub with_word_at : ℕ → ℕ → List ℕ → List ℕ
with_word_at place word bytes = slice_set (slice_set bytes place (word / 256)) (place + 1) (word % 256)

-- Returns the bytes as 16-bit words. An odd last byte is padded with a zero byte (RFC 1071 section 4.1).
abbrev pub words : List ℕ → List ℕ
words [] = []
words (high ∷ []) = 256 * high ∷ []
words (high ∷ low ∷ rest) = (256 * high + low) ∷ words rest

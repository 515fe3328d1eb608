-- The text of a log to which a run may append.
use Rattle.std.specs.{Prelude.{◌≡◌, ◌≢◌, ◌⊎◌, ◌<◌, ◌^◌, ◌-◌, ◌*◌, ◌%◌, ◌==◌, ◌&&◌, nat_eq, nat_lt, min, not, ℕ, Bool, List, [], ◌∷◌, ◌++◌, codes, decimal, drop, fold, length, slice_index, take, unwrap_or, Option, Some, None, if◌then◌else◌}, List.{last_or, list_any, slice_split, starts_with}, Int.Bits.bit_xor}
use Rattle.napt_log_text.specs.Rows.{csv_header}
use Rattle.napt_state.specs.declared.line.LogEnd.{LogEnd}
use Rattle.napt_program.specs.declared.{log_file.TheConstants.MOST_TORN, log_pieces.LogPieces.LogPieces, stop.{LogRefusal.LogRefusal, Stop.Stop, TheConstants.MEMORY}}
use Rattle.napt_program.specs.declared.role.FileRole.TheVariants as role
use Rattle.napt_program.specs.declared.stop.LogRefusal.TheVariants as refusal
use Rattle.napt_program.specs.declared.stop.Stop.TheVariants as stop

abbrev pub is_line_feed : ℕ → Bool
is_line_feed byte = byte == 10

-- The bytes after the last whole row are at most a partial row.
abbrev pub is_torn : List ℕ → Bool
is_torn end = nat_lt (length end) MOST_TORN && not (list_any is_line_feed end)

-- Returns the bytes after the last line feed.
abbrev pub last_row : List ℕ → List ℕ
last_row text = unwrap_or (last_or None (slice_split is_line_feed text)) text

-- Returns the FNV-1a hash of a row (Fowler, Noll and Vo), of 64 bits: for each byte the exclusive or, then the product.
abbrev pub row_hash : List ℕ → ℕ
row_hash row = fold (λ hash byte. (bit_xor hash byte * 1099511628211) % 2 ^ 64) 14695981039346656037 row

-- The text ends with a row that has this hash, and its line feed.
abbrev pub is_last_row : ℕ → List ℕ → Bool
is_last_row hash text =
    nat_lt 0 (length text) && (is_line_feed (slice_index text (length text - 1))
    && (row_hash (last_row (take (length text - 1) text)) == hash))

-- Returns the number of bytes before a place that are looked at.
abbrev pub bytes_before : ℕ → ℕ
bytes_before place = min place MOST_TORN

-- Returns why a run must not append to a log, if it must not. The state records the length and the last row of the log.
-- The list contains the bytes around that length: that row must be before it, and at most a partial row after it.
abbrev pub refusal_at : LogEnd → List ℕ → Option LogRefusal
refusal_at told text =
    let before : ℕ = bytes_before told.length in
    if nat_lt (length text) before then Some (refusal.OtherLog told.length)
    else (if not (is_last_row told.row (take before text)) then Some (refusal.OtherLog told.length)
    else (if is_torn (drop before text) then None else Some (refusal.ExtraText told.length)))

-- Returns the name of the piece with a number: the path of the log, a dot and the number.
abbrev pub piece_name : List ℕ → ℕ → List ℕ
piece_name log number = log ++ (codes "." ++ decimal number)

-- No piece of the log has this name.
abbrev pub IsNoPieceName : List ℕ → List ℕ → Type 0
IsNoPieceName log name = (number : ℕ) → 0 < number → number < 2 ^ 64 → name ≢ piece_name log number

-- Returns the number of the piece that is being written.
abbrev pub piece_of : {R F A : Type 0} → LogPieces R F A → ℕ
piece_of pieces = pieces.number

-- The bytes begin a new piece: they begin with the header, and the piece that is being written has text.
abbrev pub needs_new_piece : {R F A : Type 0} → LogPieces R F A → List ℕ → Bool
needs_new_piece pieces bytes = pieces.has_text && starts_with nat_eq bytes csv_header

-- The number of bytes of the text that are retained is 0, or that of the log of the state in one file.
abbrev pub LogTextIsKept : Option LogEnd → ℕ → Type 0
LogTextIsKept None kept = kept ≡ 0
LogTextIsKept (Some end) kept = (kept ≡ 0) ⊎ ((end.piece ≡ 0) × (end.length ≡ kept))

-- The text is refused, it could not be read, or memory was refused.
abbrev pub IsLogStop : Stop → Type 0
IsLogStop (stop.LogFile why) = Unit {0}
IsLogStop (stop.File role.Log) = Unit {0}
IsLogStop (stop.Run fault) = stop.Run fault ≡ MEMORY
IsLogStop other = ⊥

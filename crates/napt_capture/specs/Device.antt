-- The number of calls of a device that failed, by their results.
use Rattle.std.specs.Prelude.{ℕ, List, length, Result, Ok, Err, ◌&&◌, ◌==◌, nat_lt, if◌then◌else◌}

-- 1 if the call returned an error, else 0.
abbrev pub failed_calls : {T E : Type 0} → Result T E → ℕ
failed_calls (Ok _) = 0
failed_calls (Err _) = 1

-- 1 if the write returned an error, or wrote none of a non-empty buffer, else 0.
abbrev pub failed_writes : {E : Type 0} → Result ℕ E → List ℕ → ℕ
failed_writes (Ok n) bytes = if n == 0 && nat_lt 0 (length bytes) then 1 else 0
failed_writes (Err _) bytes = 1

-- What contracts see of a watched device.
use Rattle.std.specs.Prelude.{ℕ, Bool, length}
use Rattle.napt_capture.specs.declared.watched.Watched.{Watched}

-- The underlying device.
abbrev pub device_of : {D : Type 0} → Watched D → D
device_of w = w.device

-- The number of calls that failed.
abbrev pub failed_of : {D : Type 0} → Watched D → ℕ
failed_of w = length w.failures.items

-- Whether a flush succeeded and no write was attempted since.
abbrev pub flushed_of : {D : Type 0} → Watched D → Bool
flushed_of w = w.flushed

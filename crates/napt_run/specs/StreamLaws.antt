-- A run that succeeds writes the same, whether its captures are read as they arrive or whole.
use Rattle.std.specs.Prelude.{◌≡◌, ℕ, List, Option, Some, Ok}
use Rattle.napt_run.specs.Origins.{OriginModel}
use Rattle.napt_records.specs.declared.Which.TheVariants.{Outside, Inside, Report}
use Rattle.napt_run.specs.{Captures.{GetsFrom, whole}, Files.files_until, Posts.{OutputPost, capture_to}, Streams.Reports}

-- An output has the same text after `run_captures` and `run_streams` over the same bytes.
abbrev pub OutputsAreTheSame : Type 0
OutputsAreTheSame = (origin : OriginModel) (inside outside : List ℕ) (old : List ℕ) (new other : Option (List ℕ)) →
    (GetsFrom origin Outside whole (Some inside) (Some outside) (Some old) new →
    OutputPost (capture_to Outside origin) Outside (Ok tt) (files_until inside outside) (Some old) other →
    other ≡ new)
    × (GetsFrom origin Inside whole (Some inside) (Some outside) (Some old) new →
    OutputPost (capture_to Inside origin) Inside (Ok tt) (files_until inside outside) (Some old) other →
    other ≡ new)

-- The report is the same after both.
abbrev pub ReportsAreTheSame : Type 0
ReportsAreTheSame = (origin : OriginModel) (inside outside : List ℕ) (old : List ℕ) (new other : Option (List ℕ)) →
    GetsFrom origin Report whole (Some inside) (Some outside) (Some old) new →
    Reports origin (Ok tt) (Some inside) (Some outside) (Some old) other → other ≡ new

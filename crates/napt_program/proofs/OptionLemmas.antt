-- One more option is added to the command.
use native.Mathlib.Omega.{arith}
use Rattle.std.proofs.{lemmas.{Grind.common_steps, Bool.Decides.nat_tests}, Common.{◌≡◌, ◌<◌, ◌+◌, ℕ, List, map, drop, length, get_or, add-one, drop-cons}}
use Rattle.clap.specs.Words.{App, Text, with_rule}
use Rattle.napt_program.specs.CommandLine.{file_option, napt_app, with_options}

pub option_added : {X : Type 0} (name : X → Text) (xs : List X) (i : ℕ) (d : X) (old new : App) → i < length xs
    → with_options old (map name (drop i xs)) ≡ napt_app → new ≡ with_rule old (file_option (name (get_or xs i d)))
    → with_options new (map name (drop (i + 1) xs)) ≡ napt_app
option_added name xs i d old new below left added = grind (arith, common_steps, nat_tests, add-one, drop-cons)

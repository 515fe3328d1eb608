-- Calls of an output.
use native.Mathlib.Omega.{arith}
use Rattle.std.{proofs.{lemmas.{Grind.common_steps, Bool.Decides.nat_tests}, Common.{ℕ, List, [], Option, append-nil}}, specs.Io.KnownBytes.{Appends, Keeps}}

pub keeps_as_none : (old new : Option (List ℕ)) → Keeps old new → Appends old new []
keeps_as_none old new kept = grind (arith, common_steps, nat_tests, append-nil)

-- Lemmas about properties of results.
use native.Mathlib.Omega.{arith}
use Rattle.std.{proofs.{lemmas.{Grind.common_steps, Bool.Decides.nat_tests}, Common.{Result, IfOk}}, specs.Prelude.OnOk}

pub if_both : {X E : Type 0} (P R : X → Type 0) (Q : Type 0) (r : Result X E) → ((x : X) → P x → Q → R x) →
    IfOk r P → OnOk r Q → IfOk r R
if_both P R Q r f h g = grind (arith, common_steps, nat_tests)

pub if_ok : {X E : Type 0} (P R : X → Type 0) (r : Result X E) → ((x : X) → P x → R x) → IfOk r P → IfOk r R
if_ok P R r f h = grind (arith, common_steps, nat_tests)

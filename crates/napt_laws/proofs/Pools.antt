-- The pool has the address at the place that is found for it.
use Rattle.std.proofs.Common.{◌≡◌, ℕ, ◌==◌, List, Option, Some, None, IfOk, ok_or, slice_get, ◌∙◌, ap, refl, ◌<◌, true, false, length, get_or, position, eqb-true}
use Rattle.std.proofs.lemmas.{Option.slice_get-get_or, List.Quantifiers.position-Some}
use Rattle.napt_wire.specs.declared.Cause.{Cause}

pub stands_at : (pool : List ℕ) (address place : ℕ) → position (λ other. other == address) pool ≡ Some place →
    slice_get pool place ≡ Some address
stands_at pool address place is =
    let p : (place < length pool) × ((get_or pool place 0 == address) ≡ true) × ((k : ℕ) → k < place →
    (get_or pool k 0 == address) ≡ false) = position-Some (λ other. other == address) pool place 0 is in
    slice_get-get_or pool place 0 p.0 ∙ ap Some (eqb-true (get_or pool place 0) address p.1)

at_found : (pool : List ℕ) (address : ℕ) (cause : Cause) (found : Option ℕ) → position (λ other. other == address) pool
    ≡ found → IfOk (ok_or found cause) (λ place. slice_get pool place ≡ Some address)
at_found pool address cause None at = tt
at_found pool address cause (Some place) at = stands_at pool address place at

pub place_has : (pool : List ℕ) (address : ℕ) (cause : Cause) →
    IfOk (ok_or (position (λ other. other == address) pool) cause) (λ place. slice_get pool place ≡ Some address)
place_has pool address cause = at_found pool address cause (position (λ other. other == address) pool) refl

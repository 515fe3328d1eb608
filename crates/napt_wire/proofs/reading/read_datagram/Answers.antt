-- read_datagram: the first step that fails gives the cause of the definition, and otherwise all checks pass.
use Rattle.std.proofs.{Common.{arith, None, Some, refl, sym}, lemmas.{Grind.common_steps, Bool.Decides.nat_tests, Result.err_from_is_err_and}}
use Rattle.napt_wire.proofs.ReadingChecks.{reading_by}
use Rattle.napt_wire.proofs.reading.read_datagram.Goals as goal

pub returns-in_err-length-clause-cause : goal.returns-in_err-length-clause-cause
returns-in_err-length-clause-cause c =
    let p = err_from_is_err_and c.from_residual.result c.from_residual.ensures.1 in
    rw (p.1, p.2) (reading_by _ _ (Some _) _ _ (sym c.in_err-length.ensures.checks) refl refl)

pub returns-in_err-start-clause-cause : goal.returns-in_err-start-clause-cause
returns-in_err-start-clause-cause c = grind (arith, common_steps, nat_tests, err_from_is_err_and, reading_by)

pub returns-in_err-body-clause-cause : goal.returns-in_err-body-clause-cause
returns-in_err-body-clause-cause c =
    let p = err_from_is_err_and c.from_residual-in_err-body.result c.from_residual-in_err-body.ensures.1 in
    rw (p.1, p.2)
    (reading_by _ _ None None (Some _) (sym c.in_ok-length.ensures.checks)
    (rw (← c.in_ok-length.ensures.length) (sym c.in_ok-start.ensures.checks))
    (rw (← c.in_ok-length.ensures.length) (sym c.in_err-body.ensures.checks)))

pub returns-clause-ok : goal.returns-clause-ok
returns-clause-ok c = grind (arith, common_steps, nat_tests, reading_by)

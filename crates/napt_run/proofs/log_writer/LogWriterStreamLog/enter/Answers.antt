-- enter: the rows of one more trace are written; an input without rows writes nothing.
use Rattle.std.proofs.{Common.{[], sym, ◌∙◌, eqb-true}, lemmas.{List.nil_from_length, Result.err_from_is_err_and}}
use Rattle.napt_sequential.specs.declared.passage.Trace.{Trace}
use Rattle.napt_run.{specs.OutcomeWriterLaws.grows_none, proofs.InputRowWrites.{enter_failed, enter_written}}
use Rattle.napt_run.proofs.log_writer.LogWriterStreamLog.enter.Goals as goal

pub returns-in_err-text-clause-enters : goal.returns-in_err-text-clause-enters
returns-in_err-text-clause-enters g c =
    let trace : Trace = record { now = c.args.now; first = c.args.first; second = c.args.second } in
    let p = err_from_is_err_and c.from_residual.result c.from_residual.ensures.1 in
    rw (p.1, p.2) (λ from before at. enter_failed from before c.args.self.now trace c.in_err-text.field-0.0
    c.rows.new.self (c.in_err-text.ensures.rows from before at))

pub returns-then-is_empty-clause-enters : goal.returns-then-is_empty-clause-enters
returns-then-is_empty-clause-enters g c from before at =
    let none = nil_from_length c.as_bytes-rows.result.now
    (eqb-true _ 0 (sym c.is_empty.ensures ∙ c.if-is_empty.true)) in
    enter_written from before c.args.self.now
    (record { now = c.args.now; first = c.args.first; second = c.args.second }) c.rows.new.self c.rows.new.self.output _
    [] at (c.in_ok-text.ensures.rows from before at) (sym none ∙ c.as_bytes-rows.ensures.value)
    (grows_none c.rows.new.self.output)

pub returns-in-Ok-clause-enters : goal.returns-in-Ok-clause-enters
returns-in-Ok-clause-enters g c from before at =
    enter_written from before c.args.self.now
    (record { now = c.args.now; first = c.args.first; second = c.args.second }) c.rows.new.self c.write_text.new.self _
    c.as_bytes-rows.result.now at (c.in_ok-text.ensures.rows from before at) c.as_bytes-rows.ensures.value
    c.in-Ok.ensures.ok

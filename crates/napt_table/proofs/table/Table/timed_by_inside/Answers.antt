-- `timed_by_inside`: the row and the end are those of the endpoint's live binding, whatever the likely number.
use Rattle.std.proofs.Common.{sym, ◌∙◌}
use Rattle.napt_laws.proofs.Endpoints.{end_is}
use Rattle.napt_table.proofs.TableSteps.{timed_inside, timed_likely}
use Rattle.napt_table.proofs.table.Table.timed_by_inside.Goals as goal

pub returns-then-eq : goal.returns-then-eq
returns-then-eq c = timed_likely c.args.self.now c.timed_by_number.ensures.kept c.args.now c.args.protocol
    c.args.inside c.args.likely c.in-Some.found c.in-Some.ensures.answer
    (end_is c.in-Some.found.row.inside c.args.inside (sym c.eq.ensures ∙ c.if-eq.true))

pub returns : goal.returns
returns c = c.timed_by_number-2.ensures.answer
    ∙ timed_inside c.args.self.now c.in_ok-number.ensures.kept c.args.now c.args.protocol c.args.inside
    c.in_ok-number.number c.in_ok-number.ensures.answer

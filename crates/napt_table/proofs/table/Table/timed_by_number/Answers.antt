-- `timed_by_number`: the row and the end are those of the list's live binding with the number.
use Rattle.std.proofs.Common.{◌≤◌, ◌∙◌, sym, subst}
use Rattle.napt_table.{specs.Tables.TableModel, proofs.TableSteps.timed_number}
use Rattle.napt_table.proofs.table.Table.timed_by_number.Goals as goal

pub returns-clause-answer : goal.returns-clause-answer
returns-clause-answer c =
    let t = c.self.inside in
    let le : t.bindings.at ≤ c.args.now =
    subst (λ (s : TableModel). s.at ≤ c.args.now) (sym c.self.view_is) c.requires.later in
    rw (← c.self.view_is) (c.timed.ensures ∙ timed_number t c.self.invariant c.args.now le c.args.protocol
    c.args.number)

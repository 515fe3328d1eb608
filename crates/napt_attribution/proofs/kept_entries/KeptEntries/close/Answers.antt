-- close: the entry of a number that has no end gets one, and its place does not change if requests ask about it.
use Rattle.std.proofs.Common.{sym, ◌∙◌}
use Rattle.napt_attribution.proofs.KeptEntries.{closed_told, closed_untold, found_open}
use Rattle.napt_attribution.proofs.kept_entries.KeptEntries.close.Goals as goal

pub returns-in_ok-insert : goal.returns-in_ok-insert
returns-in_ok-insert c = λ asked entries keeps some.
    let found = found_open _ _ (sym (keeps.unended c.args.number) ∙ sym c.in-Some.ensures.value) in
    closed_told asked _ _ _ entries c.args.number c.args.end _ found.0 c.remove.ensures.updates.0 _ _ keeps
    (sym (c.contains.ensures ∙ keeps.wanted _) ∙ c.if-contains.true) c.in_ok-insert.ensures.updates.0

pub returns-else-contains : goal.returns-else-contains
returns-else-contains c = λ asked entries keeps some.
    let found = found_open _ _ (sym (keeps.unended c.args.number) ∙ sym c.in-Some.ensures.value) in
    closed_untold asked _ _ _ entries c.args.number c.args.end _ found.0 c.remove.ensures.updates.0 _ keeps found.1
    (sym (c.contains.ensures ∙ keeps.wanted _) ∙ c.if-contains.false)

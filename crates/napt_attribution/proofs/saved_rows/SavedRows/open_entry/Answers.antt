-- open_entry: the result is the open entry of the number, with the time when it was made.
use Rattle.std.proofs.{Common.{◌≡◌, ◌∙◌, rules, arith}, lemmas.Grind.common_steps}
use Rattle.napt_attribution.proofs.SavedRows.{is_open, number_of}
use Rattle.napt_attribution.proofs.saved_rows.SavedRows.open_entry.Goals as goal

pub returns-then-eq : goal.returns-then-eq
returns-then-eq c = λ asked entries listed keeps number binding.
    let field : c.in-Number.number ≡ listed.number = let at = c.in-Number.is in cc in
    let same : c.in-Ok.number ≡ listed.number = grind (arith, common_steps) in
    let found = c.in_ok-entry.ensures asked entries keeps.kept in
    let is : c.in_ok-entry.entry.now.binding ≡ c.args.binding = search rules in
    (same, is_open entries listed c.in-Ok.number c.in_ok-entry.entry.now same found (is ∙ binding))

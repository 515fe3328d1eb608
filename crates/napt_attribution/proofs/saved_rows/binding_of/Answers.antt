-- binding_of: the fields of a row that was written give the binding of its event.
use Rattle.napt_attribution.proofs.saved_rows.binding_of.Goals as goal

pub returns-in-Ok : goal.returns-in-Ok
returns-in-Ok c = λ time event listed is. let same = c.in-Ok.ensures time event listed is in cc

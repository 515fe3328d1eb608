-- push: the entries are those before and the new one.
use Rattle.std.proofs.lemmas.List.Sorted.{IsPermutation-map}
use Rattle.napt_collections.proofs.due.Due.push.Goals as goal

pub returns-clause-entries : goal.returns-clause-entries
returns-clause-entries g c = rw (← c.self.view_is) (IsPermutation-map (λ e. e.0) _ _ c.in-Ok.ensures.permutation)

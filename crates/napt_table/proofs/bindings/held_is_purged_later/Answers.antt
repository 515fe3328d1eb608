-- `held_is_purged_later`: the stored bindings agree with the purged list at each later time.
use Rattle.napt_table.proofs.SeenBindings.{shows_later}
use Rattle.napt_table.proofs.bindings.held_is_purged_later.Goals as goal

pub returns : goal.returns
returns c = shows_later

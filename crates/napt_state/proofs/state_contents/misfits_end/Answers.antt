-- misfits_end: the bindings that fit continue, the configuration accepts them, and the entries of the others end at
-- the clock.
use Rattle.napt_state.proofs.EndedBindings.{misfits_end}
use Rattle.napt_state.proofs.state_contents.misfits_end.Goals as goal

pub returns : goal.returns
returns c = misfits_end

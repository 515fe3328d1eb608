-- ended_bindings_stay_ended: the law.
use Rattle.napt_state.proofs.RestoredBindings.{stays_ended}
use Rattle.napt_state.proofs.state_contents.ended_bindings_stay_ended.Goals as goal

pub returns : goal.returns
returns c = stays_ended

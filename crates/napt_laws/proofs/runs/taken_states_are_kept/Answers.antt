-- `taken_states_are_kept`: runs from a state that a configuration accepts are sound, in blocks and within bounds.
use Rattle.napt_laws.proofs.{TakenStates.{taken_sound, taken_blocks, taken_quota}, OwnBindings.taken_own}
use Rattle.napt_laws.proofs.runs.taken_states_are_kept.Goals as goal

pub returns-clause-sound : goal.returns-clause-sound
returns-clause-sound c = taken_sound c.packets_carry_numbers.ensures

pub returns-clause-blocks : goal.returns-clause-blocks
returns-clause-blocks c = taken_blocks

pub returns-clause-quota : goal.returns-clause-quota
returns-clause-quota c = taken_quota

pub returns-clause-own : goal.returns-clause-own
returns-clause-own c = taken_own

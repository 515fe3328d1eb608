-- effects_are_the_log: the two laws, of which the second uses that the states of a run are sound.
use Rattle.napt_account.proofs.{InputEffects.effects_come, Effects.effects_are_the_log}
use Rattle.napt_account.proofs.log.effects_are_the_log.Goals as goal

pub returns-clause-log : goal.returns-clause-log
returns-clause-log c = effects_are_the_log

pub returns-clause-come : goal.returns-clause-come
returns-clause-come c = effects_come c.runs_go_on.ensures.alike c.taken_states_are_kept.ensures.sound

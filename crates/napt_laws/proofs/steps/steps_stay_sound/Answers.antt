-- `steps_stay_sound`: the list is still sound after a purge and after each packet.
use Rattle.napt_laws.proofs.StepsSound.{purge_stays_sound, out_stays_sound, in_stays_sound, sound_is_apart}
use Rattle.napt_laws.proofs.steps.steps_stay_sound.Goals as goal

pub returns-clause-purge : goal.returns-clause-purge
returns-clause-purge c = purge_stays_sound

pub returns-clause-outbound : goal.returns-clause-outbound
returns-clause-outbound c = out_stays_sound

pub returns-clause-inbound : goal.returns-clause-inbound
returns-clause-inbound c = in_stays_sound

pub returns-clause-apart : goal.returns-clause-apart
returns-clause-apart c = sound_is_apart

-- `runs_are_sound`: after any inputs the list is sound, and no two bindings share an endpoint.
use Rattle.napt_rules.specs.Prelude.{RunsAreSound}
use Rattle.napt_laws.proofs.RunsSound.{runs_sound, runs_apart}
use Rattle.napt_laws.proofs.runs.runs_are_sound.Goals as goal

pub returns-clause-sound : goal.returns-clause-sound
returns-clause-sound c = runs_sound c.packets_carry_numbers.ensures c.steps_stay_sound.ensures.outbound
    c.steps_stay_sound.ensures.inbound c.opening_is_sound.ensures

pub returns-clause-apart : goal.returns-clause-apart
returns-clause-apart c =
    let sound : RunsAreSound = runs_sound c.packets_carry_numbers.ensures c.steps_stay_sound.ensures.outbound
    c.steps_stay_sound.ensures.inbound c.opening_is_sound.ensures in
    runs_apart c.steps_stay_sound.ensures.apart sound

-- `opening_is_sound`: the list of a configuration's redirects is sound.
use Rattle.napt_laws.proofs.OpeningList.{opening_sound}
use Rattle.napt_laws.proofs.steps.opening_is_sound.Goals as goal

pub returns : goal.returns
returns c = opening_sound

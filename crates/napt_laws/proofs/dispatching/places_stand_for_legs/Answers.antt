-- `places_stand_for_legs`: one more input adds its first leg, and a placeholder that the end of that leg resolves.
use Rattle.napt_laws.proofs.SecondLegsByNumber.{answers_fill, places_stand}
use Rattle.napt_laws.proofs.dispatching.places_stand_for_legs.Goals as goal

pub returns-clause-fill : goal.returns-clause-fill
returns-clause-fill c = answers_fill

pub returns-clause-stand : goal.returns-clause-stand
returns-clause-stand c = places_stand c.right_answers.ensures.foretold

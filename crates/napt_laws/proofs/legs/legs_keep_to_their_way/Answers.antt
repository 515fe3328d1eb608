-- `legs_keep_to_their_way`: errors change no binding, and a leg ends at its side.
use Rattle.napt_laws.proofs.LegLaws.{errors_change_nothing, legs_end_at_their_side, in_stays_in}
use Rattle.napt_laws.proofs.legs.legs_keep_to_their_way.Goals as goal

pub returns-clause-errors : goal.returns-clause-errors
returns-clause-errors c = errors_change_nothing

pub returns-clause-sides : goal.returns-clause-sides
returns-clause-sides c = legs_end_at_their_side

pub returns-clause-incoming : goal.returns-clause-incoming
returns-clause-incoming c = in_stays_in

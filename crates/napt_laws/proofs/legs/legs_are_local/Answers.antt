-- `legs_are_local`: the legs of an address on its own bindings have the answers and the bindings of the run.
use Rattle.napt_laws.proofs.LegsAlone.{legs_answer_alone, legs_leave_their_own}
use Rattle.napt_laws.proofs.legs.legs_are_local.Goals as goal

pub returns-clause-answers : goal.returns-clause-answers
returns-clause-answers c = legs_answer_alone

pub returns-clause-leaves : goal.returns-clause-leaves
returns-clause-leaves c = legs_leave_their_own

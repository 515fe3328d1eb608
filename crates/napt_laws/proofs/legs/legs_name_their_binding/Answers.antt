-- `legs_name_their_binding`: a leg records the binding that is found after it; an error or a drop records none.
use Rattle.napt_laws.proofs.BindingUseLaws.{out_says_its_binding, in_says_its_binding, errors_go_through_none, dropped_go_through_none}
use Rattle.napt_laws.proofs.legs.legs_name_their_binding.Goals as goal

pub returns-clause-outbound : goal.returns-clause-outbound
returns-clause-outbound c = out_says_its_binding

pub returns-clause-inbound : goal.returns-clause-inbound
returns-clause-inbound c = in_says_its_binding

pub returns-clause-errors : goal.returns-clause-errors
returns-clause-errors c = errors_go_through_none

pub returns-clause-dropped : goal.returns-clause-dropped
returns-clause-dropped c = dropped_go_through_none

-- `own_states_stay`: the configuration of a run accepts the state after it without a change.
use Rattle.napt_laws.proofs.OwnStates.{own_states_stay, own_states_are_taken}
use Rattle.napt_laws.proofs.runs.own_states_stay.Goals as goal

pub returns-clause-stay : goal.returns-clause-stay
returns-clause-stay c = own_states_stay

pub returns-clause-taken : goal.returns-clause-taken
returns-clause-taken c = own_states_are_taken c.packets_carry_numbers.ensures

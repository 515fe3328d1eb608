-- held_numbers_have_one_holder: the law, from the ends of bindings and the numbers in packets.
use Rattle.napt_binding.proofs.FirstEnds.{ends_are_first}
use Rattle.napt_account.proofs.HeldNumbers.{held_numbers}
use Rattle.napt_account.proofs.log.held_numbers_have_one_holder.Goals as goal

pub returns-clause-ends : goal.returns-clause-ends
returns-clause-ends c = ends_are_first

pub returns-clause-held : goal.returns-clause-held
returns-clause-held c = held_numbers ends_are_first c.packets_carry_numbers.ensures
    c.taken_states_are_kept.ensures.sound c.runs_go_on.ensures.alike
